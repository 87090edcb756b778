-- A forced question gets neither a handler nor a termination from a table.
use Rattle.std.specs.Prelude.{◌≡◌, ℕ, zero, suc, Bool, true, false, ◌&&◌, ◌||◌, List, length, take, ℤ, pos, negsuc, ◌+ℤ◌, IfOk, Some, None, Ok, Err, Option, Result, ◌==◌, nat_le, nat_lt, refl}
use Rattle.std.specs.declared.ops.ControlFlow.{ControlFlow}
use Rattle.std.specs.declared.ops.ControlFlow.TheVariants.{Continue, Break}
use Rattle.personality.specs.Layers.{in_unit_0}
use Rattle.personality.specs.Verdicts.{Harmless}
use Rattle.personality.specs.declared.fault.Fault.{Fault}
use Rattle.personality.specs.declared.verdict.Question.{Question}
use Rattle.personality.specs.declared.verdict.Verdict.{Verdict}
use Rattle.personality.specs.declared.verdict.Verdict.TheVariants.{Nothing}
use Rattle.numbers.specs.Numbers.{leb128_at}
use Rattle.numbers.specs.Reading.{Number, then}
use Rattle.lsda.specs.Chain.{matching, hit_at, ending, onward, link_at, step_at, first_link_of}
use Rattle.lsda.specs.Header.{header_at}
use Rattle.lsda.specs.Site.{is_0, find_site, wanted_of}
use Rattle.lsda.specs.Turns.{iterate}
use Rattle.lsda.specs.Verdict.{table_bytes, unlisted, landed, judged_at, verdict_of, leaf_verdict}
use Rattle.lsda.specs.declared.chain.Walk.{Walk}
use Rattle.lsda.specs.declared.header.Header.{Header}
use Rattle.lsda.specs.declared.leaf.Table.{Table}
use Rattle.lsda.specs.declared.site.Site.{Site}
use Rattle.lsda.specs.declared.site.Wanted.{Wanted}

-- what holds of each good answer of f holds of the answer after r
made_then : {A B : Type 0} (P : B → Type 0) (r : Result A Fault) (f : A → Result B Fault) → ((x : A) → IfOk (f x) P) → IfOk (then r f) P
made_then P (Ok x) f h = h x
made_then P (Err e) f h = tt

made_test : {A : Type 0} (P : A → Type 0) (b : Bool) (x y : Result A Fault) → IfOk x P → IfOk y P → IfOk (elim b [ true ↦ x | false ↦ y ]) P
made_test P true x y h k = h
made_test P false x y h k = k

-- a turn that answers gives no harm
abbrev Quiet : ControlFlow Verdict Walk → Type 0
Quiet t = elim t [ Break verdict ↦ Harmless verdict | Continue _ ↦ Unit {0} ]

ending_harmless : (noted : Bool) (pad : ℕ) → Harmless (ending noted pad)
ending_harmless true pad = tt
ending_harmless false pad = tt

or_true : (b : Bool) → (b || true) ≡ true
or_true true = refl
or_true false = refl

module _ (bs : List ℕ) (start : ℕ) (h : Header) (matches : ℕ → Bool) (pad : ℕ) where
  onward_quiet : (noted : Bool) (f d : Number) → Quiet (onward pad noted f d)
  onward_quiet noted f d = go (is_0 d.value)
    where
      go : (b : Bool) → Quiet (elim b [ true ↦ Break (ending noted pad) | false ↦ Continue (record { at = pos f.next +ℤ d.value; from = f.next; noted = noted }) ])
      go true = ending_harmless noted pad
      go false = tt

  hit_forced : (z : ℤ) (at : ℕ) → hit_at bs start h.types matches true z at ≡ Ok false
  hit_forced z at = rw (or_true (is_0 z), hit_at)

  link_quiet : (noted : Bool) (at : ℕ) → IfOk (link_at bs start h.types matches true pad noted at) Quiet
  link_quiet noted at =
      made_then Quiet (leb128_at bs true at) _ (λ f.
      made_then Quiet (leb128_at bs true f.next) _ (λ d.
      rw (hit_forced f.value at) (onward_quiet (noted || is_0 f.value) f d)))

  step_quiet : (w : Walk) → IfOk (step_at bs start h matches true pad w) Quiet
  step_quiet w = go w.at
    where
      go : (z : ℤ) → IfOk (step_at bs start h matches true pad (record { at = z; from = w.from; noted = w.noted })) Quiet
      go (pos p) = made_test Quiet (nat_le h.sites.end p && nat_lt p (length bs)) _ _ (link_quiet w.noted p) tt
      go (negsuc p) = tt

-- what each turn keeps, the loop answers
made_iterate : {S A : Type 0} (P : A → Type 0) (turn : S → Result (ControlFlow A S) Fault) (last : S → Result A Fault) → ((s : S) → IfOk (turn s) (λ t. elim t [ Break a ↦ P a | Continue _ ↦ Unit {0} ])) → ((s : S) → IfOk (last s) P) → (k : ℕ) (s : S) → IfOk (iterate turn last k s) P
unfolding iterate
made_iterate P turn last h e zero s = e s
made_iterate {S} {A} P turn last h e (suc k) s = go (turn s) (h s) (made_iterate P turn last h e k)
  where
    go : (r : Result (ControlFlow A S) Fault) → IfOk r (λ t. elim t [ Break a ↦ P a | Continue _ ↦ Unit {0} ]) → ((t : S) → IfOk (iterate turn last k t) P) → IfOk (then r (λ t. elim t [ Break a ↦ Ok a | Continue n ↦ iterate turn last k n ])) P
    go (Ok (Break v)) q ih = q
    go (Ok (Continue t)) q ih = ih t
    go (Err x) q ih = tt

landed_harmless : (bs : List ℕ) (start : ℕ) (h : Header) (matches : ℕ → Bool) (s : Site) → IfOk (landed bs start h matches true s) Harmless
landed_harmless bs start h matches s = go s.pad
  where
    go : (pad : Option ℕ) → IfOk (landed bs start h matches true (record { pad = pad; action = s.action })) Harmless
    go None = tt
    go (Some pad) =
        made_test Harmless (s.action.value == 0) _ _ tt
        (made_iterate Harmless (step_at bs start h matches true pad) _ (step_quiet bs start h matches pad) (λ _. tt) 64 (first_link_of h.sites.end s.action))

verdict_harmless : (r : Result Verdict Fault) → IfOk r Harmless → Harmless (verdict_of r)
verdict_harmless (Ok v) h = h
verdict_harmless (Err e) h = tt

unit_harmless : (q : Question) (v : Verdict) → Harmless v → Harmless (in_unit_0 q v)
unit_harmless q v h = go (q.unit == 0) refl
  where
    go : (b : Bool) → (q.unit == 0) ≡ b → Harmless (in_unit_0 q v)
    go true e = rw e h
    go false e = rw e tt

pub harmless : {L : Type 0} (native : ℕ) (caught : ℕ → ℕ → Bool) (t : Table L) (image : List ℕ) (q : Question) → q.forced ≡ true → Harmless (leaf_verdict native caught t image q)
harmless native caught t image q e =
    unit_harmless q _ (verdict_harmless (judged_at native caught t image q)
    (made_then Harmless (table_bytes image t.start t.length) _ (λ bs.
    made_then Harmless (header_at bs t.layout t.start t.function) _ (λ h. seek bs h (wanted_of t.layout q.place)))))
  where
    found : (bs : List ℕ) (h : Header) (o : Option Site) → IfOk (elim o [ None ↦ Ok (unlisted q.forced) | Some s ↦ landed bs t.start h (matching native caught q) q.forced s ]) Harmless
    found bs h None = rw e tt
    found bs h (Some s) = rw e (landed_harmless bs t.start h (matching native caught q) s)

    seek : (bs : List ℕ) (h : Header) (o : Option Wanted) → IfOk (elim o [ None ↦ Ok Nothing | Some wanted ↦ then (find_site (take h.sites.end bs) h t.function wanted) (λ f. elim f [ None ↦ Ok (unlisted q.forced) | Some s ↦ landed bs t.start h (matching native caught q) q.forced s ]) ]) Harmless
    seek bs h None = tt
    seek bs h (Some wanted) = made_then Harmless (find_site (take h.sites.end bs) h t.function wanted) _ (found bs h)
