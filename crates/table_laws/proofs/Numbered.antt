-- The search for the n-th call site, over whole lists of numbered records.
use Rattle.std.proofs.Common.{◌≡◌, ℕ, zero, suc, ◌+◌, ◌-◌, ◌<◌, ◌≤◌, Bool, true, false, eqb, ltb, List, length, take, Some, None, Ok, Option, Result, refl, ap, ◌∙◌, arith}
use Rattle.std.proofs.lemmas.List.{length-take}
use Rattle.std.specs.declared.ops.ControlFlow.{ControlFlow}
use Rattle.std.specs.declared.ops.ControlFlow.TheVariants.{Continue, Break}
use Rattle.personality.specs.declared.fault.Cause.TheVariants.{BadAddress}
use Rattle.personality.specs.declared.fault.Fault.{Fault}
use Rattle.personality.specs.declared.verdict.Question.{Question}
use Rattle.personality.specs.declared.verdict.Verdict.{Verdict}
use Rattle.numbers.proofs.Law.{then_parts, unsigned_onward}
use Rattle.numbers.specs.Numbers.{unsigned_at}
use Rattle.numbers.specs.Reading.{then, broken}
use Rattle.numbers.specs.declared.number.Read.{Read}
use Rattle.lsda.specs.Chain.{matching}
use Rattle.lsda.specs.Site.{in_record_at, numbered_at, numbered_turn, look, find_site}
use Rattle.lsda.specs.Turns.{iterate}
use Rattle.lsda.specs.Verdict.{unlisted, landed, judged_at, verdict_of, leaf_verdict}
use Rattle.lsda.specs.declared.header.Header.{Header}
use Rattle.lsda.specs.declared.leaf.Table.{Table}
use Rattle.lsda.specs.declared.site.Search.{Search}
use Rattle.lsda.specs.declared.site.Site.{Site}
use Rattle.lsda.specs.declared.site.Wanted.TheVariants.{Nth}
use Rattle.table_laws.specs.Sites as sites
use Rattle.table_laws.specs.Sites.{Numbers, nth_site, NumbersLaw}
use Rattle.table_laws.proofs.Sites.{in_record_ok, unit_0}

-- a good record ends where its last field does
next_is : (t : Bool) (at : ℕ) (x r : Read Site) → ◌≡◌ {A = Result (Read Site) Fault} (elim t [ true ↦ broken BadAddress at | false ↦ Ok x ]) (Ok r) → x.next ≡ r.next
next_is true at x r e = absurd cc
next_is false at x r e = cc

numbered_onward : (bs : List ℕ) (at : ℕ) (r : Read Site) → numbered_at bs at ≡ Ok r → at < r.next
numbered_onward bs at r e =
    let a = then_parts (in_record_at (unsigned_at bs at) at) _ r e in
    let b = then_parts (in_record_at (unsigned_at bs a.0.next) at) _ r a.2 in
    let p = unsigned_onward bs at a.0 (in_record_ok (unsigned_at bs at) at a.0 a.1) in
    let n = unsigned_onward bs a.0.next b.0 (in_record_ok (unsigned_at bs a.0.next) at b.0 b.1) in
    let same = next_is (eqb a.0.value 4294967295) at (record { value = record { pad = Some (a.0.value + 1); action = record { value = b.0.value; at = a.0.next } }; next = b.0.next }) r b.2 in
    omega arith

module _ (bs : List ℕ) (h : Header) (function : ℕ) where
  -- the search for the n-th record from an offset on, of at most k turns
  abbrev search_from : ℕ → ℕ → ℕ → Result (Option Site) Fault
  search_from k at n = iterate (look bs h function) (λ _. Ok None) k (record { at = at; wanted = Nth n })

  abbrev after : ℕ → ControlFlow (Option Site) Search → Result (Option Site) Fault
  after k t = elim t [ Break site ↦ Ok site | Continue s ↦ iterate (look bs h function) (λ _. Ok None) k s ]

  look_none : (at n : ℕ) → length bs ≤ at → look bs h function (record { at = at; wanted = Nth n }) ≡ Ok (Break None)
  look_none at n g = let b : ltb at (length bs) ≡ false = grind arith in rw (b, look)

  look_more : (at n : ℕ) (r : Read Site) → at < length bs → numbered_at bs at ≡ Ok r → look bs h function (record { at = at; wanted = Nth n }) ≡ elim (eqb n 0) [ true ↦ Ok (Break None) | false ↦ Ok (numbered_turn n r) ]
  look_more at n r g e = let b : ltb at (length bs) ≡ true = grind arith in rw (b, look) (ap (λ x. elim (eqb n 0) [ true ↦ Ok (Break None) | false ↦ then x (λ y. Ok (numbered_turn n y)) ]) e)

  turned : (k n : ℕ) (r : Read Site) (o : Option Site) (a b : Bool) → search_from k r.next (n - 1) ≡ Ok o → then (elim a [ true ↦ Ok (Break None) | false ↦ Ok (elim b [ true ↦ Break (Some r.value) | false ↦ Continue (record { at = r.next; wanted = Nth (n - 1) }) ]) ]) (after k) ≡ Ok (elim a [ true ↦ None | false ↦ elim b [ true ↦ Some r.value | false ↦ o ] ])
  turned k n r o true b e = refl
  turned k n r o false true e = refl
  turned k n r o false false e = e

  -- enough turns find the n-th call site of the list
  found : (k at n : ℕ) (rs : List (Read Site)) → Numbers bs at rs → length bs ≤ at + k → search_from k at n ≡ Ok (nth_site n rs)
  unfolding iterate
  found zero at n _ (sites.none _ g) l = refl
  found (suc k) at n _ (sites.none _ g) l = ap (λ x. then x (after k)) (look_none at n g)
  found zero at n _ (sites.more _ r rs g e m) l = absurd (omega arith)
  found (suc k) at n _ (sites.more _ r rs g e m) l =
      let on = numbered_onward bs at r e in
      let ih = found k r.next (n - 1) rs m (omega arith) in
      ap (λ x. then x (after k)) (look_more at n r g e) ∙ turned k n r (nth_site (n - 1) rs) (eqb n 0) (eqb n 1) ih

module _ {L : Type 0} (native : ℕ) (caught : ℕ → ℕ → Bool) (t : Table L) (image : List ℕ) (q : Question) where
  pub numbers_law : (r : Verdict) → r ≡ leaf_verdict native caught t image q → NumbersLaw native caught t image q r
  numbers_law r is bs h rs layout unit small image_is header_is records =
      let end = h.sites.end in
      let short : length (take end bs) ≤ h.sites.at + (end - h.sites.at) = omega (arith, length-take end bs) in
      let find : find_site (take end bs) h t.function (Nth q.place) ≡ Ok (nth_site q.place rs) = found (take end bs) h t.function (end - h.sites.at) h.sites.at q.place rs records short in
      let asks : ltb q.place 2147483648 ≡ true = grind arith in
      let verdict : Option Site → Result Verdict Fault = λ o. elim o [ None ↦ Ok (unlisted q.forced) | Some site ↦ landed bs t.start h (matching native caught q) q.forced site ] in
      let judged : judged_at native caught t image q ≡ verdict (nth_site q.place rs) = rw (image_is, judged_at, layout, header_is, asks, find) in
      is ∙ unit_0 q (verdict_of (judged_at native caught t image q)) unit ∙ ap verdict_of judged ∙ said (nth_site q.place rs)
    where
      said : (o : Option Site) → verdict_of (elim o [ None ↦ Ok (unlisted q.forced) | Some site ↦ landed bs t.start h (matching native caught q) q.forced site ]) ≡ elim o [ None ↦ unlisted q.forced | Some site ↦ verdict_of (landed bs t.start h (matching native caught q) q.forced site) ]
      said None = refl
      said (Some site) = refl
