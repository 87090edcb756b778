-- The search for a place's call site, over whole lists of records.
use Rattle.std.proofs.Common.{◌≡◌, ℕ, zero, suc, ◌+◌, ◌-◌, ◌<◌, ◌≤◌, Bool, true, false, eqb, ltb, leb, ◌⊎◌, List, [], ◌∷◌, length, take, ℤ, pos, negsuc, Some, None, Ok, Err, Option, Result, sym, refl, ap, ◌∙◌, inl, inr, arith}
use Rattle.std.proofs.lemmas.List.{length-take}
use Rattle.std.proofs.lemmas.Bool.{cases_lt}
use Rattle.std.specs.declared.ops.ControlFlow.{ControlFlow}
use Rattle.std.specs.declared.ops.ControlFlow.TheVariants.{Continue, Break}
use Rattle.personality.specs.Layers.{in_unit_0}
use Rattle.personality.specs.declared.fault.Fault.{Fault}
use Rattle.personality.specs.declared.verdict.Question.{Question}
use Rattle.personality.specs.declared.verdict.Verdict.{Verdict}
use Rattle.numbers.proofs.Law.{then_parts, number_onward, unsigned_onward}
use Rattle.numbers.specs.Formats.{number_at}
use Rattle.numbers.specs.Numbers.{unsigned_at}
use Rattle.numbers.specs.Reading.{then}
use Rattle.numbers.specs.declared.format.Format.{Format}
use Rattle.numbers.specs.declared.number.Read.{Read}
use Rattle.lsda.specs.Chain.{matching}
use Rattle.lsda.specs.Site.{in_record_at, address, fields_at, ranged_at, ranged_turn, look, find_site}
use Rattle.lsda.specs.Turns.{iterate}
use Rattle.lsda.specs.Verdict.{unlisted, landed, judged_at, verdict_of, leaf_verdict}
use Rattle.lsda.specs.declared.header.Header.{Header}
use Rattle.lsda.specs.declared.leaf.Table.{Table}
use Rattle.lsda.specs.declared.site.Fields.{Fields}
use Rattle.lsda.specs.declared.site.Ranged.{Ranged}
use Rattle.lsda.specs.declared.site.Search.{Search}
use Rattle.lsda.specs.declared.site.Site.{Site}
use Rattle.lsda.specs.declared.site.Wanted.TheVariants.{Place}
use Rattle.table_laws.proofs.Chains.{landed_goes_on}
use Rattle.table_laws.specs.Sites as sites
use Rattle.table_laws.specs.Sites.{In, here, there, Records, Rising, Holds, Agrees, SitesLaw}

pub in_record_ok : {A : Type 0} (r : Result A Fault) (at : ℕ) (x : A) → in_record_at r at ≡ Ok x → r ≡ Ok x
in_record_ok (Ok y) at x e = e
in_record_ok (Err f) at x e = absurd cc

fields_onward : (bs : List ℕ) (f : Format) (at : ℕ) (r : Fields) → fields_at bs f at ≡ Ok r → at < r.action.next
fields_onward bs f at r e =
    let a = then_parts (in_record_at (number_at bs f at) at) _ r e in
    let b = then_parts (in_record_at (number_at bs f a.0.next) at) _ r a.2 in
    let c = then_parts (in_record_at (number_at bs f b.0.next) at) _ r b.2 in
    let d = then_parts (in_record_at (unsigned_at bs c.0.next) at) _ r c.2 in
    let same : d.0.next ≡ r.action.next = cc d.2 in
    omega (
      arith,
      number_onward bs f at a.0 (in_record_ok (number_at bs f at) at a.0 a.1),
      number_onward bs f a.0.next b.0 (in_record_ok (number_at bs f a.0.next) at b.0 b.1),
      number_onward bs f b.0.next c.0 (in_record_ok (number_at bs f b.0.next) at c.0 c.1),
      unsigned_onward bs c.0.next d.0 (in_record_ok (unsigned_at bs c.0.next) at d.0 d.1),
      same,
    )

-- an address lies at its base or above
address_above : (base : ℕ) (z : ℤ) (at r : ℕ) → address base z at ≡ Ok r → base ≤ r
address_above base (pos n) at r e = go (leb (base + n) 4294967295) refl
  where
    go : (b : Bool) → leb (base + n) 4294967295 ≡ b → base ≤ r
    go true f =
        let g = rw (f, address) at e in
        let same : base + n ≡ r = cc g in
        omega arith
    go false f = let g = rw (f, address) at e in absurd cc
address_above base (negsuc n) at r e = absurd cc

-- a record that is read goes on, and does not end before it begins
ranged_facts : (bs : List ℕ) (h : Header) (function at : ℕ) (r : Read Ranged) → ranged_at bs h function at ≡ Ok r → (at < r.next) × (r.value.from ≤ r.value.to)
ranged_facts bs h function at r e =
    let p = then_parts (fields_at bs h.sites.format at) _ r e in
    let a = then_parts (address function p.0.start.value at) _ r p.2 in
    let b = then_parts (address a.0 p.0.length.value p.0.start.next) _ r a.2 in
    let c = then_parts (address h.landing p.0.pad.value p.0.length.next) _ r b.2 in
    let part : (f : Read Ranged → ℕ) → Result (Read Ranged) Fault → ℕ = λ f x. elim x [ Ok y ↦ f y | Err _ ↦ 0 ] in
    let next : p.0.action.next ≡ r.next = ap (part (λ y. y.next)) c.2 in
    let from : a.0 ≡ r.value.from = ap (part (λ y. y.value.from)) c.2 in
    let to : b.0 ≡ r.value.to = ap (part (λ y. y.value.to)) c.2 in
    let up = address_above a.0 p.0.length.value p.0.start.next b.0 b.1 in
    let on = fields_onward bs h.sites.format at p.0 p.1 in
    (omega arith, omega arith)

-- what a list of records gives at a place
pick : ℕ → List (Read Ranged) → Option Site
pick place [] = None
pick place (r ∷ rs) = elim (ltb place r.value.from) [ true ↦ None | false ↦ elim (ltb place r.value.to) [ true ↦ Some r.value.site | false ↦ pick place rs ] ]

module _ (bs : List ℕ) (h : Header) (function place : ℕ) where
  -- the search from an offset on, of at most k turns
  abbrev search_from : ℕ → ℕ → Result (Option Site) Fault
  search_from k at = iterate (look bs h function) (λ _. Ok None) k (record { at = at; wanted = Place place })

  abbrev after : ℕ → ControlFlow (Option Site) Search → Result (Option Site) Fault
  after k t = elim t [ Break site ↦ Ok site | Continue s ↦ iterate (look bs h function) (λ _. Ok None) k s ]

  look_none : (at : ℕ) → length bs ≤ at → look bs h function (record { at = at; wanted = Place place }) ≡ Ok (Break None)
  look_none at g = let b : ltb at (length bs) ≡ false = grind arith in rw (b, look)

  look_more : (at : ℕ) (r : Read Ranged) → at < length bs → ranged_at bs h function at ≡ Ok r → look bs h function (record { at = at; wanted = Place place }) ≡ Ok (ranged_turn place r)
  look_more at r g e = let b : ltb at (length bs) ≡ true = grind arith in rw (b, look) (ap (λ x. then x (λ y. Ok (ranged_turn place y))) e)

  turned : (k : ℕ) (r : Read Ranged) (o : Option Site) (a b : Bool) → search_from k r.next ≡ Ok o → after k (elim a [ true ↦ Break None | false ↦ elim b [ true ↦ Break (Some r.value.site) | false ↦ Continue (record { at = r.next; wanted = Place place }) ] ]) ≡ Ok (elim a [ true ↦ None | false ↦ elim b [ true ↦ Some r.value.site | false ↦ o ] ])
  turned k r o true b e = refl
  turned k r o false true e = refl
  turned k r o false false e = e

  -- enough turns find what the list of records gives
  found : (k at : ℕ) (rs : List (Read Ranged)) → Records bs h function at rs → length bs ≤ at + k → search_from k at ≡ Ok (pick place rs)
  unfolding iterate pick
  found zero at _ (sites.none _ g) l = refl
  found (suc k) at _ (sites.none _ g) l = ap (λ x. then x (after k)) (look_none at g)
  found zero at _ (sites.more _ r rs g e m) l = absurd (omega arith)
  found (suc k) at _ (sites.more _ r rs g e m) l =
      let on = ranged_facts bs h function at r e in
      let ih = found k r.next rs m (omega (arith, on.0)) in
      ap (λ x. then x (after k)) (look_more at r g e) ∙ turned k r (pick place rs) (ltb place r.value.from) (ltb place r.value.to) ih

  sane : (at : ℕ) (rs : List (Read Ranged)) → Records bs h function at rs → (r : Read Ranged) → In r rs → r.value.from ≤ r.value.to
  sane at _ (sites.none _ g) r i = elim i [ ]
  sane at _ (sites.more _ r rs g e m) _ here = (ranged_facts bs h function at r e).1
  sane at _ (sites.more _ s rs g e m) r (there i) = sane s.next rs m r i

-- a list of records of which none ends before it begins
abbrev Sane : List (Read Ranged) → Type 0
Sane rs = (r : Read Ranged) → In r rs → r.value.from ≤ r.value.to

-- later records of a rising list begin where an earlier one ends, or later
later : (r : Read Ranged) (rs : List (Read Ranged)) → Rising (r ∷ rs) → Sane (r ∷ rs) → (s : Read Ranged) → In s rs → r.value.to ≤ s.value.from
later r _ (sites.one _) ok s i = elim i [ ]
later r _ (sites.more _ s rs g up) ok _ here = g
later r _ (sites.more _ t rs g up) ok s (there i) =
    let a = later t rs up (λ x j. ok x (there j)) s i in
    let b = ok t (there here) in
    omega arith

rest_rises : (r : Read Ranged) (rs : List (Read Ranged)) → Rising (r ∷ rs) → Rising rs
rest_rises r _ (sites.one _) = sites.none
rest_rises r _ (sites.more _ s rs g up) = up

module _ (place : ℕ) where
  pick_held : (r : Read Ranged) (rs : List (Read Ranged)) → In r rs → Rising rs → Sane rs → Holds place r → pick place rs ≡ Some r.value.site
  unfolding pick
  pick_held r _ (here {xs = rs}) up ok hold =
      let a : ltb place r.value.from ≡ false = grind (arith, hold.0) in
      let b : ltb place r.value.to ≡ true = grind (arith, hold.1) in
      rw (a, pick, b)
  pick_held r _ (there {y = s} {xs = rs} i) up ok hold =
      let g = later s rs up ok r i in
      let w = ok s here in
      let a : ltb place s.value.from ≡ false = grind (arith, hold.0) in
      let b : ltb place s.value.to ≡ false = grind (arith, hold.0) in
      rw (a, pick, b) (pick_held r rs i (rest_rises s rs up) (λ x j. ok x (there j)) hold)

  pick_unheld : (rs : List (Read Ranged)) → ((r : Read Ranged) → In r rs → Holds place r → ⊥) → pick place rs ≡ None
  unfolding pick
  pick_unheld [] free = refl
  pick_unheld (r ∷ rs) free = go (cases_lt place r.value.from) (cases_lt place r.value.to) (pick_unheld rs (λ s i. free s (there i)))
    where
      go : (place < r.value.from) ⊎ (r.value.from ≤ place) → (place < r.value.to) ⊎ (r.value.to ≤ place) → pick place rs ≡ None → pick place (r ∷ rs) ≡ None
      go (inl a) y ih = let b : ltb place r.value.from ≡ true = grind arith in rw (b, pick)
      go (inr a) (inl c) ih = absurd (free r here (a, c))
      go (inr a) (inr c) ih =
          let b : ltb place r.value.from ≡ false = grind arith in
          let d : ltb place r.value.to ≡ false = grind arith in
          rw (b, pick, d) ih

  one_held : (r s : Read Ranged) (rs : List (Read Ranged)) → In r rs → In s rs → Rising rs → Sane rs → Holds place r → Holds place s → r ≡ s
  one_held r _ _ here here up ok p q = refl
  one_held r s _ (here {xs = rs}) (there i) up ok p q = absurd (omega (arith, later r rs up ok s i, p.1, q.0))
  one_held r s _ (there i) (here {xs = rs}) up ok p q = absurd (omega (arith, later s rs up ok r i, q.1, p.0))
  one_held r s _ (there {y = t} {xs = rs} i) (there j) up ok p q = one_held r s rs i j (rest_rises t rs up) (λ x k. ok x (there k)) p q

-- a question to unit 0 gets the verdict itself
pub unit_0 : (q : Question) (v : Verdict) → q.unit ≡ 0 → in_unit_0 q v ≡ v
unit_0 q v e = let b : eqb q.unit 0 ≡ true = grind arith in rw (b, in_unit_0)

module _ {L : Type 0} (native : ℕ) (caught : ℕ → ℕ → Bool) (t : Table L) (image : List ℕ) (q : Question) where
  pub sites_law : (r : Verdict) → r ≡ leaf_verdict native caught t image q → SitesLaw native caught t image q r
  sites_law r is bs h rs layout unit image_is header_is records up =
      let end = h.sites.end in
      let short : length (take end bs) ≤ h.sites.at + (end - h.sites.at) = omega (arith, length-take end bs) in
      let find : find_site (take end bs) h t.function (Place q.place) ≡ Ok (pick q.place rs) = found (take end bs) h t.function q.place (end - h.sites.at) h.sites.at rs records short in
      let ok = sane (take end bs) h t.function q.place h.sites.at rs records in
      let verdict : Option Site → Result Verdict Fault = λ o. elim o [ None ↦ Ok (unlisted q.forced) | Some site ↦ landed bs t.start h (matching native caught q) q.forced site ] in
      let judged : judged_at native caught t image q ≡ verdict (pick q.place rs) = rw (image_is, judged_at, layout, header_is, find) in
      let whole : r ≡ verdict_of (verdict (pick q.place rs)) = is ∙ unit_0 q (verdict_of (judged_at native caught t image q)) unit ∙ ap verdict_of judged in
      record {
        listed = λ s i hold. whole ∙ ap (λ o. verdict_of (verdict o)) (pick_held q.place s rs i up ok hold);
        unlisted = λ free. whole ∙ ap (λ o. verdict_of (verdict o)) (pick_unheld q.place rs free);
        only = λ e s i hold. landed_goes_on bs t.start h (matching native caught q) q.forced s.value.site (sym (whole ∙ ap (λ o. verdict_of (verdict o)) (pick_held q.place s rs i up ok hold)) ∙ e);
        one = λ s u i j. one_held q.place s u rs i j up ok;
      }
