-- The walk along a chain, and the link that gives its verdict.
use Rattle.std.proofs.Common.{◌≡◌, ℕ, zero, suc, ◌<◌, ◌≤◌, Bool, true, false, ◌&&◌, ◌||◌, eqb, ltb, leb, ◌⊎◌, List, [], ◌∷◌, ◌++◌, length, ℤ, pos, negsuc, ◌+ℤ◌, Some, None, Ok, Err, Option, Result, sym, refl, ap, ◌∙◌, subst, inl, inr, arith}
use Rattle.std.proofs.lemmas.Bool.{eqb-true, and_parts, or_cases, true≢false}
use Rattle.std.specs.declared.ops.ControlFlow.{ControlFlow}
use Rattle.std.specs.declared.ops.ControlFlow.TheVariants.{Continue, Break}
use Rattle.personality.specs.declared.fault.Cause.TheVariants.{BadLink}
use Rattle.personality.specs.declared.fault.Fault.{Fault}
use Rattle.personality.specs.declared.verdict.Verdict.{Verdict}
use Rattle.personality.specs.declared.verdict.Verdict.TheVariants.{Cleanup, Handler, Terminate}
use Rattle.numbers.proofs.Law.{then_parts}
use Rattle.numbers.specs.Numbers.{leb128_at}
use Rattle.numbers.specs.Reading.{then, broken}
use Rattle.lsda.specs.Chain.{entry_at, hit_at, ending, onward, link_at, step_at, first_link_of, chain_at}
use Rattle.lsda.specs.Site.{is_0}
use Rattle.lsda.specs.Turns.{iterate}
use Rattle.lsda.specs.Verdict.{landed, verdict_of}
use Rattle.lsda.specs.declared.chain.Walk.{Walk}
use Rattle.lsda.specs.declared.header.Header.{Header}
use Rattle.lsda.specs.declared.site.Site.{Site}
use Rattle.table_laws.specs.Chains.{Link, Stands, Leads, at_once, through, Matches, FromLink, FromChain, start_of}
use Rattle.table_laws.specs.Sites.{In, here, there}

is_zero : (z : ℤ) → is_0 z ≡ true → z ≡ pos 0
is_zero (pos n) e = ap pos (eqb-true n 0 e)
is_zero (negsuc n) e = absurd cc

not_zero : (z : ℤ) → is_0 z ≡ false → z ≡ pos 0 → ⊥
not_zero z e f = true≢false (rw f at e)

-- what holds of the first and of each other holds of each
each_more : {A : Type 0} (P : A → Type 0) (x : A) (xs : List A) → P x → ((y : A) → In y xs → P y) → (y : A) → In y (x ∷ xs) → P y
each_more P x xs h k _ here = h
each_more P x xs h k y (there i) = k y i

ending_no_handler : (noted : Bool) (pad p : ℕ) (s : ℤ) → ending noted pad ≡ Handler p s → ⊥
ending_no_handler true pad p s e = cc
ending_no_handler false pad p s e = cc

ending_no_terminate : (noted : Bool) (pad : ℕ) → ending noted pad ≡ Terminate → ⊥
ending_no_terminate true pad e = cc
ending_no_terminate false pad e = cc

ending_cleanup : (noted : Bool) (pad p : ℕ) → ending noted pad ≡ Cleanup p → (noted ≡ true) × (pad ≡ p)
ending_cleanup true pad p e = (refl, cc)
ending_cleanup false pad p e = absurd cc

module _ (bs : List ℕ) (start : ℕ) (h : Header) (matches : ℕ → Bool) (forced : Bool) (pad : ℕ) where
  abbrev Hit : Link → Type 0
  Hit l = Matches bs start h.types matches forced l

  abbrev hit : Link → Result Bool Fault
  hit l = hit_at bs start h.types matches forced l.filter.value l.at

  -- a filter that is found to match names an entry that matches
  hit_yes : (z : ℤ) (f : Bool) (at : ℕ) → hit_at bs start h.types matches f z at ≡ Ok true → (n : ℕ) × (type : ℕ) × (f ≡ false) × (0 < n) × (z ≡ pos n) × (entry_at bs start h.types n at ≡ Ok type) × (matches type ≡ true)
  hit_yes (pos zero) f at e = absurd cc
  hit_yes (pos (suc n)) true at e =
      let some : eqb (suc n) 0 ≡ false = grind arith in
      let g = rw (some, hit_at) at e in
      absurd cc
  hit_yes (pos (suc n)) false at e =
      let some : eqb (suc n) 0 ≡ false = grind arith in
      let p = then_parts (entry_at bs start h.types (suc n) at) (λ type. Ok (matches type)) true (rw (some, hit_at) at e) in
      (suc n, p.0, refl, omega arith, refl, p.1, cc p.2)
  hit_yes (negsuc n) true at e = absurd cc
  hit_yes (negsuc n) false at e = absurd cc

  hit_true : (l : Link) → hit l ≡ Ok true → Hit l
  hit_true l e =
      let p = hit_yes l.filter.value forced l.at e in
      record { n = p.0; type = p.1; plain = p.2; positive = p.3; filter = p.4; entry = p.5; match = p.6 }

  -- and an entry that matches is found to match
  hit_pos : (at n type : ℕ) → entry_at bs start h.types (suc n) at ≡ Ok type → matches type ≡ true → hit_at bs start h.types matches false (pos (suc n)) at ≡ Ok true
  hit_pos at n type e m =
      let some : eqb (suc n) 0 ≡ false = grind arith in
      rw (some, hit_at) (ap (λ r. then r (λ t. Ok (matches t))) e ∙ ap (λ (b : Bool). Ok b) m)

  hit_matches : (z : ℤ) (f : Bool) (at n type : ℕ) → f ≡ false → 0 < n → z ≡ pos n → entry_at bs start h.types n at ≡ Ok type → matches type ≡ true → hit_at bs start h.types matches f z at ≡ Ok true
  hit_matches z f at zero type p l q e m = absurd (omega arith)
  hit_matches z f at (suc n) type p l q e m =
      subst (λ y. hit_at bs start h.types matches y z at ≡ Ok true) (sym p)
      (subst (λ y. hit_at bs start h.types matches false y at ≡ Ok true) (sym q) (hit_pos at n type e m))

  hit_false : (l : Link) → hit l ≡ Ok false → Hit l → ⊥
  hit_false l e m =
      let f = hit_matches l.filter.value forced l.at m.n m.type m.plain m.positive m.filter m.entry m.match in
      cc

  -- where a walk goes after a link that does not match
  abbrev next_walk : Walk → Link → Walk
  next_walk w l = record { at = pos l.filter.next +ℤ l.displacement.value; from = l.filter.next; noted = w.noted || is_0 l.filter.value }

  -- what one step of a walk may give
  data Step (w : Walk) : ControlFlow Verdict Walk → Type 0 where
    matched : (l : Link) → w.at ≡ pos l.at → Stands bs h.sites.end l → Hit l → Step w (Break (Handler pad l.filter.value))
    ended : (l : Link) → w.at ≡ pos l.at → Stands bs h.sites.end l → (Hit l → ⊥) → l.displacement.value ≡ pos 0 → Step w (Break (ending (w.noted || is_0 l.filter.value) pad))
    passed : (l : Link) → w.at ≡ pos l.at → Stands bs h.sites.end l → (Hit l → ⊥) → (l.displacement.value ≡ pos 0 → ⊥) → Step w (Continue (next_walk w l))

  -- the link that was read gives the step
  judged : (w : Walk) (t : ControlFlow Verdict Walk) (l : Link) → w.at ≡ pos l.at → Stands bs h.sites.end l → (b : Bool) → hit l ≡ Ok b → ◌≡◌ {A = Result (ControlFlow Verdict Walk) Fault} (elim b [ true ↦ Ok (Break (Handler pad l.filter.value)) | false ↦ Ok (onward pad (w.noted || is_0 l.filter.value) l.filter l.displacement) ]) (Ok t) → Step w t
  judged w t l a s true q e = subst (Step w) (cc e) (matched l a s (hit_true l q))
  judged w t l a s false q e = go (is_0 l.displacement.value) refl
    where
      go : (z : Bool) → is_0 l.displacement.value ≡ z → Step w t
      go true z =
          let f : onward pad (w.noted || is_0 l.filter.value) l.filter l.displacement ≡ Break (ending (w.noted || is_0 l.filter.value) pad) = rw (z, onward) in
          subst (Step w) (cc (f, e)) (ended l a s (hit_false l q) (is_zero l.displacement.value z))
      go false z =
          let f : onward pad (w.noted || is_0 l.filter.value) l.filter l.displacement ≡ Continue (next_walk w l) = rw (z, onward) in
          subst (Step w) (cc (f, e)) (passed l a s (hit_false l q) (not_zero l.displacement.value z))

  linked : (w : Walk) (t : ControlFlow Verdict Walk) (at : ℕ) → w.at ≡ pos at → h.sites.end ≤ at → at < length bs → link_at bs start h.types matches forced pad w.noted at ≡ Ok t → Step w t
  linked w t at z g i e =
      let a = then_parts (leb128_at bs true at) _ t e in
      let b = then_parts (leb128_at bs true a.0.next) _ t a.2 in
      let c = then_parts (hit_at bs start h.types matches forced a.0.value at) _ t b.2 in
      let l : Link = record { at = at; filter = a.0; displacement = b.0 } in
      judged w t l z (record { first = g; inside = i; filter = a.1; displacement = b.1 }) c.0 c.1 c.2

  step_is : (w : Walk) (t : ControlFlow Verdict Walk) → step_at bs start h matches forced pad w ≡ Ok t → Step w t
  step_is w t e = go w.at refl
    where
      go : (z : ℤ) → w.at ≡ z → Step w t
      go (pos at) z = test (leb h.sites.end at && ltb at (length bs)) refl
        where
          test : (b : Bool) → (leb h.sites.end at && ltb at (length bs)) ≡ b → Step w t
          test true b =
              let p = and_parts (leb h.sites.end at) (ltb at (length bs)) b in
              linked w t at z (grind (arith, p.0)) (grind (arith, p.1)) (rw (z, step_at, b) at e)
          test false b = let f = rw (z, step_at, b) at e in absurd cc
      go (negsuc n) z = let f = rw (z, step_at) at e in absurd cc

  -- the walk of at most k steps
  abbrev walk : ℕ → Walk → Result Verdict Fault
  walk k w = iterate (step_at bs start h matches forced pad) (λ x. broken BadLink x.from) k w

  abbrev after : ℕ → ControlFlow Verdict Walk → Result Verdict Fault
  after k t = elim t [ Break v ↦ Ok v | Continue n ↦ walk k n ]

  handled : (k : ℕ) (w : Walk) (p : ℕ) (s : ℤ) → walk k w ≡ Ok (Handler p s) → (pad ≡ p) × FromLink bs start h matches forced k w.at s
  unfolding iterate
  handled zero w p s e = absurd cc
  handled (suc k) w p s e =
      let q = then_parts (step_at bs start h matches forced pad w) _ (Handler p s) e in
      go q.0 (step_is w q.0 q.1) q.2 (λ n. handled k n p s)
    where
      go : (t : ControlFlow Verdict Walk) → Step w t → after k t ≡ Ok (Handler p s) → ((n : Walk) → walk k n ≡ Ok (Handler p s) → (pad ≡ p) × FromLink bs start h matches forced k n.at s) → (pad ≡ p) × FromLink bs start h matches forced (suc k) w.at s
      go _ (matched l a d m) f ih =
          let same : pad ≡ p = cc in
          let selector : l.filter.value ≡ s = cc in (
            same,
            record {
              earlier = [];
              link = l;
              leads = subst (λ z. Leads bs h.sites.end z [] l) (sym a) (at_once l d);
              few = omega arith;
              selector_is = selector;
              matching = m;
              first_match = λ x i. elim i [ ];
            },
          )
      go _ (ended l a d m z) f ih = absurd (ending_no_handler (w.noted || is_0 l.filter.value) pad p s (cc f))
      go _ (passed l a d m z) f ih =
          let r = ih (next_walk w l) f in (
            r.0,
            record {
              earlier = l ∷ r.1.earlier;
              link = r.1.link;
              leads = subst (λ y. Leads bs h.sites.end y (l ∷ r.1.earlier) r.1.link) (sym a) (through l r.1.earlier r.1.link d z r.1.leads);
              few = omega (arith, r.1.few);
              selector_is = r.1.selector_is;
              matching = r.1.matching;
              first_match = each_more (λ x. Hit x → ⊥) l r.1.earlier m r.1.first_match;
            },
          )

  -- no walk ends in Terminate
  never_terminates : (k : ℕ) (w : Walk) → walk k w ≡ Ok Terminate → ⊥
  unfolding iterate
  never_terminates zero w e = cc
  never_terminates (suc k) w e =
      let q = then_parts (step_at bs start h matches forced pad w) _ Terminate e in
      go q.0 (step_is w q.0 q.1) q.2 (never_terminates k)
    where
      go : (t : ControlFlow Verdict Walk) → Step w t → after k t ≡ Ok Terminate → ((n : Walk) → walk k n ≡ Ok Terminate → ⊥) → ⊥
      go _ (matched l a d m) f ih = cc
      go _ (ended l a d m z) f ih = ending_no_terminate (w.noted || is_0 l.filter.value) pad (cc f)
      go _ (passed l a d m z) f ih = ih (next_walk w l) f

  -- a whole walk that ends in a cleanup: one was noted before, or a link of it has filter 0
  record Whole (most : ℕ) (w : Walk) : Type 0 where
    earlier : List Link
    last : Link
    leads : Leads bs h.sites.end w.at earlier last
    few : length earlier < most
    ends : last.displacement.value ≡ pos 0
    no_match : (e : Link) → In e (earlier ++ (last ∷ [])) → Hit e → ⊥
    cleanup : (w.noted ≡ true) ⊎ ((e : Link) × In e (earlier ++ (last ∷ [])) × (e.filter.value ≡ pos 0))

  cleaned : (k : ℕ) (w : Walk) (p : ℕ) → walk k w ≡ Ok (Cleanup p) → (pad ≡ p) × Whole k w
  unfolding iterate
  cleaned zero w p e = absurd cc
  cleaned (suc k) w p e =
      let q = then_parts (step_at bs start h matches forced pad w) _ (Cleanup p) e in
      go q.0 (step_is w q.0 q.1) q.2 (λ n. cleaned k n p)
    where
      noted_here : (l : Link) (es : List Link) (m : Link) → In l (es ++ (m ∷ [])) → (w.noted || is_0 l.filter.value) ≡ true → (w.noted ≡ true) ⊎ ((e : Link) × In e (es ++ (m ∷ [])) × (e.filter.value ≡ pos 0))
      noted_here l es m i b = elim (or_cases w.noted (is_0 l.filter.value) b) [ inl a ↦ inl a | inr a ↦ inr (l, i, is_zero l.filter.value a) ]

      carried : (l : Link) (es : List Link) (m : Link) → ((w.noted || is_0 l.filter.value) ≡ true) ⊎ ((e : Link) × In e (es ++ (m ∷ [])) × (e.filter.value ≡ pos 0)) → (w.noted ≡ true) ⊎ ((e : Link) × In e (l ∷ (es ++ (m ∷ []))) × (e.filter.value ≡ pos 0))
      carried l es m (inl b) = noted_here l (l ∷ es) m here b
      carried l es m (inr x) = inr (x.0, there x.1, x.2)

      go : (t : ControlFlow Verdict Walk) → Step w t → after k t ≡ Ok (Cleanup p) → ((n : Walk) → walk k n ≡ Ok (Cleanup p) → (pad ≡ p) × Whole k n) → (pad ≡ p) × Whole (suc k) w
      go _ (matched l a d m) f ih = absurd cc
      go _ (ended l a d m z) f ih =
          let r = ending_cleanup (w.noted || is_0 l.filter.value) pad p (cc f) in (
            r.1,
            record {
              earlier = [];
              last = l;
              leads = subst (λ y. Leads bs h.sites.end y [] l) (sym a) (at_once l d);
              few = omega arith;
              ends = z;
              no_match = each_more (λ x. Hit x → ⊥) l [] m (λ x i. elim i [ ]);
              cleanup = noted_here l [] l here r.0;
            },
          )
      go _ (passed l a d m z) f ih =
          let r = ih (next_walk w l) f in (
            r.0,
            record {
              earlier = l ∷ r.1.earlier;
              last = r.1.last;
              leads = subst (λ y. Leads bs h.sites.end y (l ∷ r.1.earlier) r.1.last) (sym a) (through l r.1.earlier r.1.last d z r.1.leads);
              few = omega (arith, r.1.few);
              ends = r.1.ends;
              no_match = each_more (λ x. Hit x → ⊥) l (r.1.earlier ++ (r.1.last ∷ [])) m r.1.no_match;
              cleanup = carried l r.1.earlier r.1.last r.1.cleanup;
            },
          )

-- a call site with a pad and an action has a chain
chained : (bs : List ℕ) (start : ℕ) (h : Header) (matches : ℕ → Bool) (forced : Bool) (site : Site) (pad : ℕ) → site.pad ≡ Some pad → eqb site.action.value 0 ≡ false → landed bs start h matches forced site ≡ chain_at bs start h matches forced pad (first_link_of h.sites.end site.action)
chained bs start h matches forced site pad p a = rw (p, landed, a)

-- a call site never gives Terminate
pub landed_goes_on : (bs : List ℕ) (start : ℕ) (h : Header) (matches : ℕ → Bool) (forced : Bool) (site : Site) → verdict_of (landed bs start h matches forced site) ≡ Terminate → ⊥
landed_goes_on bs start h matches forced site e = said (landed bs start h matches forced site) refl e
  where
    go : (o : Option ℕ) → site.pad ≡ o → (b : Bool) → eqb site.action.value 0 ≡ b → landed bs start h matches forced site ≡ Ok Terminate → ⊥
    go None o b a f = let g = rw (o, landed) at f in cc
    go (Some p) o true a f = let g = rw (o, landed, a) at f in cc
    go (Some p) o false a f = never_terminates bs start h matches forced p 64 (first_link_of h.sites.end site.action) (sym (chained bs start h matches forced site p o a) ∙ f)

    said : (r : Result Verdict Fault) → landed bs start h matches forced site ≡ r → verdict_of r ≡ Terminate → ⊥
    said (Ok v) f g = go site.pad refl (eqb site.action.value 0) refl (f ∙ ap (λ (x : Verdict). Ok x) g)
    said (Err x) f g = cc

pub handler_landed : (bs : List ℕ) (start : ℕ) (h : Header) (matches : ℕ → Bool) (forced : Bool) (site : Site) (pad : ℕ) (selector : ℤ) → landed bs start h matches forced site ≡ Ok (Handler pad selector) → (site.pad ≡ Some pad) × FromLink bs start h matches forced 64 (start_of h site) selector
handler_landed bs start h matches forced site pad selector e = go site.pad refl (eqb site.action.value 0) refl
  where
    go : (o : Option ℕ) → site.pad ≡ o → (b : Bool) → eqb site.action.value 0 ≡ b → (site.pad ≡ Some pad) × FromLink bs start h matches forced 64 (first_link_of h.sites.end site.action).at selector
    go None o b a = let f = rw (o, landed) at e in absurd cc
    go (Some p) o true a = let f = rw (o, landed, a) at e in absurd cc
    go (Some p) o false a =
        let r = handled bs start h matches forced p 64 (first_link_of h.sites.end site.action) pad selector (sym (chained bs start h matches forced site p o a) ∙ e) in
        (o ∙ ap (λ (n : ℕ). Some n) r.0, r.1)

pub cleanup_landed : (bs : List ℕ) (start : ℕ) (h : Header) (matches : ℕ → Bool) (forced : Bool) (site : Site) (pad : ℕ) → landed bs start h matches forced site ≡ Ok (Cleanup pad) → (site.pad ≡ Some pad) × ((site.action.value ≡ 0) ⊎ FromChain bs start h matches forced 64 (start_of h site))
cleanup_landed bs start h matches forced site pad e = go site.pad refl (eqb site.action.value 0) refl
  where
    chain : (p : ℕ) → Whole bs start h matches forced p 64 (first_link_of h.sites.end site.action) → FromChain bs start h matches forced 64 (first_link_of h.sites.end site.action).at
    chain p w = record {
      earlier = w.earlier;
      last = w.last;
      leads = w.leads;
      few = w.few;
      ends = w.ends;
      no_match = w.no_match;
      cleanup = elim w.cleanup [ inl a ↦ absurd (cc) | inr x ↦ x ];
    }

    go : (o : Option ℕ) → site.pad ≡ o → (b : Bool) → eqb site.action.value 0 ≡ b → (site.pad ≡ Some pad) × ((site.action.value ≡ 0) ⊎ FromChain bs start h matches forced 64 (first_link_of h.sites.end site.action).at)
    go None o b a = let f = rw (o, landed) at e in absurd cc
    go (Some p) o true a =
        let f = rw (o, landed, a) at e in
        let same : p ≡ pad = cc in
        (o ∙ ap (λ (n : ℕ). Some n) same, inl (eqb-true site.action.value 0 a))
    go (Some p) o false a =
        let r = cleaned bs start h matches forced p 64 (first_link_of h.sites.end site.action) pad (sym (chained bs start h matches forced site p o a) ∙ e) in
        (o ∙ ap (λ (n : ℕ). Some n) r.0, inr (chain p r.1))
