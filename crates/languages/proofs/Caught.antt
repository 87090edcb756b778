-- The test of a type against its ancestors decides the relation.
use Rattle.std.proofs.Common.{◌≡◌, ℕ, zero, suc, ◌≤◌, true, false, ◌⊎◌, List, Some, None, Decides, sym, refl, ap, ◌∙◌, subst, inl, inr, arith}
use Rattle.std.proofs.lemmas.Bool.{cases_eq, eqb-true}
use Rattle.languages.specs.Types.{parent_of, caught_within, caught_in, some_parent, Catches, itself, ancestor}

module _ (parents : List ℕ) where
  parent_none : parent_of parents 0 ≡ 0
  parent_none = grind arith

  parent_le : (t k : ℕ) → t ≤ suc k → parent_of parents t ≤ k
  parent_le t k h = grind arith

  -- more generations than the type's number change nothing
  caught_same : (k j c t : ℕ) → t ≤ k → t ≤ j → caught_within k parents c t ≡ caught_within j parents c t
  caught_same zero zero c t h g = refl
  caught_same zero (suc j) c t h g =
      let e : t ≡ 0 = omega arith in
      let n : parent_of parents t ≡ 0 = rw e parent_none in
      grind arith
  caught_same (suc k) zero c t h g =
      let e : t ≡ 0 = omega arith in
      let n : parent_of parents t ≡ 0 = rw e parent_none in
      grind arith
  caught_same (suc k) (suc j) c t h g =
      let r = caught_same k j c (parent_of parents t) (parent_le t k h) (parent_le t j g) in
      grind arith

  within_self : (k c t : ℕ) → t ≡ c → caught_within k parents c t ≡ true
  within_self zero c t e = grind arith
  within_self (suc k) c t e = grind arith

  within_none : (k c t : ℕ) → (t ≡ c → ⊥) → parent_of parents t ≡ 0 → caught_within k parents c t ≡ false
  within_none zero c t h e = grind arith
  within_none (suc k) c t h e = grind arith

  -- one step up
  pub caught_up : (c t : ℕ) → (t ≡ c → ⊥) → (parent_of parents t ≡ 0 → ⊥) → caught_in parents c t ≡ caught_in parents c (parent_of parents t)
  unfolding caught_in
  caught_up c zero h g = absurd (g parent_none)
  caught_up c (suc k) h g =
      let r = caught_same k (parent_of parents (suc k)) c (parent_of parents (suc k)) (parent_le (suc k) k (omega arith)) (omega arith) in
      grind arith

  pub caught_self : (c t : ℕ) → t ≡ c → caught_in parents c t ≡ true
  unfolding caught_in
  caught_self c t = within_self t c t

  -- the same for the option
  pub caught_by_parent : (c t p : ℕ) → (t ≡ c → ⊥) → Some p ≡ some_parent parents t → caught_in parents c p ≡ caught_in parents c t
  caught_by_parent c t p h e = go (cases_eq (parent_of parents t) 0)
    where
      go : (parent_of parents t ≡ 0) ⊎ (parent_of parents t ≡ 0 → ⊥) → caught_in parents c p ≡ caught_in parents c t
      go (inl n) = absurd (grind arith)
      go (inr m) = let q : p ≡ parent_of parents t = grind arith in ap (caught_in parents c) q ∙ sym (caught_up c t h m)

  pub caught_none : (c t : ℕ) → (t ≡ c → ⊥) → None ≡ some_parent parents t → false ≡ caught_in parents c t
  unfolding caught_in
  caught_none c t h e = go (cases_eq (parent_of parents t) 0)
    where
      go : (parent_of parents t ≡ 0) ⊎ (parent_of parents t ≡ 0 → ⊥) → false ≡ caught_in parents c t
      go (inl n) = sym (within_none t c t h n)
      go (inr m) = absurd (grind arith)

  sound : (k c t : ℕ) → caught_within k parents c t ≡ true → Catches parents c t
  sound zero c t h = subst (λ x. Catches parents c x) (sym (eqb-true t c h)) itself
  sound (suc k) c t h = go (cases_eq t c) (cases_eq (parent_of parents t) 0) (sound k c (parent_of parents t))
    where
      go : (t ≡ c) ⊎ (t ≡ c → ⊥) → (parent_of parents t ≡ 0) ⊎ (parent_of parents t ≡ 0 → ⊥) → (caught_within k parents c (parent_of parents t) ≡ true → Catches parents c (parent_of parents t)) → Catches parents c t
      go (inl e) q r = subst (λ x. Catches parents c x) (sym e) itself
      go (inr n) (inl e) r = absurd (grind arith)
      go (inr n) (inr m) r = ancestor t (omega arith) (r (grind arith))

  complete : (c t : ℕ) → Catches parents c t → caught_in parents c t ≡ true
  complete c _ itself = caught_self c c refl
  complete c _ (ancestor t h r) = go (cases_eq t c) (complete c (parent_of parents t) r)
    where
      go : (t ≡ c) ⊎ (t ≡ c → ⊥) → caught_in parents c (parent_of parents t) ≡ true → caught_in parents c t ≡ true
      go (inl e) q = caught_self c t e
      go (inr n) q = caught_up c t n (λ e. omega arith) ∙ q

-- the test decides the relation
pub decides : (parents : List ℕ) (catch thrown : ℕ) → Decides (caught_in parents catch thrown) (Catches parents catch thrown)
unfolding caught_in
decides parents catch thrown = (sound parents thrown catch thrown, complete parents catch thrown)
