-- Laws of tests, membership and lists without repetition.
use Rattle.std.proofs.Common.{◌≡◌, ℕ, Bool, true, false, ◌||◌, eqb, List, [], ◌∷◌, ◌++◌, Some, None, Option, sym, refl, ◌∙◌}
use Rattle.std.proofs.Math.Bool.{or_assoc, or_comm, or-true}
use Rattle.std.proofs.lemmas.Bool.{eqb-true, eqb-false, eq-eqb, ne_eqb, or_parts, or_right, false≢true}
use Rattle.rules.specs.Lists.{given, has, Distinct, All}

pub given_both : {A B : Type 0} (o : Option A) (b : B) (f : A → B) (P : B → Type 0) → (o ≡ None → P b) → ((a : A) → o ≡ Some a → P (f a)) → P (given o b f)
given_both None b f P n k = n refl
given_both (Some a) b f P n k = k a refl

pub or_front : (p q r : Bool) → (p || (q || r)) ≡ (q || (p || r))
or_front true true r = refl
or_front true false r = refl
or_front false q r = refl

pub has_append : (y : ℕ) (a b : List ℕ) → has y (a ++ b) ≡ (has y a || has y b)
unfolding has
has_append y [] b = refl
has_append y (x ∷ a) b = rw (has_append y a b) (sym (or_assoc (eqb y x) (has y a) (has y b)))

pub has_none : (y : ℕ) → has y [] ≡ false
unfolding has
has_none y = refl

pub has_cons : (y x : ℕ) (a : List ℕ) → has y (x ∷ a) ≡ (eqb y x || has y a)
unfolding has
has_cons y x a = refl

-- an element at a place, and away from it
pub has_here : (x : ℕ) (a : List ℕ) → has x (x ∷ a) ≡ true
unfolding has
has_here x a = rw (eq-eqb x x refl)

pub has_skip : (y x : ℕ) (a : List ℕ) → eqb y x ≡ false → has y (x ∷ a) ≡ has y a
unfolding has
has_skip y x a e = rw e

pub has_later : (y x : ℕ) (a : List ℕ) → has y a ≡ true → has y (x ∷ a) ≡ true
unfolding has
has_later y x a e = or_right (eqb y x) (has y a) e

pub has_left : (x : ℕ) (a b : List ℕ) → has x a ≡ true → has x (a ++ b) ≡ true
has_left x a b e = rw (has_append x a b, e)

pub has_right : (x : ℕ) (a b : List ℕ) → has x b ≡ true → has x (a ++ b) ≡ true
has_right x a b e = rw (has_append x a b, e) (or-true (has x a))

-- membership in a list that is put together in another order
pub has_swap : (y : ℕ) (a b : List ℕ) → has y (a ++ b) ≡ has y (b ++ a)
has_swap y a b = rw (has_append y a b, has_append y b a) (or_comm (has y a) (has y b))

pub has_both : (y : ℕ) (a a' b b' : List ℕ) → has y a ≡ has y a' → has y b ≡ has y b' → has y (a ++ b) ≡ has y (a' ++ b')
has_both y a a' b b' e f = rw (has_append y a b, has_append y a' b', e, f)

pub has_move : (y x : ℕ) (a b : List ℕ) → has y (a ++ (x ∷ b)) ≡ has y (x ∷ (a ++ b))
unfolding has
has_move y x a b = rw (has_append y a (x ∷ b), has_append y a b) (or_front (has y a) (eqb y x) (has y b))

pub tell_apart : (y x : ℕ) → eqb x y ≡ false → eqb y x ≡ false
tell_apart y x e = let ne = eqb-false x y e in ne_eqb y x (λ p. ne (sym p))

-- lists without repetition

pub distinct_push : (x : ℕ) (q : List ℕ) → has x q ≡ false → Distinct q → Distinct (q ++ (x ∷ []))
unfolding has
distinct_push x [] e d = (refl, tt)
distinct_push x (y ∷ q) e d =
    let es = or_parts (eqb x y) (has x q) e in
    (rw (has_append y q (x ∷ []), d.0, tell_apart y x es.0), distinct_push x q es.1 d.1)

pub distinct_drop : (x : ℕ) (a b : List ℕ) → Distinct (a ++ (x ∷ b)) → Distinct (a ++ b)
unfolding has
distinct_drop x [] b d = d.1
distinct_drop x (z ∷ a) b d =
    let e = or_parts (has z a) (eqb z x || has z b) (sym (has_append z a (x ∷ b)) ∙ d.0) in
    let f = or_parts (eqb z x) (has z b) e.1 in
    (rw (has_append z a b, e.0) f.1, distinct_drop x a b d.1)

pub distinct_out : (x : ℕ) (a b : List ℕ) → Distinct (a ++ (x ∷ b)) → has x (a ++ b) ≡ false
unfolding has
distinct_out x [] b d = d.0
distinct_out x (z ∷ a) b d =
    let e = or_parts (has z a) (eqb z x || has z b) (sym (has_append z a (x ∷ b)) ∙ d.0) in
    let f = or_parts (eqb z x) (has z b) e.1 in
    rw (tell_apart x z f.0) (distinct_out x a b d.1)

pub distinct_in : (x : ℕ) (a b : List ℕ) → has x (a ++ b) ≡ false → Distinct (a ++ b) → Distinct (a ++ (x ∷ b))
unfolding has
distinct_in x [] b e d = (e, d)
distinct_in x (z ∷ a) b e d =
    let es = or_parts (eqb x z) (has x (a ++ b)) e in
    let f = or_parts (has z a) (has z b) (sym (has_append z a b) ∙ d.0) in
    (rw (has_append z a (x ∷ b), f.0, tell_apart z x es.0) f.1, distinct_in x a b es.1 d.1)

pub distinct_apart : (x : ℕ) (a b : List ℕ) → Distinct (a ++ b) → has x a ≡ true → has x b ≡ false
unfolding has
distinct_apart x [] b d e = absurd (false≢true e)
distinct_apart x (z ∷ a) b d e = go (eqb x z) refl (distinct_apart x a b d.1) e
  where
    go : (c : Bool) → eqb x z ≡ c → (has x a ≡ true → has x b ≡ false) → (c || has x a) ≡ true → has x b ≡ false
    go true ec ih e = rw (eqb-true x z ec) (or_parts (has z a) (has z b) (sym (has_append z a b) ∙ d.0)).1
    go false ec ih e = ih e

-- All

pub all_append : {A : Type 0} (P : A → Type 0) (a b : List A) → All P a → All P b → All P (a ++ b)
all_append P [] b p q = q
all_append P (x ∷ a) b p q = (p.0, all_append P a b p.1 q)
