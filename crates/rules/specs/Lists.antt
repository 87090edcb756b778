-- Small functions and statements on options and lists.
use Rattle.std.specs.Prelude.{◌≡◌, ℕ, Bool, false, ◌||◌, ◌⊎◌, List, [], ◌∷◌, ◌++◌, Some, None, Option, ◌==◌}

-- the first answer where there is none, the second at what there is
abbrev pub given : {A B : Type 0} → Option A → B → (A → B) → B
given None b f = b
given (Some a) b f = f a

-- the first answer at the empty list, the second at a list's first element and the rest
abbrev pub first : {A B : Type 0} → List A → B → (A → List A → B) → B
first [] b f = b
first (a ∷ rest) b f = f a rest

-- whether x stands in a list
unfoldable pub has : ℕ → List ℕ → Bool
has x [] = false
has x (y ∷ ys) = x == y || has x ys

-- a stands in a list
abbrev pub In : {A : Type 0} → A → List A → Type 0
In a [] = ⊥
In a (b ∷ rest) = (a ≡ b) ⊎ In a rest

-- no number stands twice in a list
abbrev pub Distinct : List ℕ → Type 0
Distinct [] = Unit {0}
Distinct (x ∷ xs) = (has x xs ≡ false) × Distinct xs

-- P holds of each
abbrev pub All : {A : Type 0} → (A → Type 0) → List A → Type 0
All P [] = Unit {0}
All P (a ∷ rest) = P a × All P rest

-- the second list begins with the first
abbrev pub Begins : {A : Type 0} → List A → List A → Type 0
Begins {A} front whole = (rest : List A) × (whole ≡ front ++ rest)
