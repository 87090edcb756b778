-- The words of a line.
use Rattle.std.specs.Prelude.{◌≡◌, ℕ, ◌<◌, ◌⊎◌, List, [], ◌∷◌, ◌++◌, length, slice_index_or}
use Rattle.std.specs.Borrow.{Bor}
use Rattle.std.specs.Str.Iter.{LacksByte}
use Rattle.std.specs.Str.Parse.{IsNumeral, digits_value}
use Rattle.std.specs.Char.{is_whitespace, is_not_whitespace}
use Rattle.std.specs.Str.{NoCharPasses, EmptyOrStartsWithPassing}

abbrev pub Words : Type 0
Words = List (Bor (List ℕ))

-- the word at a place, and no byte past the last word
abbrev pub word : Words → ℕ → List ℕ
word ws i = (slice_index_or ws i (record { ref_ptr = (0, 0); now = [] })).now

-- the words begin with this one
abbrev pub Begins : Words → List ℕ → Type 0
Begins ws name = word ws 0 ≡ name

-- the word at a place writes the number
abbrev pub Writes : ℕ → Words → ℕ → ℕ → Type 0
Writes radix ws i n = IsNumeral radix (word ws i) × (n ≡ digits_value radix (word ws i))

-- what stands before a line's first '#', or the whole line where it has none
abbrev pub Uncommented : List ℕ → List ℕ → Type 0
Uncommented line code = LacksByte 35 code × ((code ≡ line) ⊎ ((comment : List ℕ) × (line ≡ code ++ (35 ∷ comment))))

-- the first words of a text, with blanks before each and none in it, and what is left of the text
pub data Spaced (text : List ℕ) : Words → List ℕ → Type 0 where
  start : Spaced text [] text
  next : (ws : Words) (w : Bor (List ℕ)) (left gap rest more : List ℕ) → Spaced text ws left → left ≡ gap ++ (w.now ++ rest) → 0 < length w.now → NoCharPasses is_not_whitespace gap → NoCharPasses is_whitespace w.now → EmptyOrStartsWithPassing is_whitespace rest more → Spaced text (ws ++ (w ∷ [])) rest

-- all words of a text: what is left is blank
abbrev pub WordsOf : List ℕ → Words → Type 0
WordsOf text ws = (left : List ℕ) × Spaced text ws left × NoCharPasses is_not_whitespace left
