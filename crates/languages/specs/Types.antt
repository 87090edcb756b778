-- Types, their parents, and which types catch a thrown one.
use Rattle.std.specs.Prelude.{ℕ, zero, suc, ◌-◌, ◌<◌, Bool, true, false, List, Some, None, Option, ◌==◌, nat_lt, slice_index}

-- "GNUCC++" and a zero byte; "LOOMPICK"
abbrev pub tree_class : ℕ
tree_class = 0x474e5543432b2b00

abbrev pub exact_class : ℕ
exact_class = 0x4c4f4f4d5049434b

-- the parent of a type in a list of parents, the first that of type 1: 0, which stands for none, where the list has none
-- for it, or one that is not below the type itself
abbrev pub parent_of : List ℕ → ℕ → ℕ
parent_of parents t = elim (nat_lt (slice_index parents (t - 1)) t) [ true ↦ slice_index parents (t - 1) | false ↦ 0 ]

-- the same as an option
abbrev pub some_parent : List ℕ → ℕ → Option ℕ
some_parent parents t = elim (parent_of parents t == 0) [ true ↦ None | false ↦ Some (parent_of parents t) ]

-- a catch type catches a thrown type: it is the type itself, or an ancestor of it
pub data Catches (parents : List ℕ) (catch : ℕ) : ℕ → Type 0 where
  itself : Catches parents catch catch
  ancestor : (thrown : ℕ) → 0 < parent_of parents thrown → Catches parents catch (parent_of parents thrown) → Catches parents catch thrown

-- the same as a test, at most k generations up
abbrev pub caught_within : ℕ → List ℕ → ℕ → ℕ → Bool
caught_within zero parents catch thrown = thrown == catch
caught_within (suc k) parents catch thrown =
    elim (thrown == catch) [
      | true ↦ true
      | false ↦ elim (parent_of parents thrown == 0) [ true ↦ false | false ↦ caught_within k parents catch (parent_of parents thrown) ]
    ]

-- a parent is below its type, so that a type has fewer ancestors than its number
unfoldable pub caught_in : List ℕ → ℕ → ℕ → Bool
caught_in parents catch thrown = caught_within thrown parents catch thrown
