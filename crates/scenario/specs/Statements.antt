-- Which words say a statement.
use Rattle.std.specs.Prelude.{◌≡◌, ℕ, ◌<◌, ◌≤◌, Bool, true, false, List, length, drop, Some, None, vec_items, codes, Option, slice_index}
use Rattle.std.specs.Str.Parse.{IsNumeral, digits_value}
use Rattle.personality.specs.declared.verdict.Question.{Question}
use Rattle.composed.specs.declared.tree.Composed.{Composed}
use Rattle.scenario_text.specs.Words.{Words, word, Begins, Writes}
use Rattle.scenario_plan.specs.Says.{OwnedLeaf, Says}
use Rattle.scenario.specs.declared.statement.Statement.{Statement}
use Rattle.scenario.specs.declared.statement.Statement.TheVariants.{Image, Personality, Serials, Ask}

-- each word writes its byte, in one or two hexadecimal digits
abbrev pub Bytes : List ℕ → Words → Type 0
Bytes bs ws = (length bs ≡ length ws) × ((k : ℕ) → k < length bs → IsNumeral 16 (word ws k) × (length (word ws k) ≤ 2) × (slice_index bs k ≡ digits_value 16 (word ws k)))

abbrev pub Forced : List ℕ → Bool → Type 0
Forced w true = w ≡ codes "forced"
Forced w false = w ≡ codes "plain"

-- the five words after the first
abbrev pub SaysQuestion : Question → Words → Type 0
SaysQuestion q ws = (length ws ≡ 6) × Writes 10 ws 1 q.unit × Writes 10 ws 2 q.place × Writes 16 ws 3 q.class × Writes 10 ws 4 q.thrown × Forced (word ws 5) q.forced

-- the words say the plan, and none is left
abbrev pub SaysAll : Composed OwnedLeaf → Words → Type 0
SaysAll plan ws = (rest : Words) × Says plan ws rest × (length rest ≡ 0)

abbrev pub SaysStatement : Statement → Words → Type 0
SaysStatement (Image bytes) ws = Begins ws (codes "image") × Bytes (vec_items bytes) (drop 1 ws)
SaysStatement (Personality plan) ws = Begins ws (codes "personality") × SaysAll plan (drop 1 ws)
SaysStatement (Serials n) ws = Begins ws (codes "serials") × (length ws ≡ 2) × Writes 10 ws 1 n
SaysStatement (Ask q) ws = Begins ws (codes "ask") × SaysQuestion q ws

-- a line without words says nothing
abbrev pub SaysLine : Option Statement → Words → Type 0
SaysLine None ws = length ws ≡ 0
SaysLine (Some s) ws = SaysStatement s ws
