use Rattle.std.proofs.Common.{◌≡◌, ℕ, ◌<◌, ◌≤◌, length, get_or, vec_items}
use Rattle.std.specs.Str.Parse.{IsNumeral, digits_value}
use Rattle.scenario_text.specs.Words.{word}
use Rattle.scenario.proofs.statement.bytes.Given as goal

abbrev pub invariant-loop-word : goal.invariant-loop-word
invariant-loop-word l =
    (length (vec_items l.found) ≡ l.word-index) × ((k : ℕ) → k < length (vec_items l.found) → IsNumeral 16 (word l.words k) × (length (word l.words k) ≤ 2) × (get_or (vec_items l.found) k 0 ≡ digits_value 16 (word l.words k)))
