-- Which numbers words write: one digit or more, and no sign.
use Rattle.std.specs.Prelude.{ℕ, ◌<◌, ◌≤◌, List, length, Result}
use Rattle.std.specs.Result.{OkIff}
use Rattle.std.specs.Str.Parse.{IsNumeral, digits_value}

-- r is the number that the word writes where it writes one below the limit, and else an error
abbrev pub Written : {E : Type 0} → ℕ → ℕ → List ℕ → Result ℕ E → Type 0
Written radix limit word r = OkIff r (IsNumeral radix word × (digits_value radix word < limit)) (digits_value radix word)

-- r is the byte that one or two hexadecimal digits write, and for any other word an error
abbrev pub ByteWritten : {E : Type 0} → List ℕ → Result ℕ E → Type 0
ByteWritten word r = OkIff r (IsNumeral 16 word × (length word ≤ 2)) (digits_value 16 word)
