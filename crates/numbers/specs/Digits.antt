-- The digits of a number, over the bytes bs that may be read.
use Rattle.std.specs.Prelude.{ℕ, zero, suc, Bool, ◌+◌, ◌*◌, ◌%◌, ◌^◌, true, false, List, length, Ok, Result, nat_le, nat_lt, slice_index}
use Rattle.personality.specs.declared.fault.Cause.TheVariants.{CutShort, TooLarge}
use Rattle.personality.specs.declared.fault.Fault.{Fault}
use Rattle.numbers.specs.Reading.{broken, then}
use Rattle.numbers.specs.declared.number.Width.{Width}
use Rattle.numbers.specs.declared.number.Width.TheVariants.{Two, Four}

-- the digits of a number: their sum by weight, the weight after the last, whether the last has its highest bit, and the
-- offset after it
pub record Digits : Type 0 where
  pub sum : ℕ
  pub weight : ℕ
  pub negative : Bool
  pub next : ℕ

-- before the first digit
abbrev pub no_digits : ℕ → Digits
no_digits at = record { sum = 0; weight = 1; negative = false; next = at }

-- one digit above the others
abbrev pub with_digit : ℕ → ℕ → Digits → Digits
with_digit digit base d = record { sum = d.sum + d.weight * digit; weight = d.weight * base; negative = d.negative; next = d.next + 1 }

-- one seven-bit digit below the others
abbrev pub above : ℕ → Digits → Digits
above digit d = record { sum = digit + 128 * d.sum; weight = 128 * d.weight; negative = d.negative; next = d.next }

-- the last digit: 40 is its highest bit
abbrev pub last_digit : ℕ → ℕ → Digits
last_digit byte at = record { sum = byte; weight = 128; negative = nat_le 64 byte; next = at + 1 }

-- the digits from an offset on, lowest first, in at most k bytes, 80 set on all but the last; `first` is the number's
-- first byte, where its faults are
unfoldable pub digits_at : List ℕ → ℕ → ℕ → ℕ → Result Digits Fault
digits_at bs first zero at = broken TooLarge first
digits_at bs first (suc k) at =
    elim (nat_lt at (length bs)) [
      | false ↦ broken CutShort first
      | true ↦ elim (nat_lt (slice_index bs at) 128) [
        | true ↦ Ok (last_digit (slice_index bs at) at)
        | false ↦ then (digits_at bs first k (at + 1)) (λ d. Ok (above (slice_index bs at % 128) d))
      ]
    ]

abbrev pub width_bytes : Width → ℕ
width_bytes Two = 2
width_bytes Four = 4

-- the number in k bytes, lowest first
abbrev pub little_endian : List ℕ → ℕ → ℕ → ℕ
little_endian bs zero at = 0
little_endian bs (suc k) at = slice_index bs at + 256 * little_endian bs k (at + 1)

-- the k bytes from an offset on: the highest bit of all is the sign
abbrev pub bytes_at : List ℕ → ℕ → ℕ → Result Digits Fault
bytes_at bs k at =
    elim (nat_le (at + k) (length bs)) [
      | true ↦ Ok (record { sum = little_endian bs k at; weight = 2 ^ (8 * k); negative = nat_le (2 ^ (8 * k)) (2 * little_endian bs k at); next = at + k })
      | false ↦ broken CutShort at
    ]
