-- Numbers of 32 bits, over the bytes bs that may be read.
use Rattle.std.specs.Prelude.{◌≡◌, ℕ, ◌≤◌, Bool, true, false, ◌&&◌, List, ℤ, pos, negsuc, ◌≤ℤ◌, ◌<ℤ◌, Ok, Result, int_le, int_lt, unsigned_abs}
use Rattle.std.proofs.Math.IntN.{sub_ℕ}
use Rattle.personality.specs.declared.fault.Cause.TheVariants.{TooLarge}
use Rattle.personality.specs.declared.fault.Fault.{Fault}
use Rattle.numbers.specs.Digits.{Digits, digits_at, bytes_at, width_bytes}
use Rattle.numbers.specs.Reading.{Number, Unsigned, broken, then}
use Rattle.numbers.specs.declared.number.Width.{Width}

-- a LEB128 number has at most this many bytes
abbrev pub limit : ℕ
limit = 5

-- a signed number whose last digit has its highest bit is less by the weight after that digit
abbrev pub value_of : Bool → Digits → ℤ
value_of signed d = elim (signed && d.negative) [ true ↦ sub_ℕ d.sum d.weight | false ↦ pos d.sum ]

-- the numbers of 32 bits
abbrev pub fits : Bool → ℤ → Bool
fits true z = int_le (negsuc 2147483647) z && int_lt z (pos 2147483648)
fits false z = int_le (pos 0) z && int_lt z (pos 4294967296)

-- the number that digits make, if it fits
abbrev pub judged : Bool → ℕ → Digits → Result Number Fault
judged signed at d =
    elim (fits signed (value_of signed d)) [
      | true ↦ Ok (record { value = value_of signed d; next = d.next })
      | false ↦ broken TooLarge at
    ]

abbrev pub leb128_at : List ℕ → Bool → ℕ → Result Number Fault
leb128_at bs signed at = then (digits_at bs at limit at) (judged signed at)

abbrev pub unsigned_at : List ℕ → ℕ → Result Unsigned Fault
unsigned_at bs at = then (leb128_at bs false at) (λ n. Ok (record { value = unsigned_abs n.value; next = n.next }))

abbrev pub fixed_at : List ℕ → Width → Bool → ℕ → Result Number Fault
fixed_at bs width signed at = then (bytes_at bs (width_bytes width) at) (judged signed at)

-- what every number that was read keeps: it ends at `end` or before, and fits 32 bits. It relates the number to its bytes and
-- to the sign that was asked for, and so is no invariant of the number
pub record Within (end : ℕ) (signed : Bool) (n : Number) : Type 0 where
  pub next : n.next ≤ end
  pub low : negsuc 2147483647 ≤ℤ n.value
  pub high : n.value <ℤ pos 4294967296
  pub unsigned_low : signed ≡ false → pos 0 ≤ℤ n.value
  pub signed_high : signed ≡ true → n.value <ℤ pos 2147483648
