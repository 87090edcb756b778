-- What a LEB128 number means.
use Rattle.std.specs.Prelude.{◌≡◌, ℕ, zero, suc, ◌+◌, ◌-◌, ◌*◌, ◌%◌, ◌^◌, ◌<◌, ◌≤◌, Bool, true, false, ◌&&◌, List, length, ℤ, pos, Ok, Result, nat_le, slice_index}
use Rattle.std.proofs.Math.IntN.{sub_ℕ}
use Rattle.personality.specs.declared.fault.Fault.{Fault}
use Rattle.numbers.specs.Numbers.{fits, limit}
use Rattle.numbers.specs.Reading.{Number}

-- the n bytes from an offset on have the shape of a number: they may be read, and 80 is set on all but the last
pub record Shaped (bs : List ℕ) (at n : ℕ) : Type 0 where
  pub some : 0 < n
  pub inside : at + n ≤ length bs
  pub more : (i : ℕ) → i + 1 < n → 128 ≤ slice_index bs (at + i)
  pub last : slice_index bs (at + (n - 1)) < 128

-- f 0 + f 1 + .. of n terms
abbrev pub sum_to : (ℕ → ℕ) → ℕ → ℕ
sum_to f zero = 0
sum_to f (suc n) = sum_to f n + f n

-- the seven-bit digits times powers of 128
abbrev pub digit_sum : List ℕ → ℕ → ℕ → ℕ
digit_sum bs at n = sum_to (λ i. slice_index bs (at + i) % 128 * 128 ^ i) n

-- 40 in the last byte of a signed number is the sign, whose weight is that of one digit more
abbrev pub meaning : List ℕ → ℕ → ℕ → Bool → ℤ
meaning bs at n signed =
    elim (signed && nat_le 64 (slice_index bs (at + (n - 1)))) [ true ↦ sub_ℕ (digit_sum bs at n) (128 ^ n) | false ↦ pos (digit_sum bs at n) ]

-- the n bytes from an offset on encode z, which fits 32 bits
pub record Encodes (bs : List ℕ) (at : ℕ) (signed : Bool) (n : ℕ) (z : ℤ) : Type 0 where
  pub shaped : Shaped bs at n
  pub value : z ≡ meaning bs at n signed
  pub fit : fits signed z ≡ true

-- what a reading r means: a number is the one that its bytes encode, at most five of them; and what at most five bytes
-- encode is read
abbrev pub Means : List ℕ → Bool → ℕ → Result Number Fault → Type 0
Means bs signed at r =
    ((number : Number) → r ≡ Ok number → (n : ℕ) × (n ≤ limit) × Encodes bs at signed n number.value × (number.next ≡ at + n))
    × ((n : ℕ) (z : ℤ) → n ≤ limit → Encodes bs at signed n z → r ≡ Ok (record { value = z; next = at + n }))
