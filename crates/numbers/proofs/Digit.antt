-- The steps of the digits of a number.
use Rattle.std.proofs.Common.{◌≡◌, ℕ, zero, suc, ◌+◌, ◌-◌, ◌*◌, ◌%◌, ◌^◌, ◌<◌, ◌≤◌, Bool, leb, List, length, get_or, Ok, Err, Result, sym, refl, mul_assoc, mul-suc, mul-add, add-one, arith, pow-add}
use Rattle.personality.specs.declared.fault.Cause.TheVariants.{CutShort, TooLarge}
use Rattle.personality.specs.declared.fault.Fault.{Fault}
use Rattle.numbers.specs.Digits.{Digits, with_digit, digits_at, above, last_digit, little_endian, bytes_at}
use Rattle.numbers.specs.Reading.{broken, then}

-- the digits of r above those in low
abbrev pub under : Digits → Result Digits Fault → Result Digits Fault
under low r = then r (λ d. Ok (record { sum = low.sum + low.weight * d.sum; weight = low.weight * d.weight; negative = d.negative; next = d.next }))

pub under_above : (low : Digits) (b : ℕ) (r : Result Digits Fault) → under low (then r (λ d. Ok (above b d))) ≡ under (with_digit b 128 low) r
under_above low b (Ok d) = grind (arith, mul-add low.weight b (128 * d.sum), mul_assoc low.weight 128 d.sum, mul_assoc low.weight 128 d.weight)
under_above low b (Err e) = refl

module _ (bs : List ℕ) (first : ℕ) where
  pub digits_cut : (k at : ℕ) → 0 < k → length bs ≤ at → digits_at bs first k at ≡ broken CutShort first
  unfolding digits_at
  digits_cut zero at h l = absurd (omega arith)
  digits_cut (suc k) at h l = grind arith

  pub digits_last : (k j at : ℕ) → k ≡ suc j → at < length bs → get_or bs at 0 < 128 → digits_at bs first k at ≡ Ok (last_digit (get_or bs at 0) at)
  unfolding digits_at
  digits_last k j at e h l = rw e (grind arith)

  pub digits_more : (k j at : ℕ) → k ≡ suc j → at < length bs → 128 ≤ get_or bs at 0 → digits_at bs first k at ≡ then (digits_at bs first j (at + 1)) (λ d. Ok (above (get_or bs at 0 % 128) d))
  unfolding digits_at
  digits_more k j at e h l = rw e (grind arith)

  pub digits_none : (k at : ℕ) → k ≡ 0 → digits_at bs first k at ≡ broken TooLarge first
  unfolding digits_at
  digits_none k at e = rw e refl

-- digits of which the last has its highest bit, or has not
abbrev pub with_sign : Bool → Digits → Digits
with_sign negative d = record { sum = d.sum; weight = d.weight; negative = negative; next = d.next }

-- a byte more, of k that may come: the last, or one that j others may follow
module _ (bs : List ℕ) (first k j byte digit : ℕ) (low : Digits) (few : k ≡ suc j) (inside : low.next < length bs) (same : byte ≡ get_or bs low.next 0) (is : digit ≡ byte % 128) where
  pub under_last : (negative : Bool) → negative ≡ leb 64 byte → byte < 128 → Ok (with_sign negative (with_digit digit 128 low)) ≡ under low (digits_at bs first k low.next)
  under_last negative sign l = grind (arith, digits_last bs first k j low.next few inside (omega arith), same)

  pub under_more : 128 ≤ byte → under (with_digit digit 128 low) (digits_at bs first j (low.next + 1)) ≡ under low (digits_at bs first k low.next)
  under_more m =
      let q = digits_more bs first k j low.next few inside (omega arith) in
      rw (q, is, same) (sym (under_above low (get_or bs low.next 0 % 128) (digits_at bs first j (low.next + 1))))

-- a byte more of a number of bytes
pub little_more : (bs : List ℕ) (size i at b r : ℕ) (low : Digits) → i < size → b ≡ get_or bs (at + i) 0 → low.sum + low.weight * little_endian bs (size - i) (at + i) ≡ r → (with_digit b 256 low).sum + (with_digit b 256 low).weight * little_endian bs (size - (i + 1)) (at + (i + 1)) ≡ r
little_more bs size i at b r low h same whole =
    let k = size - (i + 1) in
    let more : size - i ≡ suc k = omega arith in
    let next : at + (i + 1) ≡ at + i + 1 = omega arith in
    rw next (grind (arith, rw more at whole, mul-add low.weight b (256 * little_endian bs k (at + i + 1)), mul_assoc low.weight 256 (little_endian bs k (at + i + 1))))

-- after the last byte
pub bytes_done : (bs : List ℕ) (at size i : ℕ) (d : Digits) (negative : Bool) → i ≡ size → at + size ≤ length bs → d.weight ≡ 2 ^ (8 * i) → d.next ≡ at + i → d.sum + d.weight * little_endian bs (size - i) (at + i) ≡ little_endian bs size at → negative ≡ leb d.weight (2 * d.sum) → Ok (with_sign negative d) ≡ bytes_at bs size at
bytes_done bs at size i d negative all inside weight place whole sign =
    let none : size - i ≡ 0 = omega arith in
    let m = rw none at whole in
    grind (arith, rw all at weight)

-- a digit of b bits more
pub weight_more : (b w i : ℕ) → w ≡ 2 ^ (b * i) → w * 2 ^ b ≡ 2 ^ (b * (i + 1))
weight_more b w i e = rw (e, add-one, mul-suc, pow-add 2 (b * i) b)
