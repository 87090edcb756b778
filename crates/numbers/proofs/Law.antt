-- What is read is what the bytes encode, and what they encode is read.
use Rattle.std.proofs.Common.{◌≡◌, ℕ, zero, suc, ◌+◌, ◌-◌, ◌*◌, ◌%◌, ◌^◌, ◌<◌, ◌≤◌, Bool, true, false, leb, List, length, get_or, ℤ, Ok, Err, Result, sym, refl, ◌∙◌, inl, inr, mul_left_comm, add-one, arith}
use native.Mathlib.Nat.{pow-succ'}
use Rattle.std.proofs.lemmas.Bool.{cases_lt}
use Rattle.personality.specs.declared.fault.Fault.{Fault}
use Rattle.numbers.specs.declared.format.Format.{Format}
use Rattle.numbers.specs.declared.format.Size.{Size}
use Rattle.numbers.specs.declared.format.Size.TheVariants.{Leb128, Fixed}
use Rattle.numbers.specs.declared.number.Width.{Width}
use Rattle.numbers.specs.declared.number.Width.TheVariants.{Two, Four}
use Rattle.numbers.specs.Digits.{Digits, digits_at, bytes_at, width_bytes}
use Rattle.numbers.specs.Formats.{number_at}
use Rattle.numbers.specs.Laws.{Shaped, sum_to, digit_sum, Encodes, Means}
use Rattle.numbers.specs.Numbers.{limit, value_of, fits, judged, leb128_at, unsigned_at}
use Rattle.numbers.specs.Reading.{Number, Unsigned, then}
use Rattle.numbers.proofs.Digit.{digits_cut, digits_last, digits_more, digits_none}

-- a reading that ends well goes on from its parts
pub then_parts : {A B : Type 0} (r : Result A Fault) (f : A → Result B Fault) (y : B) → then r f ≡ Ok y → (x : A) × (r ≡ Ok x) × (f x ≡ Ok y)
then_parts (Ok x) f y e = (x, refl, e)
then_parts (Err b) f y e = absurd cc

-- the first term apart, and a base of the others
sum_first : (f g : ℕ → ℕ) (b n : ℕ) → ((i : ℕ) → f (i + 1) ≡ b * g i) → sum_to f (suc n) ≡ f 0 + b * sum_to g n
sum_first f g b zero h = omega arith
sum_first f g b (suc n) h = grind (arith, sum_first f g b n h, h n)

-- the digits that n bytes write
abbrev written : List ℕ → ℕ → ℕ → Digits
written bs at n = record { sum = digit_sum bs at n; weight = 128 ^ n; negative = leb 64 (get_or bs (at + (n - 1)) 0); next = at + n }

module _ (bs : List ℕ) where
  shaped_one : (at : ℕ) → at < length bs → get_or bs at 0 < 128 → Shaped bs at 1
  shaped_one at h l = grind arith

  shaped_more : (at n : ℕ) → 128 ≤ get_or bs at 0 → Shaped bs (at + 1) n → Shaped bs at (suc n)
  shaped_more at n m s =
      record {
        some = omega arith;
        inside = omega arith;
        more = λ i l. grind (arith, m, s.more (i - 1));
        last = grind (arith, s.last);
      }

  shaped_rest : (at n : ℕ) → Shaped bs at (suc (suc n)) → Shaped bs (at + 1) (suc n)
  shaped_rest at n s =
      record {
        some = omega arith;
        inside = omega arith;
        more = λ i l. grind (arith, s.more (i + 1));
        last = grind (arith, s.last);
      }

  digit_sum_more : (at n : ℕ) → digit_sum bs at (suc n) ≡ get_or bs at 0 % 128 + 128 * digit_sum bs (at + 1) n
  digit_sum_more at n =
      let x : (i : ℕ) → at + (i + 1) ≡ at + 1 + i = λ i. omega arith in
      grind (arith, sum_first (λ i. get_or bs (at + i) 0 % 128 * 128 ^ i) (λ i. get_or bs (at + 1 + i) 0 % 128 * 128 ^ i) 128 n (λ i. rw (x i, add-one i, pow-succ') (mul_left_comm (get_or bs (at + 1 + i) 0 % 128) 128 (128 ^ i))))

  module _ (first : ℕ) where
    -- bytes of the shape are read as the digits that they write
    read : (k at n : ℕ) → n ≤ k → Shaped bs at n → digits_at bs first k at ≡ Ok (written bs at n)
    read k at zero l s = absurd (omega (arith, s.some))
    read zero at (suc n) l s = absurd (omega arith)
    read (suc k) at (suc zero) l s =
        let d = digits_last bs first (suc k) k at refl (omega (arith, s.inside)) (grind (arith, s.last)) in
        grind (arith, d, s.last)
    read (suc k) at (suc (suc n)) l s =
        let m : 128 ≤ get_or bs at 0 = grind (arith, s.more 0) in
        let r = read k (at + 1) (suc n) (omega arith) (shaped_rest at n s) in
        let d = digits_more bs first (suc k) k at refl (omega (arith, s.inside)) m in
        let sum = digit_sum_more at (suc n) in
        let weight = pow-succ' 128 (suc n) in
        grind (arith, d, r, sum, weight)

    -- what is read has the shape
    shape : (k at : ℕ) (d : Digits) → digits_at bs first k at ≡ Ok d → (n : ℕ) × (n ≤ k) × Shaped bs at n
    shape zero at d e = let c = digits_none bs first 0 at refl in absurd cc
    shape (suc k) at d e =
        elim (cases_lt at (length bs)) [
          | inr h ↦ let c = digits_cut bs first (suc k) at (omega arith) h in absurd cc
          | inl h ↦ elim (cases_lt (get_or bs at 0) 128) [
            | inl l ↦ (1, omega arith, shaped_one at h l)
            | inr m ↦
                let p = then_parts _ _ d (sym (digits_more bs first (suc k) k at refl h m) ∙ e) in
                let w = shape k (at + 1) p.0 p.1 in
                (suc w.0, omega arith, shaped_more at w.0 m w.2)
          ]
        ]

-- a judgement that is good says that the value fits
judged_fits : (signed : Bool) (at : ℕ) (d : Digits) (r : Number) → judged signed at d ≡ Ok r → (fits signed (value_of signed d) ≡ true) × (r.value ≡ value_of signed d) × (r.next ≡ d.next)
judged_fits signed at d r e = grind arith

module _ (bs : List ℕ) (at : ℕ) (signed : Bool) where
  encodes : (r : Number) → leb128_at bs signed at ≡ Ok r → (n : ℕ) × (n ≤ limit) × Encodes bs at signed n r.value × (r.next ≡ at + n)
  encodes r e =
      let p = then_parts (digits_at bs at limit at) (judged signed at) r e in
      let d = p.0 in
      let s = shape bs at limit at d p.1 in
      let same : d ≡ written bs at s.0 = let q = read bs at limit at s.0 s.1 s.2 in cc in
      let j = judged_fits signed at d r p.2 in
      (s.0, s.1, record { shaped = s.2; value = grind (arith, j, same); fit = grind (arith, j) }, grind (arith, j, same))

  decodes : (n : ℕ) (z : ℤ) → n ≤ limit → Encodes bs at signed n z → leb128_at bs signed at ≡ Ok (record { value = z; next = at + n })
  decodes n z l w =
      let q = read bs at limit at n l w.shaped in
      let v = w.value in
      let f = w.fit in
      grind arith

-- a reading that is the definition's means what the law says
pub leb128_means : (bs : List ℕ) (signed : Bool) (at : ℕ) (r : Result Number Fault) → r ≡ leb128_at bs signed at → Means bs signed at r
leb128_means bs signed at r e = (λ number f. encodes bs at signed number (sym e ∙ f), λ n z l w. e ∙ decodes bs at signed n z l w)

-- a number that is read ends after it begins
pub leb128_onward : (bs : List ℕ) (signed : Bool) (at : ℕ) (r : Number) → leb128_at bs signed at ≡ Ok r → at < r.next
leb128_onward bs signed at r e = let p = encodes bs at signed r e in omega (arith, p.2.shaped.some, p.3)

bytes_onward : (bs : List ℕ) (k at : ℕ) (d : Digits) → 0 < k → bytes_at bs k at ≡ Ok d → at < d.next
bytes_onward bs k at d h e = grind arith

some_bytes : (w : Width) → 0 < width_bytes w
some_bytes Two = omega arith
some_bytes Four = omega arith

pub number_onward : (bs : List ℕ) (f : Format) (at : ℕ) (r : Number) → number_at bs f at ≡ Ok r → at < r.next
number_onward bs f at r e = go f.size refl
  where
    go : (s : Size) → f.size ≡ s → at < r.next
    go Leb128 q = leb128_onward bs f.signed at r (rw (q, number_at) at e)
    go (Fixed w) q =
        let p = then_parts (bytes_at bs (width_bytes w) at) (judged f.signed at) r (rw (q, number_at) at e) in
        let j = judged_fits f.signed at p.0 r p.2 in
        omega (arith, bytes_onward bs (width_bytes w) at p.0 (some_bytes w) p.1, j.2)

pub unsigned_onward : (bs : List ℕ) (at : ℕ) (r : Unsigned) → unsigned_at bs at ≡ Ok r → at < r.next
unsigned_onward bs at r e =
    let p = then_parts (leb128_at bs false at) _ r e in
    let q = p.2 in
    let same : p.0.next ≡ r.next = cc in
    omega (arith, leb128_onward bs false at p.0 p.1, same)
