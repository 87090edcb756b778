-- Two hexadecimal digits write a byte.
use Rattle.std.proofs.Common.{ℕ, ◌<◌, ◌≤◌, List, [], ◌∷◌, length, arith}
use Rattle.std.specs.Str.Parse.{IsNumeral, digits_value}

pub two_digits : (bs : List ℕ) → IsNumeral 16 bs → length bs ≤ 2 → digits_value 16 bs < 256
two_digits [] n le = omega arith
two_digits (c ∷ []) n le = omega (arith, n.1.0)
two_digits (c ∷ (d ∷ [])) n le = omega (arith, n.1.0, n.1.1.0)
two_digits (c ∷ (d ∷ (e ∷ rest))) n le = absurd (omega arith)
