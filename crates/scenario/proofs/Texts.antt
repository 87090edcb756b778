-- A class as the report's format pads it.
use Rattle.std.proofs.Common.{◌≡◌, ℕ, ◌-◌, ◌^◌, false, [], append-nil}
use Rattle.std.specs.Fmt.{digits, format_spec, padded_integral, char_count}
use Rattle.scenario.specs.Reports.{class_text}
use native.Mathlib.Numerals.{unary_clauses}

pub class_padded : (class : ℕ) → padded_integral (format_spec 32 0 4 16 (2 ^ 64 - 1)) false [] (digits 16 false class) ≡ class_text class
unfolding padded_integral char_count
class_padded class = simp (append-nil, unary_clauses)
