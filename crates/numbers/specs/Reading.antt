-- Readings that may fail: a good answer, or the fault that ends them all.
use Rattle.std.specs.Prelude.{ℕ, ℤ, Ok, Err, Result}
use Rattle.personality.specs.Faults.{arisen}
use Rattle.personality.specs.declared.fault.Cause.{Cause}
use Rattle.personality.specs.declared.fault.Fault.{Fault}
use Rattle.numbers.specs.declared.number.Read.{Read}

-- a number, and the offset after it
abbrev pub Number : Type 0
Number = Read ℤ

-- a number that has no sign, and the offset after it
abbrev pub Unsigned : Type 0
Unsigned = Read ℕ

-- a reading that fails, for a cause, at an offset
abbrev pub broken : {A : Type 0} → Cause → ℕ → Result A Fault
broken cause offset = Err (arisen cause offset)

-- the next reading, with what the one before gave; a fault ends both
abbrev pub then : {A B : Type 0} → Result A Fault → (A → Result B Fault) → Result B Fault
then (Ok x) next = next x
then (Err fault) next = Err fault
