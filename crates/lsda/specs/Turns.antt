-- A loop of at most k turns, each of which may fail, answer or go on.
use Rattle.std.specs.Prelude.{ℕ, zero, suc, Ok, Result}
use Rattle.personality.specs.declared.fault.Fault.{Fault}
use Rattle.numbers.specs.Reading.{then}
use Rattle.std.specs.declared.ops.ControlFlow.{ControlFlow}
use Rattle.std.specs.declared.ops.ControlFlow.TheVariants.{Continue, Break}

-- `last` is the answer where no turn is left
unfoldable pub iterate : {S A : Type 0} → (S → Result (ControlFlow A S) Fault) → (S → Result A Fault) → ℕ → S → Result A Fault
iterate turn last zero s = last s
iterate turn last (suc k) s = then (turn s) (λ t. elim t [ Break answer ↦ Ok answer | Continue next ↦ iterate turn last k next ])
