use Rattle.std.proofs.Common.{length, vec_items}
use Rattle.scenario_plan.proofs.Listed.{Onward}
use Rattle.scenario_plan.proofs.read.parents.Given as goal

abbrev pub invariant-loop-rest : goal.invariant-loop-rest
invariant-loop-rest l = Onward (vec_items l.found) l.words l.rest

abbrev pub decreases-loop-rest : goal.decreases-loop-rest
decreases-loop-rest l = length l.rest
