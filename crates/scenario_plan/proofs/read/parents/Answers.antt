use Rattle.std.proofs.Common.{inl, inr, rules}
use Rattle.scenario_plan.proofs.Listed.{onward_end}
use Rattle.scenario_plan.proofs.read.parents.Goals.{in_default, in-len1-up+then-eq}
use Rattle.scenario_plan.proofs.read.parents.Goals as goal

pub returns : goal.returns
returns c = onward_end _ _ _ c.loop-rest.invariant (elim c.if-rest-lt1.branch [ in_default w ↦ inl (search rules) | in-len1-up+then-eq w ↦ inr (search rules) ])
