use Rattle.std.proofs.Common.{length}
use Rattle.scenario_plan.proofs.read.+enclosed_read_plan.Given as goal

abbrev pub decreases-enclosed : goal.decreases-enclosed
decreases-enclosed l = length l.words.now

abbrev pub decreases-read_plan : goal.decreases-read_plan
decreases-read_plan l = length l.words.now
