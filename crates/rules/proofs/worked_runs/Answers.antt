use Rattle.rules.proofs.Worked.{worked_runs_lem}
use Rattle.rules.proofs.worked_runs.Goals as goal

pub returns : goal.returns
returns c = worked_runs_lem
