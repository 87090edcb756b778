use Rattle.rules.proofs.Runs.{promise_kept}
use Rattle.rules.proofs.promise_holds.Goals as goal

pub returns : goal.returns
returns c = promise_kept
