use Rattle.rules.proofs.Laws.{refusals_leave}
use Rattle.rules.proofs.refusals_leave_all.Goals as goal

pub returns : goal.returns
returns c = refusals_leave
