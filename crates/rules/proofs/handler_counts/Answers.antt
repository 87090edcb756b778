use Rattle.rules.proofs.Laws.{handler_counts_lem}
use Rattle.rules.proofs.handler_counts.Goals as goal

pub returns : goal.returns
returns c = handler_counts_lem
