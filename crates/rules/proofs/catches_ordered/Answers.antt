use Rattle.rules.proofs.Laws.{catches_ordered_lem}
use Rattle.rules.proofs.catches_ordered.Goals as goal

pub returns : goal.returns
returns c = catches_ordered_lem
