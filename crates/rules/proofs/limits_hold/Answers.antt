use Rattle.rules.proofs.Room.{bounds_kept}
use Rattle.rules.proofs.limits_hold.Goals as goal

pub returns : goal.returns
returns c = bounds_kept
