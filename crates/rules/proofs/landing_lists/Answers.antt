use Rattle.rules.proofs.Landings.{landing_lists_lem}
use Rattle.rules.proofs.landing_lists.Goals as goal

pub returns : goal.returns
returns c = landing_lists_lem
