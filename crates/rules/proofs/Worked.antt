-- The worked runs hold by computation.
use Rattle.std.proofs.Common.{refl}
use Rattle.rules.specs.Calls.{step, answers, final, begun_catches, has_unbegun}
use Rattle.rules.specs.Lists.{has}
use Rattle.rules.specs.Search.{search_down, fence, ask_down_to}
use Rattle.rules.specs.State.{find, without, own, raisers, unwinding, release}
use Rattle.rules.specs.Walk.{close, walk}
use Rattle.rules.specs.Worked.{WorkedRuns}

pub worked_runs_lem : WorkedRuns
unfolding step answers final begun_catches has_unbegun has search_down fence ask_down_to find without own raisers unwinding release close walk
worked_runs_lem =
    record { two_cleanups = refl; inside = refl; fenced = refl; rethrown = refl; stopped = refl; kept = refl; lost_with_its_frame = refl }
