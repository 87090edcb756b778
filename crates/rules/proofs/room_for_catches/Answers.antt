use Rattle.rules.proofs.Room.{room_kept}
use Rattle.rules.proofs.room_for_catches.Goals as goal

pub returns : goal.returns
returns c = room_kept
