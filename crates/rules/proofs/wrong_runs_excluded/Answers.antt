use Rattle.rules.proofs.Excluded.{answers_in_turn, shut_out}
use Rattle.rules.proofs.wrong_runs_excluded.Goals as goal

pub returns : goal.returns
returns c = record { in_turn = answers_in_turn; samples = shut_out }
