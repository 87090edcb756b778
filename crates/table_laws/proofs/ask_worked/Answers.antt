use Rattle.std.proofs.Common.{refl}
use Rattle.languages.specs.Types.{caught_in}
use Rattle.lsda.specs.Turns.{iterate}
use Rattle.numbers.specs.Digits.{digits_at}
use Rattle.numbers.specs.Formats.{format_of_code}
use Rattle.table_laws.specs.Worked.{WorkedCases}
use Rattle.table_laws.proofs.ask_worked.Goals as goal

-- by computation
worked : WorkedCases
unfolding caught_in iterate digits_at format_of_code
worked = record {
  largest = refl;
  too_large = refl;
  negative = refl;
  before_all = refl;
  first_begins = refl;
  first_ends = refl;
  second_begins = refl;
  second_ends = refl;
  after_all = refl;
  not_caught = refl;
}

pub returns : goal.returns
returns c = record { asks = c.ask.ensures; cases = worked }
