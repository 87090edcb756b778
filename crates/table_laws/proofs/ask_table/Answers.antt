use Rattle.table_laws.proofs.Numbered.{numbers_law}
use Rattle.table_laws.proofs.ask_table.Goals as goal

pub returns-clause-numbers : goal.returns-clause-numbers
returns-clause-numbers g c =
    numbers_law g.L.Language.native (g.L.Language.caught c.args.table.now.language) c.args.table.now c.args.image.now c.args.question _ c.ask.ensures
