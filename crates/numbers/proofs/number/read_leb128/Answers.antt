use Rattle.std.proofs.Common.{rules}
use Rattle.numbers.proofs.Law.{leb128_means}
use Rattle.numbers.proofs.number.read_leb128.Goals as goal

pub returns-in_err-read_digits-clause-means : goal.returns-in_err-read_digits-clause-means
returns-in_err-read_digits-clause-means c = leb128_means c.args.bytes.now c.args.signed c.args.at _ (search rules)

pub returns-clause-means : goal.returns-clause-means
returns-clause-means c = leb128_means c.args.bytes.now c.args.signed c.args.at _ (search rules)
