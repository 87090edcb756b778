use Rattle.std.proofs.Common.{sym, ◌∙◌, arith}
use Rattle.languages.proofs.Caught.{caught_by_parent, caught_self, caught_none}
use Rattle.languages.proofs.tree.TreeLanguage.catches.Goals as goal

pub returns-in_default : goal.returns-in_default
returns-in_default c = caught_none _ c.args.catch c.loop-reached.reached (λ e. omega arith) c.in_default.ensures ∙ c.loop-reached.invariant

pub loop-reached-preserved : goal.loop-reached-preserved
loop-reached-preserved c = caught_by_parent _ c.args.catch c.loop-reached.reached c.in-Some.parent (λ e. omega arith) c.in-Some.ensures ∙ c.loop-reached.invariant

pub returns : goal.returns
returns c = sym (caught_self _ c.args.catch c.loop-reached.reached (omega arith)) ∙ c.loop-reached.invariant
