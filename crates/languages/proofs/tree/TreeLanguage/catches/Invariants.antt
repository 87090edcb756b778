use Rattle.std.proofs.Common.{◌≡◌}
use Rattle.languages.specs.Types.{caught_in}
use Rattle.languages.proofs.tree.TreeLanguage.catches.Given as goal

-- what catches the type reached catches the thrown one
abbrev pub invariant-loop-reached : goal.invariant-loop-reached
invariant-loop-reached l = caught_in l.self.parents.now l.catch l.reached ≡ caught_in l.self.parents.now l.catch l.thrown

abbrev pub decreases-loop-reached : goal.decreases-loop-reached
decreases-loop-reached l = l.reached
