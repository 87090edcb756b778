-- The answers to a list of questions, by a scenario's personality.
use Rattle.std.specs.Prelude.{◌≡◌, ℕ, List, [], map, Some, None, Option}
use Rattle.personality.specs.declared.verdict.Question.{Question}
use Rattle.personality.specs.declared.verdict.Verdict.{Verdict}
use Rattle.composed.specs.Tree.{composed_verdict}
use Rattle.composed.specs.declared.tree.Composed.{Composed}
use Rattle.scenario_plan.specs.Says.{OwnedLeaf}
use Rattle.scenario_plan.specs.Verdicts.{planned_verdict}

-- each question's answer is the verdict of the personality; without one there are none
abbrev pub Answered : Option (Composed OwnedLeaf) → List ℕ → List Question → List Verdict → Type 0
Answered None image questions answers = answers ≡ []
Answered (Some personality) image questions answers = answers ≡ map (composed_verdict planned_verdict personality image) questions
