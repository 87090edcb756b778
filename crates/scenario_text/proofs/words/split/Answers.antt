use Rattle.std.proofs.lemmas.Result.{IfOk-weaker}
use Rattle.scenario_text.proofs.Spaces.{words_split}
use Rattle.scenario_text.proofs.words.split.Goals as goal

pub returns : goal.returns
returns c =
    IfOk-weaker c.collect.result _ _
    (λ v h. rw (← h.2.0, c.split_whitespace.ensures.rest) at (words_split c.split_whitespace.result h.0 h.1))
    c.collect.ensures.ran
