use Rattle.std.proofs.Common.{◌<◌, length, drop, sym, subst, arith, length-drop, rules}
use Rattle.std.proofs.lemmas.List.{take_rest}
use Rattle.std.proofs.lemmas.Result.{IfOk-weaker}
use Rattle.scenario_text.specs.Words.{Words}
use Rattle.scenario_plan.specs.Says.{Says}
use Rattle.scenario_plan.proofs.Said.{says_pair, enclosed_shorter, begins_some}
use Rattle.scenario_plan.proofs.read.+enclosed_read_plan.Goals as goal

pub read_plan-enclosed-requires-in-pair : goal.read_plan-enclosed-requires-in-pair
read_plan-enclosed-requires-in-pair t c =
    let ws = c.args.words.now in
    let first = c.in_ok-first-in-pair.first in
    let short : length first.rest.now < length ws =
    omega (arith, enclosed_shorter first.found (drop 1 ws) first.rest.now (rw take_rest at c.in_ok-first-in-pair.ensures), length-drop 1 ws, begins_some ws _ _ c.in-pair.is-pair)
    in
    search rules

pub read_plan-returns-in_ok-second-in-pair : goal.read_plan-returns-in_ok-second-in-pair
read_plan-returns-in_ok-second-in-pair t c =
    let ws = c.args.words.now in
    let first = c.in_ok-first-in-pair.first in
    let second = c.in_ok-second-in-pair.second in
    IfOk-weaker c.both.result _ _
    (λ x h. subst (λ (w : Words). Says x.found ws w) (sym h.1) (says_pair x.found first.found second.found ws _ first.rest.now second.rest.now h.0 c.in-pair.is-pair (take_rest ws 1) c.in_ok-first-in-pair.ensures c.in_ok-second-in-pair.ensures))
    c.both.ensures
