use Rattle.std.proofs.Common.{arith}
use Rattle.scenario.specs.Scripts.{start, line}
use Rattle.scenario.proofs.script.Scenario.read.Goals as goal

pub loop-index-init : goal.loop-index-init
loop-index-init c =
    let same = c.into_iter-index-iterator.ensures.into_iter_gives in
    let made = c.enumerate-index-items.ensures in
    (c.new-all.ensures, rw (same, made.source, made.count, c.lines.ensures.rest) start)

pub returns-in-Err : goal.returns-in-Err
returns-in-Err c =
    let step = c.in-Some.ensures.steps in
    let reached = c.loop-index.invariant in
    (_, _, _, _, reached.0, reached.1, step.0.0.0, omega (arith, step.1))

pub loop-index-preserved : goal.loop-index-preserved
loop-index-preserved c =
    let step = c.in-Some.ensures.steps in
    let reached = c.loop-index.invariant in
    (reached.0, rw step.2 (line _ _ _ c.in-Some.line.now _ _ reached.1 step.0.0.0 step.0.0.2 c.in_default.ensures))
