use Rattle.std.proofs.Common.{◌≡◌, ◌-◌}
use Rattle.personality.specs.declared.fault.Cause.TheVariants.{BadLink}
use Rattle.numbers.specs.Reading.{broken}
use Rattle.lsda.specs.Chain.{step_at, matching, first_link_of, chain_at}
use Rattle.lsda.specs.Turns.{iterate}
use Rattle.lsda.proofs.chain.Chain.verdict.Given as goal

-- the walk that is left gives the verdict of the whole
abbrev pub invariant-loop : goal.invariant-loop
invariant-loop g l =
    let c = l.self in
    let matches = matching g.L.Language.native (g.L.Language.caught c.language.now) c.question in
    iterate (step_at c.bytes.now c.start c.header matches c.question.forced c.pad) (λ w. broken BadLink w.from) (64 - l.counter) l.walk
    ≡ chain_at c.bytes.now c.start c.header matches c.question.forced c.pad (first_link_of c.header.sites.end l.fn.action)
