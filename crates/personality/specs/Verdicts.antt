-- Questions and verdicts on their way through a layer.
use Rattle.std.specs.Prelude.{◌/◌, true}
use Rattle.personality.specs.Faults.{lifted}
use Rattle.personality.specs.declared.verdict.Question.{Question}
use Rattle.personality.specs.declared.verdict.Verdict.{Verdict}
use Rattle.personality.specs.declared.verdict.Verdict.TheVariants.{Nothing, Cleanup, Handler, Terminate, Broken}

-- what a forced question may get
abbrev pub Harmless : Verdict → Type 0
Harmless Nothing = Unit {0}
Harmless (Cleanup pad) = Unit {0}
Harmless (Handler pad selector) = ⊥
Harmless Terminate = ⊥
Harmless (Broken fault) = Unit {0}

-- a verdict one layer up: only a fault counts the layer
abbrev pub raised : Verdict → Verdict
raised Nothing = Nothing
raised (Cleanup pad) = Cleanup pad
raised (Handler pad selector) = Handler pad selector
raised Terminate = Terminate
raised (Broken fault) = Broken (lifted fault)

-- the question with half the unit, rounded down
abbrev pub halved : Question → Question
halved q = record { unit = q.unit / 2; place = q.place; class = q.class; thrown = q.thrown; forced = q.forced }

-- the forced question
abbrev pub pressed : Question → Question
pressed q = record { unit = q.unit; place = q.place; class = q.class; thrown = q.thrown; forced = true }
