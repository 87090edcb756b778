-- The verdicts of Release, Pair and Guest.
use Rattle.std.specs.Prelude.{◌%◌, cond, ◌&&◌, ◌==◌, nat_le, nat_lt}
use Rattle.personality.specs.Faults.{arisen}
use Rattle.personality.specs.Verdicts.{raised, halved, pressed}
use Rattle.personality.specs.declared.fault.Cause.TheVariants.{NoUnit}
use Rattle.personality.specs.declared.layers.Release.{Release}
use Rattle.personality.specs.declared.verdict.Question.{Question}
use Rattle.personality.specs.declared.verdict.Verdict.{Verdict}
use Rattle.personality.specs.declared.verdict.Verdict.TheVariants.{Nothing, Cleanup, Broken}

-- a leaf has unit 0 alone
abbrev pub in_unit_0 : Question → Verdict → Verdict
in_unit_0 q verdict = cond (q.unit == 0) verdict (Broken (arisen NoUnit 0))

-- a place from lo to below hi gets the cleanup
abbrev pub release_verdict : Release → Question → Verdict
release_verdict s q = in_unit_0 q (cond (nat_le s.lo q.place && nat_lt q.place s.hi) (Cleanup s.pad) Nothing)

-- even units are the first's, odd ones the second's
abbrev pub pair_verdict : (Question → Verdict) → (Question → Verdict) → Question → Verdict
pair_verdict first second q = raised (cond (q.unit % 2 == 0) (first (halved q)) (second (halved q)))

abbrev pub guest_verdict : (Question → Verdict) → Question → Verdict
guest_verdict below q = raised (below (pressed q))
