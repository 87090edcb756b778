-- Faults and verdicts as reports print them.
use Rattle.std.specs.Prelude.{ℕ, List, ◌++◌, codes, decimal}
use Rattle.std.specs.Fmt.{signed_decimal}
use Rattle.personality.specs.Faults.{cause_number}
use Rattle.personality.specs.declared.fault.Fault.{Fault}
use Rattle.personality.specs.declared.verdict.Verdict.{Verdict}
use Rattle.personality.specs.declared.verdict.Verdict.TheVariants.{Nothing, Cleanup, Handler, Terminate, Broken}

abbrev pub fault_text : Fault → List ℕ
fault_text f = codes "cause " ++ (decimal (cause_number f.cause) ++ (codes " offset " ++ (decimal f.offset ++ (codes " layer " ++ decimal f.layer))))

abbrev pub verdict_text : Verdict → List ℕ
verdict_text Nothing = codes "nothing"
verdict_text (Cleanup pad) = codes "cleanup pad " ++ decimal pad
verdict_text (Handler pad selector) = codes "handler pad " ++ (decimal pad ++ (codes " selector " ++ signed_decimal selector))
verdict_text Terminate = codes "terminate"
verdict_text (Broken fault) = codes "broken " ++ fault_text fault
