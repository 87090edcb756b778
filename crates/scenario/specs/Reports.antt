-- A question as a statement, counts of questions by verdict, and the line that prints them.
use Rattle.std.specs.Prelude.{ℕ, ◌+◌, ◌-◌, min, Bool, true, false, List, ◌++◌, replicate, length, codes, decimal}
use Rattle.std.specs.Fmt.{digits}
use Rattle.personality.specs.declared.verdict.Question.{Question}
use Rattle.personality.specs.declared.verdict.Verdict.{Verdict}
use Rattle.personality.specs.declared.verdict.Verdict.TheVariants.{Nothing, Cleanup, Handler, Terminate, Broken}
use Rattle.scenario.specs.declared.report.Tally.{Tally}

-- sixteen lower-case hexadecimal digits
abbrev pub class_text : ℕ → List ℕ
class_text class = let d = digits 16 false class in replicate (16 - length d) 48 ++ d

abbrev pub manner : Bool → List ℕ
manner true = codes "forced"
manner false = codes "plain"

abbrev pub asked_text : Question → List ℕ
asked_text q =
    codes "ask " ++ (decimal q.unit ++ (codes " " ++ (decimal q.place ++ (codes " " ++ (class_text q.class ++ (codes " " ++ (decimal q.thrown ++ (codes " " ++ manner q.forced))))))))

-- one more; a counter stops at the largest number of 64 bits
abbrev pub more : ℕ → ℕ
more n = min (n + 1) 0xffffffffffffffff

abbrev pub no_questions : Tally
no_questions = record { questions = 0; nothing = 0; cleanup = 0; handler = 0; terminate = 0; broken = 0 }

-- the verdict's counter and that of the questions go up
abbrev pub noted : Verdict → Tally → Tally
noted Nothing t = record { questions = more t.questions; nothing = more t.nothing; cleanup = t.cleanup; handler = t.handler; terminate = t.terminate; broken = t.broken }
noted (Cleanup pad) t = record { questions = more t.questions; nothing = t.nothing; cleanup = more t.cleanup; handler = t.handler; terminate = t.terminate; broken = t.broken }
noted (Handler pad selector) t = record { questions = more t.questions; nothing = t.nothing; cleanup = t.cleanup; handler = more t.handler; terminate = t.terminate; broken = t.broken }
noted Terminate t = record { questions = more t.questions; nothing = t.nothing; cleanup = t.cleanup; handler = t.handler; terminate = more t.terminate; broken = t.broken }
noted (Broken fault) t = record { questions = more t.questions; nothing = t.nothing; cleanup = t.cleanup; handler = t.handler; terminate = t.terminate; broken = more t.broken }

abbrev pub tally_text : Tally → List ℕ
tally_text t =
    codes "questions " ++ (decimal t.questions ++ (codes " nothing " ++ (decimal t.nothing ++ (codes " cleanup " ++ (decimal t.cleanup ++ (codes " handler " ++ (decimal t.handler ++ (codes " terminate " ++ (decimal t.terminate ++ (codes " broken " ++ decimal t.broken))))))))))
