-- The first phase of an unwinding: asking the frames, while nothing moves.
use Rattle.std.specs.Prelude.{ℕ, Bool, true, false, cond, ◌&&◌, List, [], ◌∷◌, length, Some, None, Ok, Err, Option, Result, nat_le, nat_lt}
use Rattle.personality.specs.declared.verdict.Question.{Question}
use Rattle.personality.specs.declared.verdict.Verdict.{Verdict}
use Rattle.personality.specs.declared.verdict.Verdict.TheVariants.{Nothing, Cleanup, Handler, Terminate, Broken}
use Rattle.calls.specs.declared.answer.Refusal.{Refusal}
use Rattle.calls.specs.declared.answer.Refusal.TheVariants.{CatchesFull, KeepOutOfRange, Terminated, BrokenTable, PassedFence, NoHandler}
use Rattle.calls.specs.declared.exception.Exception.{Exception}
use Rattle.calls.specs.declared.frame.Activation.{Activation}
use Rattle.calls.specs.declared.frame.Frame.{Frame}
use Rattle.calls.specs.declared.frame.Goal.{Goal}
use Rattle.calls.specs.declared.frame.Goal.TheVariants as goal
use Rattle.rules.specs.Lists.{given}
use Rattle.rules.specs.State.{State}

-- what a personality says of each question, over one image
abbrev pub Verdicts : Type 0
Verdicts = Question → Verdict

-- what a frame is asked about an exception
abbrev pub asks : Verdicts → Exception → Bool → Frame → Verdict
asks v e forced f = v (record { unit = f.unit; place = f.place; class = e.class; thrown = e.thrown; forced = forced })

-- what the search makes of the verdict on the frame numbered n, and of what it comes to further down
abbrev pub judged : Verdict → ℕ → Result Goal Refusal → Result Goal Refusal
judged Nothing n further = further
judged (Cleanup pad) n further = further
judged (Handler pad selector) n further = Ok (goal.Handler n pad selector)
judged Terminate n further = Err (Terminated n)
judged (Broken fault) n further = Err (BrokenTable n fault)

-- from the top down to the fence, that frame included, or to the bottom. The fence is the innermost running cleanup's frame
unfoldable pub search_down : (Frame → Verdict) → List Activation → Result Goal Refusal
search_down ask [] = Err NoHandler
search_down ask (f ∷ fs) = judged (ask f.frame) (length fs) (given f.cleanup (search_down ask fs) (λ _. Err PassedFence))

-- the handler that a raise or rethrow of e goes to, or why it is refused
abbrev pub handler_for : Verdicts → Exception → State → Result Goal Refusal
handler_for v e s = cond (nat_lt (length s.catches) 32) (search_down (asks v e false) s.frames) (Err CatchesFull)

-- the number of the fence
unfoldable pub fence : List Activation → Option ℕ
fence [] = None
fence (f ∷ fs) = given f.cleanup (fence fs) (λ _. Some (length fs))

-- whether the fence, if there is one, is among the k lowest frames
abbrev pub spares_fence : ℕ → Option ℕ → Bool
spares_fence k None = true
spares_fence k (Some n) = nat_lt n k

-- what the first asking of a forced unwinding makes of the verdict on the frame numbered n
abbrev pub unless_broken : Verdict → ℕ → Result Goal Refusal → Result Goal Refusal
unless_broken Nothing n further = further
unless_broken (Cleanup pad) n further = further
unless_broken (Handler pad selector) n further = further
unless_broken Terminate n further = further
unless_broken (Broken fault) n further = Err (BrokenTable n fault)

-- the first asking of a forced unwinding: from the top down to the frame numbered k
unfoldable pub ask_down_to : (Frame → Verdict) → ℕ → List Activation → Result Goal Refusal
ask_down_to ask k [] = Ok (goal.Keep k)
ask_down_to ask k (f ∷ fs) =
    cond (nat_lt (length fs) k) (Ok (goal.Keep k)) (unless_broken (ask f.frame) (length fs) (ask_down_to ask k fs))

-- where a force of e that keeps k frames goes to, or why it is refused: there must be k frames, and the fence among them
abbrev pub stop_for : Verdicts → Exception → ℕ → State → Result Goal Refusal
stop_for v e k s =
    cond (nat_le k (length s.frames) && spares_fence k (fence s.frames)) (ask_down_to (asks v e true) k s.frames) (Err KeepOutOfRange)
