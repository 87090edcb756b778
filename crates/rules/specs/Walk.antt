-- The second phase of an unwinding: from the top, frame by frame, to a landing.
use Rattle.std.specs.Prelude.{ℕ, Bool, true, false, cond, List, [], ◌∷◌, length, Some, None, Option, ◌==◌, nat_lt}
use Rattle.personality.specs.declared.verdict.Verdict.{Verdict}
use Rattle.personality.specs.declared.verdict.Verdict.TheVariants.{Nothing, Cleanup, Handler, Terminate, Broken}
use Rattle.calls.specs.declared.answer.Answer.{Answer}
use Rattle.calls.specs.declared.answer.Answer.TheVariants.{Landed, Stopped}
use Rattle.calls.specs.declared.answer.Kind.{Kind}
use Rattle.calls.specs.declared.answer.Kind.TheVariants as kind
use Rattle.calls.specs.declared.exception.Catch.{Catch}
use Rattle.calls.specs.declared.exception.Exception.{Exception}
use Rattle.calls.specs.declared.frame.Activation.{Activation}
use Rattle.calls.specs.declared.frame.Frame.{Frame}
use Rattle.calls.specs.declared.frame.Goal.{Goal}
use Rattle.calls.specs.declared.frame.Goal.TheVariants as goal
use Rattle.calls.specs.declared.frame.Unwinding.{Unwinding}
use Rattle.rules.specs.Lists.{given}
use Rattle.rules.specs.Search.{Verdicts, asks}
use Rattle.rules.specs.State.{State, Outcome, with_frames, with_held, with_catches, own, holdings, release}

-- the top frame is now at a place
abbrev pub at_place : ℕ → List Activation → List Activation
at_place p [] = []
at_place p (f ∷ fs) = record { frame = record { unit = f.frame.unit; place = p }; cleanup = f.cleanup } ∷ fs

-- the catches in frames numbered n and above close, the newest first, while x unwinds; x itself is held by its unwinding.
-- No catch is in a higher frame than a newer one, so that those to close come first
unfoldable pub close : ℕ → ℕ → List Catch → State → State
close x n [] s = s
close x n (c ∷ cs) s =
    cond (nat_lt c.frame n) s
    (close x n cs (release c.exception.serial (x ∷ holdings (with_catches cs s)) (with_catches cs s)))

-- the top frame goes while x unwinds, so that the frames fs are left
abbrev pub gone : ℕ → List Activation → State → State
gone x fs s = close x (length fs) s.catches (with_frames fs s)

-- the pad of a Cleanup
abbrev pub cleanup_pad : Verdict → Option ℕ
cleanup_pad Nothing = None
cleanup_pad (Cleanup pad) = Some pad
cleanup_pad (Handler pad selector) = None
cleanup_pad Terminate = None
cleanup_pad (Broken fault) = None

-- whether an unwinding that has come to the frame numbered n ends there: at the handler's frame, or at one that is kept
abbrev pub reached : Goal → ℕ → Bool
reached (goal.Handler frame pad selector) n = n == frame
reached (goal.Keep k) n = nat_lt n k

-- whether an unwinding with this goal asks forced questions
abbrev pub forced : Goal → Bool
forced (goal.Handler frame pad selector) = false
forced (goal.Keep k) = true

-- the exception x lands in the frame numbered n
abbrev pub landing : ℕ → ℕ → ℕ → Kind → Answer
landing x n pad k = Landed (record { serial = x; frame = n; pad = pad; kind = k })

-- a cleanup of the unwinding u runs in the top frame f, over the frames fs
abbrev pub clean_up : Unwinding → Activation → List Activation → ℕ → State → Outcome
clean_up u f fs pad s =
    record {
      answer = landing u.exception.serial (length fs) pad kind.Cleanup;
      after = with_frames (record { frame = record { unit = f.frame.unit; place = pad }; cleanup = Some u } ∷ fs) s;
    }

-- the unwinding of e ends: at its handler, which opens a catch, not yet begun; or stopped, and e is with its raiser again
abbrev pub arrive : Exception → Goal → State → Outcome
arrive e (goal.Handler frame pad selector) s =
    record {
      answer = landing e.serial frame pad (kind.Handler selector);
      after = with_catches (record { exception = e; frame = frame; begun = false } ∷ s.catches) (with_frames (at_place pad s.frames) s);
    }
arrive e (goal.Keep k) s = record { answer = Stopped e.serial; after = with_held (own true e.serial s.held) s }

-- each frame above the goal is asked once more. At a Cleanup the unwinding lands; at Nothing the frame goes. It goes at any
-- other verdict too: after the first phase only an image that has changed since gives one. At the goal the unwinding ends as
-- the first phase found it, whatever the frame would say now. The third argument is the frames of the state
unfoldable pub walk : (Frame → Verdict) → Unwinding → List Activation → State → Outcome
walk ask u [] s = arrive u.exception u.goal s
walk ask u (f ∷ fs) s =
    cond (reached u.goal (length fs)) (arrive u.exception u.goal s)
    (given (cleanup_pad (ask f.frame)) (walk ask u fs (gone u.exception.serial fs s)) (λ pad. clean_up u f fs pad s))

-- an unwinding walks from the top
abbrev pub walk_from : Verdicts → Unwinding → State → Outcome
walk_from v u s = walk (asks v u.exception (forced u.goal)) u s.frames s
