-- Worked runs. The verdict depends on the frame's place: at 20 and 40 there is a cleanup, at 10 a handler, or a cleanup where
-- the question is forced, and elsewhere nothing.
use Rattle.std.specs.Prelude.{◌≡◌, ℕ, true, cond, List, [], ◌∷◌, ◌++◌, map, pos, ◌==◌}
use Rattle.personality.specs.declared.verdict.Verdict.TheVariants.{Nothing, Cleanup, Handler}
use Rattle.calls.specs.declared.answer.Answer.{Answer}
use Rattle.calls.specs.declared.answer.Answer.TheVariants.{Done, Made, Stopped, Begun, Ended, Collected, Refused}
use Rattle.calls.specs.declared.answer.Kind.TheVariants as kind
use Rattle.calls.specs.declared.answer.Refusal.TheVariants.{PassedFence, NothingWaits}
use Rattle.calls.specs.declared.call.Call.{Call}
use Rattle.calls.specs.declared.call.Call.TheVariants.{Enter, Move, Leave, Make, Raise, Resume, Rethrow, Force, Begin, End, Delete, Collect}
use Rattle.rules.specs.Calls.{answers, final}
use Rattle.rules.specs.Search.{Verdicts}
use Rattle.rules.specs.State.{start}
use Rattle.rules.specs.Walk.{landing}

abbrev pub sample : Verdicts
sample q =
    cond (q.place == 10) (cond q.forced (Cleanup 110) (Handler 100 (pos 1)))
    (cond (q.place == 20) (Cleanup 200) (cond (q.place == 40) (Cleanup 400) Nothing))

-- frames of unit 0 at these places, the first at the bottom
abbrev pub entering : List ℕ → List Call
entering = map (λ place. Enter 0 place)

-- an exception of class 1 and type 1
abbrev pub make_one : Call
make_one = Make 1 1

-- landings of the exception x in the frame numbered n
abbrev pub cleans : ℕ → ℕ → ℕ → Answer
cleans x n pad = landing x n pad kind.Cleanup

abbrev pub handles : ℕ → ℕ → Answer
handles x n = landing x n 100 (kind.Handler (pos 1))

-- the answers to calls on a fresh state, set up with 0
abbrev pub answered_by : List Call → List Answer
answered_by calls = answers sample calls (start 0)

pub record WorkedRuns : Type 0 where
  -- a fault caught above two cleanups: both run, then the handler
  pub two_cleanups :
      answered_by (entering (10 ∷ 20 ∷ 30 ∷ 40 ∷ []) ++ (make_one ∷ Raise 1 ∷ Resume 1 ∷ Resume 1 ∷ Begin 1 ∷ End ∷ Collect ∷ []))
      ≡ Done ∷ Done ∷ Done ∷ Done ∷ Made 1 ∷ cleans 1 3 400 ∷ cleans 1 1 200 ∷ handles 1 0 ∷ Begun (pos 1) ∷ Ended 1 (pos 0) true ∷ Collected 1 ∷ []
  -- a fault in a cleanup caught inside it: the cleanup goes on afterwards
  pub inside :
      answered_by (entering (10 ∷ 40 ∷ []) ++ (make_one ∷ Raise 1 ∷ Enter 0 10 ∷ make_one ∷ Raise 2 ∷ Begin 2 ∷ End ∷ Leave ∷ Resume 1 ∷ Begin 1 ∷ End ∷ Collect ∷ Collect ∷ []))
      ≡ Done ∷ Done ∷ Made 1 ∷ cleans 1 1 400 ∷ Done ∷ Made 2 ∷ handles 2 2 ∷ Begun (pos 1) ∷ Ended 2 (pos 0) true ∷ Done ∷ handles 1 0 ∷ Begun (pos 1) ∷ Ended 1 (pos 0) true ∷ Collected 2 ∷ Collected 1 ∷ []
  -- the same with no handler down to the fence: the search does not go on beneath the running cleanup
  pub fenced :
      answered_by (entering (10 ∷ 40 ∷ []) ++ (make_one ∷ Raise 1 ∷ Enter 0 30 ∷ make_one ∷ Raise 2 ∷ Delete 2 ∷ Collect ∷ Leave ∷ Resume 1 ∷ []))
      ≡ Done ∷ Done ∷ Made 1 ∷ cleans 1 1 400 ∷ Done ∷ Made 2 ∷ Refused PassedFence ∷ Done ∷ Collected 2 ∷ Done ∷ handles 1 0 ∷ []
  -- a rethrow that closes its own catch on the way: the exception does not wait, since it unwinds
  pub rethrown :
      answered_by (entering (10 ∷ 10 ∷ []) ++ (make_one ∷ Raise 1 ∷ Begin 1 ∷ Move 30 ∷ Rethrow ∷ Collect ∷ Begin 1 ∷ End ∷ Collect ∷ []))
      ≡ Done ∷ Done ∷ Made 1 ∷ handles 1 1 ∷ Begun (pos 1) ∷ Done ∷ handles 1 0 ∷ Refused NothingWaits ∷ Begun (pos 1) ∷ Ended 1 (pos 0) true ∷ Collected 1 ∷ []
  -- a stop that keeps two frames: cleanups run, no handler does, and the raiser has the exception again
  pub stopped :
      answered_by (entering (10 ∷ 30 ∷ 20 ∷ 10 ∷ 40 ∷ []) ++ (make_one ∷ Force 1 2 ∷ Resume 1 ∷ Resume 1 ∷ Resume 1 ∷ Delete 1 ∷ Collect ∷ []))
      ≡ Done ∷ Done ∷ Done ∷ Done ∷ Done ∷ Made 1 ∷ cleans 1 4 400 ∷ cleans 1 3 110 ∷ cleans 1 2 200 ∷ Stopped 1 ∷ Done ∷ Collected 1 ∷ []
  pub kept :
      map (λ f. f.frame.place) (final sample (entering (10 ∷ 30 ∷ 20 ∷ 10 ∷ 40 ∷ []) ++ (make_one ∷ Force 1 2 ∷ Resume 1 ∷ Resume 1 ∷ Resume 1 ∷ [])) (start 0)).frames
      ≡ 30 ∷ 10 ∷ []
  -- an exception that loses its last holder as a frame goes: it waits from then on
  pub lost_with_its_frame :
      answered_by (entering (10 ∷ 10 ∷ []) ++ (make_one ∷ Raise 1 ∷ Begin 1 ∷ Move 30 ∷ make_one ∷ Raise 2 ∷ Collect ∷ Collect ∷ Begin 2 ∷ End ∷ Collect ∷ []))
      ≡ Done ∷ Done ∷ Made 1 ∷ handles 1 1 ∷ Begun (pos 1) ∷ Done ∷ Made 2 ∷ handles 2 0 ∷ Collected 1 ∷ Refused NothingWaits ∷ Begun (pos 1) ∷ Ended 2 (pos 0) true ∷ Collected 2 ∷ []
