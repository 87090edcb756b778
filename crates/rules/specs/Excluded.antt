-- What the promise shuts out: lists of calls with answers that contradict it, whatever the state after them.
use Rattle.std.specs.Prelude.{◌≡◌, ℕ, true, false, List, [], ◌∷◌, ◌++◌, length, pos, Some}
use Rattle.calls.specs.declared.answer.Answer.{Answer}
use Rattle.calls.specs.declared.answer.Answer.TheVariants.{Done, Made, Stopped, Begun, Ended, Collected, Refused}
use Rattle.calls.specs.declared.answer.Refusal.TheVariants.{NothingWaits}
use Rattle.calls.specs.declared.call.Call.{Call}
use Rattle.calls.specs.declared.call.Call.TheVariants.{Move, Raise, Resume, Rethrow, Force, Begin, End, Delete, Collect}
use Rattle.calls.specs.declared.exception.Exception.{Exception}
use Rattle.rules.specs.Book.{Account, Caught, known, refused}
use Rattle.rules.specs.Landings.{raise_list, force_list}
use Rattle.rules.specs.Lists.{has, Begins}
use Rattle.rules.specs.Promise.{Promise, book}
use Rattle.rules.specs.Search.{Verdicts, asks}
use Rattle.rules.specs.State.{State, raisers}
use Rattle.rules.specs.Worked.{sample, entering, make_one, cleans, handles}

-- in every run

-- the calls and answers of a run, and one call more with its answer
abbrev pub OneMore : Verdicts → List Call → List Answer → Call → Answer → State → Type 0
OneMore v calls as' c a s = (length calls ≡ length as') × (refused a ≡ false) × Promise v (calls ++ (c ∷ [])) (as' ++ (a ∷ [])) s

-- what an unwinding answers next can only be the next of its landing list: the first to its call, and one more to each resume
pub record InTurn (v : Verdicts) (calls : List Call) (as' : List Answer) (a : Answer) (s : State) : Type 0 where
  pub raise : (e : Exception) → known e.serial (book v calls as').made ≡ Some e → OneMore v calls as' (Raise e.serial) a s
      → Begins (a ∷ []) (raise_list (asks v e false) e.serial (book v calls as').frames)
  pub rethrow : (e : Exception) → known e.serial (book v calls as').made ≡ Some e → (n : ℕ) (cs : List Caught) → (book v calls as').catches ≡ record { serial = e.serial; frame = n } ∷ cs
      → OneMore v calls as' Rethrow a s → Begins (a ∷ []) (raise_list (asks v e false) e.serial (book v calls as').frames)
  pub force : (e : Exception) → known e.serial (book v calls as').made ≡ Some e → (keep : ℕ) → OneMore v calls as' (Force e.serial keep) a s
      → Begins (a ∷ []) (force_list (asks v e true) e.serial keep (book v calls as').frames)
  pub resume : (u : Account) (us : List Account) → (book v calls as').running ≡ u ∷ us → OneMore v calls as' (Resume u.serial) a s → Begins (u.answers ++ (a ∷ [])) u.list

abbrev pub AnswersInTurn : Type 0
AnswersInTurn = (v : Verdicts) (calls : List Call) (as' : List Answer) (a : Answer) (s : State) → InTurn v calls as' a s

-- in sample runs

-- no state goes with these answers to these calls
abbrev pub Excludes : List Call → List Answer → Type 0
Excludes calls as' = (s : State) → Promise sample calls as' s → ⊥

-- with frames at 10, 20, 30 and 40 and one exception, which is then raised
abbrev pub raising : List Call
raising = entering (10 ∷ 20 ∷ 30 ∷ 40 ∷ []) ++ (make_one ∷ Raise 1 ∷ [])

abbrev pub before_raising : List Answer
before_raising = Done ∷ Done ∷ Done ∷ Done ∷ Made 1 ∷ []

-- an exception is caught in the top frame, and its handler has begun
abbrev pub catching : List Call
catching = entering (10 ∷ 20 ∷ 10 ∷ []) ++ (make_one ∷ Raise 1 ∷ Begin 1 ∷ [])

abbrev pub caught_there : List Answer
caught_there = Done ∷ Done ∷ Done ∷ Made 1 ∷ handles 1 2 ∷ Begun (pos 1) ∷ []

pub record ShutOut : Type 0 where
  -- a walk straight to the handler, past two cleanups
  pub straight : Excludes raising (before_raising ++ (handles 1 0 ∷ []))
  -- or from its first cleanup, past the second
  pub from_the_first : Excludes (raising ++ (Resume 1 ∷ [])) (before_raising ++ (cleans 1 3 400 ∷ handles 1 0 ∷ []))
  -- a landing where the verdict was Nothing
  pub at_nothing : Excludes (raising ++ (Resume 1 ∷ [])) (before_raising ++ (cleans 1 3 400 ∷ cleans 1 2 200 ∷ []))
  -- an accepted raise that answers no landing
  pub no_landing : Excludes raising (before_raising ++ (Done ∷ []))
  -- a raise that is accepted where there is no handler
  pub no_handler : Excludes (entering (20 ∷ []) ++ (make_one ∷ Raise 1 ∷ [])) (Done ∷ Made 1 ∷ cleans 1 0 200 ∷ [])
  -- a force that says stopped first
  pub stops_first : Excludes (entering (10 ∷ 40 ∷ []) ++ (make_one ∷ Force 1 1 ∷ [])) (Done ∷ Done ∷ Made 1 ∷ Stopped 1 ∷ [])
  -- a collect that refuses while one waits
  pub refuses : Excludes (make_one ∷ Delete 1 ∷ Collect ∷ []) (Made 1 ∷ Done ∷ Refused NothingWaits ∷ [])
  -- or answers another than the one that has waited longest
  pub out_of_turn : Excludes (make_one ∷ make_one ∷ Delete 2 ∷ Delete 1 ∷ Collect ∷ []) (Made 1 ∷ Made 2 ∷ Done ∷ Done ∷ Collected 1 ∷ [])
  -- an exception forgotten when its last catch closes: no collect finds it, or the state does not have it waiting
  pub forgotten : Excludes (catching ++ (End ∷ Collect ∷ [])) (caught_there ++ (Ended 1 (pos 0) true ∷ Refused NothingWaits ∷ []))
  pub not_waiting : (s : State) → has 1 s.waiting ≡ false → Promise sample (catching ++ (End ∷ [])) (caught_there ++ (Ended 1 (pos 0) true ∷ [])) s → ⊥
  -- an exception that its raiser has, forgotten by the state
  pub raiser_forgotten : (s : State) → has 1 (raisers s.held) ≡ false → Promise sample (make_one ∷ []) (Made 1 ∷ []) s → ⊥
  -- a begin of another exception than the newest catch's
  pub another_begins : Excludes (entering (10 ∷ []) ++ (make_one ∷ Raise 1 ∷ Begin 7 ∷ [])) (Done ∷ Made 1 ∷ handles 1 0 ∷ Begun (pos 1) ∷ [])
  -- a rethrown exception that waits while it unwinds: its catch has gone with its frame, and a cleanup runs
  pub collected_unwinding : Excludes (catching ++ (Move 30 ∷ Rethrow ∷ Collect ∷ [])) (caught_there ++ (Done ∷ cleans 1 1 200 ∷ Collected 1 ∷ []))
  pub waiting_unwinding : (s : State) → has 1 s.waiting ≡ true → Promise sample (catching ++ (Move 30 ∷ Rethrow ∷ [])) (caught_there ++ (Done ∷ cleans 1 1 200 ∷ [])) s → ⊥
