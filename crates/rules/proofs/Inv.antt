-- The invariant between state and book.
use Rattle.std.proofs.Common.{◌≡◌, ℕ, suc, ◌≤◌, Bool, true, false, cond, ◌≢◌, List, [], ◌∷◌, ◌++◌, map, length, Some, None, Option}
use Rattle.personality.specs.declared.verdict.Verdict.{Verdict}
use Rattle.calls.specs.declared.answer.Answer.{Answer}
use Rattle.calls.specs.declared.answer.Answer.TheVariants.{Stopped}
use Rattle.calls.specs.declared.answer.Kind.TheVariants as kind
use Rattle.calls.specs.declared.exception.Catch.{Catch}
use Rattle.calls.specs.declared.exception.Exception.{Exception}
use Rattle.calls.specs.declared.exception.HeldException.{HeldException}
use Rattle.calls.specs.declared.frame.Activation.{Activation}
use Rattle.calls.specs.declared.frame.Frame.{Frame}
use Rattle.calls.specs.declared.frame.Goal.{Goal}
use Rattle.calls.specs.declared.frame.Goal.TheVariants as goal
use Rattle.calls.specs.declared.frame.Unwinding.{Unwinding}
use Rattle.rules.specs.Book.{Book, Account, Caught, known}
use Rattle.rules.specs.Laws.{Ordered}
use Rattle.rules.specs.Lists.{given, has, All, Distinct}
use Rattle.rules.specs.Promise.{Whole, ends}
use Rattle.rules.specs.Search.{Verdicts, asks}
use Rattle.rules.specs.State.{State, raisers, unwinding, holdings}
use Rattle.rules.specs.Walk.{cleanup_pad, reached, forced, landing}
use Rattle.rules.proofs.Held.{names}
use Rattle.rules.proofs.Waits.{W}

-- a state by its fields
abbrev pub mk : List Activation → List HeldException → List Catch → List ℕ → ℕ → State
mk fs hs cs q n = record { frames = fs; held = hs; catches = cs; waiting = q; last = n }

-- frames and catches as the book has them
abbrev pub bare_frames : List Activation → List Frame
bare_frames = map (λ f. f.frame)

abbrev pub bare : Catch → Caught
bare c = record { serial = c.exception.serial; frame = c.frame }

abbrev pub bare_catches : List Catch → List Caught
bare_catches = map bare

abbrev pub made_serials : List Exception → List ℕ
made_serials = map (λ e. e.serial)

-- what the book has beyond the state
pub record History : Type 0 where
  pub made : List Exception
  pub raisers : List ℕ
  pub running : List Account
  pub ended : List Account
  pub collected : List ℕ

-- the book's frames, catches and waiting line are the state's
abbrev pub book_of : State → History → Book
book_of s h =
    record {
      frames = bare_frames s.frames;
      made = h.made;
      raisers = h.raisers;
      running = h.running;
      ended = h.ended;
      catches = bare_catches s.catches;
      waiting = s.waiting;
      collected = h.collected;
    }

-- the answer at the goal
abbrev pub arrival : ℕ → Goal → Answer
arrival x (goal.Handler frame pad selector) = landing x frame pad (kind.Handler selector)
arrival x (goal.Keep k) = Stopped x

-- the landings on the way down to a goal, and the answer there
unfoldable pub way : (Frame → Verdict) → ℕ → Goal → List Frame → List Answer
way ask x g [] = arrival x g ∷ []
way ask x g (f ∷ fs) =
    cond (reached g (length fs)) (arrival x g ∷ [])
    (given (cleanup_pad (ask f)) (way ask x g fs) (λ pad. landing x (length fs) pad kind.Cleanup ∷ way ask x g fs))

-- how many frames are left at the goal
abbrev pub limit : Goal → ℕ
limit (goal.Handler frame pad selector) = suc frame
limit (goal.Keep k) = k

-- how many a forced unwinding keeps, as the book has it
abbrev pub keeps : Goal → ℕ
keeps (goal.Handler frame pad selector) = 0
keeps (goal.Keep k) = k

abbrev pub when_not : Bool → Type 0 → Type 0
when_not true A = Unit {0}
when_not false A = A

-- no cleanup runs above the goal
abbrev pub Clear : Goal → List Activation → Type 0
Clear g [] = Unit {0}
Clear g (f ∷ fs) = when_not (reached g (length fs)) ((f.cleanup ≡ None) × Clear g fs)

-- the book has the exception as the state has it
abbrev pub Known : List Exception → Exception → Type 0
Known made e = known e.serial made ≡ Some e

-- the unwinding w, whose cleanup runs above the frames fs, and its account u
pub record Paused (v : Verdicts) (made : List Exception) (w : Unwinding) (fs : List Activation) (u : Account) : Type 0 where
  pub same : u.serial ≡ w.exception.serial
  pub keep_is : u.keep ≡ keeps w.goal
  -- its goal is still to come, with no other cleanup before it
  pub reach : limit w.goal ≤ length fs
  pub clear : Clear w.goal fs
  -- its landing list is what it has answered, and then the way down the frames beneath, which nobody changes while it is paused
  pub rest : u.list ≡ u.answers ++ way (asks v w.exception (forced w.goal)) w.exception.serial w.goal (bare_frames fs)
  pub some : u.answers ≢ []
  pub no_end : All (λ a. ends a ≡ false) u.answers
  pub known_as : Known made w.exception

-- the cleanups that run in the frames and the accounts that are running pair off, the innermost first
abbrev pub chain_at : Verdicts → List Exception → Option Unwinding → List Activation → (List Account → Type 0) → List Account → Type 0
chain_at v made None fs C us = C us
chain_at v made (Some w) fs C [] = ⊥
chain_at v made (Some w) fs C (u ∷ us) = Paused v made w fs u × C us

abbrev pub none_left : List Account → Type 0
none_left [] = Unit {0}
none_left (u ∷ us) = ⊥

abbrev pub Chain : Verdicts → List Exception → List Activation → List Account → Type 0
Chain v made [] = none_left
Chain v made (f ∷ fs) = chain_at v made f.cleanup fs (Chain v made fs)

pub record Good (v : Verdicts) (s : State) (h : History) : Type 0 where
  -- running cleanups and running accounts pair off
  pub chain : Chain v h.made s.frames h.running
  -- there are at most 64 frames
  pub tall : length s.frames ≤ 64
  -- catches are ordered by frame
  pub ordered : Ordered (length s.frames) s.catches
  -- what has ended is whole
  pub done : All Whole h.ended
  -- each exception made is held, waits or was collected
  pub waits : W (made_serials h.made) (names s.held) (holdings s) s.waiting h.collected s.last
  -- no exception is twice with a raiser or in an unwinding
  pub apart : Distinct (raisers s.held ++ unwinding s.frames)
  -- the raisers are the same
  pub owners : (y : ℕ) → has y h.raisers ≡ has y (raisers s.held)
  -- the exceptions are the same
  pub known_held : All (λ r. Known h.made r.exception) s.held
  pub known_caught : All (λ c. Known h.made c.exception) s.catches
