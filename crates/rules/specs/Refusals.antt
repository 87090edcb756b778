-- The causes of refusals, said of the state and the verdicts alone, and the law that a call is refused exactly where it has a
-- cause, with the smallest number of its causes.
use Rattle.std.specs.Prelude.{◌≡◌, ℕ, ◌+◌, ◌<◌, ◌≤◌, true, false, ◌⊎◌, List, [], ◌∷◌, ◌++◌, length, Some, None, ◌≢◌}
use Rattle.personality.specs.declared.fault.Fault.{Fault}
use Rattle.personality.specs.declared.verdict.Verdict.{Verdict}
use Rattle.personality.specs.declared.verdict.Verdict.TheVariants.{Nothing, Cleanup, Handler, Terminate, Broken}
use Rattle.calls.specs.Numbers.{refusal_number}
use Rattle.calls.specs.declared.answer.Answer.TheVariants.{Refused}
use Rattle.calls.specs.declared.answer.Refusal.{Refusal}
use Rattle.calls.specs.declared.answer.Refusal.TheVariants.{FramesFull, NoFrame, CatchOpen, CleanupRuns, ExceptionsFull, SerialsUsedUp, NoSuchException, NotWithRaiser, NoBegunCatch, CatchBelowTop, AlreadyUnwinds, CatchesFull, KeepOutOfRange, Terminated, BrokenTable, PassedFence, NoHandler, NotInnermost, NoUnbegunCatch, NothingWaits}
use Rattle.calls.specs.declared.call.Call.{Call}
use Rattle.calls.specs.declared.call.Call.TheVariants.{Enter, Move, Leave, Make, Raise, Resume, Rethrow, Force, Begin, End, Delete, Collect}
use Rattle.calls.specs.declared.exception.Catch.{Catch}
use Rattle.calls.specs.declared.exception.HeldException.{HeldException}
use Rattle.calls.specs.declared.frame.Activation.{Activation}
use Rattle.calls.specs.declared.frame.Frame.{Frame}
use Rattle.calls.specs.declared.frame.Unwinding.{Unwinding}
use Rattle.rules.specs.Book.{refused}
use Rattle.rules.specs.Calls.{step}
use Rattle.rules.specs.Laws.{Unwinds}
use Rattle.rules.specs.Lists.{In, All}
use Rattle.rules.specs.Search.{Verdicts, asks}
use Rattle.rules.specs.State.{State}

-- frames

-- of the frames fs, f has the number n, and those above it are `above`
abbrev pub Stands : List Activation → List Activation → Activation → ℕ → Type 0
Stands fs above f n = (below : List Activation) × (fs ≡ above ++ (f ∷ below)) × (n ≡ length below)

-- n is the top frame's number
abbrev pub Top : List Activation → ℕ → Type 0
Top fs n = (f : Activation) × Stands fs [] f n

-- no cleanup runs in a frame
abbrev pub NoCleanup : Activation → Type 0
NoCleanup f = f.cleanup ≡ None

-- the innermost running cleanup is that of the unwinding u, in the frame numbered n: none runs in a frame above it
abbrev pub Innermost : List Activation → Unwinding → ℕ → Type 0
Innermost fs u n = (above : List Activation) × (f : Activation) × Stands fs above f n × All NoCleanup above × (f.cleanup ≡ Some u)

-- the serial x is not that of the unwinding whose cleanup is the innermost, or that cleanup does not run in the top frame
abbrev pub IsNotInnermost : ℕ → List Activation → Type 0
IsNotInnermost x fs =
    ((u : Unwinding) (n : ℕ) → Innermost fs u n → u.exception.serial ≢ x)
    ⊎ ((u : Unwinding) × (n : ℕ) × Innermost fs u n × (Top fs n → ⊥))

-- exceptions

-- an exception with the serial x was made and is not collected: it is held, or it waits
abbrev pub Uncollected : ℕ → State → Type 0
Uncollected x s = ((h : HeldException) × In h s.held × (h.exception.serial ≡ x)) ⊎ In x s.waiting

-- h is the record of the exception x: the first that has its serial. No two have it in a state that calls lead to
abbrev pub RecordOf : ℕ → HeldException → List HeldException → Type 0
RecordOf x h [] = ⊥
RecordOf x h (g ∷ rest) = ((g.exception.serial ≡ x) × (h ≡ g)) ⊎ ((g.exception.serial ≢ x) × RecordOf x h rest)

-- the exception x is with its raiser
abbrev pub WithRaiser : ℕ → State → Type 0
WithRaiser x s = (h : HeldException) × RecordOf x h s.held × (h.owned ≡ true)

-- catches

-- c is the newest catch
abbrev pub Newest : Catch → State → Type 0
Newest c s = (rest : List Catch) × (s.catches ≡ c ∷ rest)

-- there is no catch, or the newest is not begun
abbrev pub NoBegun : State → Type 0
NoBegun s = (s.catches ≡ []) ⊎ ((c : Catch) × Newest c s × (c.begun ≡ false))

-- searches

-- a verdict that sends a search on to the next frame
abbrev pub LetsPass : Verdict → Type 0
LetsPass Nothing = Unit {0}
LetsPass (Cleanup pad) = Unit {0}
LetsPass (Handler pad selector) = ⊥
LetsPass Terminate = ⊥
LetsPass (Broken fault) = ⊥

-- a search goes on below f: its verdict lets it, and no cleanup runs there
abbrev pub Passes : (Frame → Verdict) → Activation → Type 0
Passes ask f = LetsPass (ask f.frame) × NoCleanup f

-- a search from the top comes down to the frame numbered n, and gets the verdict w there
abbrev pub Meets : (Frame → Verdict) → List Activation → ℕ → Verdict → Type 0
Meets ask fs n w = (above : List Activation) × (f : Activation) × Stands fs above f n × All (Passes ask) above × (ask f.frame ≡ w)

-- a search from the top comes down to a frame in which a cleanup runs, and gets a verdict there that would let it pass
abbrev pub PassesFence : (Frame → Verdict) → List Activation → Type 0
PassesFence ask fs =
    (above : List Activation) × (f : Activation) × (n : ℕ) × (u : Unwinding) × Stands fs above f n × All (Passes ask) above × LetsPass (ask f.frame) × (f.cleanup ≡ Some u)

-- why a search is refused
abbrev pub SearchCause : (Frame → Verdict) → List Activation → Refusal → Type 0
SearchCause ask fs r =
    ((n : ℕ) × (r ≡ Terminated n) × Meets ask fs n Terminate)
    ⊎ ((n : ℕ) × (fault : Fault) × (r ≡ BrokenTable n fault) × Meets ask fs n (Broken fault))
    ⊎ ((r ≡ PassedFence) × PassesFence ask fs)
    ⊎ ((r ≡ NoHandler) × All (Passes ask) fs)

-- forced unwindings

-- there are fewer than k frames, or the innermost running cleanup's frame is not one of the k lowest
abbrev pub CannotKeep : ℕ → List Activation → Type 0
CannotKeep k fs = (length fs < k) ⊎ ((u : Unwinding) × (n : ℕ) × Innermost fs u n × (k ≤ n))

-- a verdict other than Broken
abbrev pub NotBroken : Verdict → Type 0
NotBroken Nothing = Unit {0}
NotBroken (Cleanup pad) = Unit {0}
NotBroken (Handler pad selector) = Unit {0}
NotBroken Terminate = Unit {0}
NotBroken (Broken fault) = ⊥

-- of the frames that an unwinding asks which keeps k of them, the one numbered n is the first from the top to get Broken
abbrev pub MeetsBroken : (Frame → Verdict) → ℕ → List Activation → ℕ → Fault → Type 0
MeetsBroken ask k fs n fault =
    (above : List Activation) × (f : Activation) × Stands fs above f n × (k ≤ n) × All (λ g. NotBroken (ask g.frame)) above × (ask f.frame ≡ Broken fault)

-- causes

-- why what only a raiser may do with the exception x is refused
abbrev pub RaiserCause : ℕ → State → Refusal → Type 0
RaiserCause x s r = ((r ≡ NoSuchException) × (Uncollected x s → ⊥)) ⊎ ((r ≡ NotWithRaiser) × (WithRaiser x s → ⊥))

-- a cause for which a call is refused with r. A call may have several at once. Each is stated on its own, whether or not one
-- with a smaller number holds too: an exception that does not exist is not with its raiser, either
abbrev pub Cause : Verdicts → State → Call → Refusal → Type 0
Cause v s (Enter unit place) r = (r ≡ FramesFull) × (64 ≤ length s.frames)
Cause v s (Move place) r = (r ≡ NoFrame) × (s.frames ≡ [])
Cause v s Leave r =
    ((r ≡ NoFrame) × (s.frames ≡ []))
    ⊎ ((r ≡ CatchOpen) × (c : Catch) × In c s.catches × Top s.frames c.frame)
    ⊎ ((r ≡ CleanupRuns) × (f : Activation) × (n : ℕ) × (u : Unwinding) × Stands s.frames [] f n × (f.cleanup ≡ Some u))
Cause v s (Make class thrown) r =
    ((r ≡ ExceptionsFull) × (16 ≤ length s.held + length s.waiting))
    ⊎ ((r ≡ SerialsUsedUp) × (4294967295 ≤ s.last))
Cause v s (Raise x) r =
    RaiserCause x s r
    ⊎ ((r ≡ CatchesFull) × (32 ≤ length s.catches))
    ⊎ ((h : HeldException) × RecordOf x h s.held × SearchCause (asks v h.exception false) s.frames r)
Cause v s (Resume x) r = (r ≡ NotInnermost) × IsNotInnermost x s.frames
Cause v s Rethrow r =
    ((r ≡ NoBegunCatch) × NoBegun s)
    ⊎ ((r ≡ AlreadyUnwinds) × (c : Catch) × Newest c s × Unwinds c.exception.serial s)
    ⊎ ((r ≡ CatchesFull) × (32 ≤ length s.catches))
    ⊎ ((c : Catch) × Newest c s × SearchCause (asks v c.exception false) s.frames r)
Cause v s (Force x keep) r =
    RaiserCause x s r
    ⊎ ((r ≡ KeepOutOfRange) × CannotKeep keep s.frames)
    ⊎ ((h : HeldException) × (n : ℕ) × (fault : Fault) × RecordOf x h s.held × (r ≡ BrokenTable n fault) × MeetsBroken (asks v h.exception true) keep s.frames n fault)
Cause v s (Begin x) r = (r ≡ NoUnbegunCatch) × ((c : Catch) → Newest c s → c.exception.serial ≡ x → c.begun ≢ false)
Cause v s End r =
    ((r ≡ NoBegunCatch) × NoBegun s)
    ⊎ ((r ≡ CatchBelowTop) × (c : Catch) × Newest c s × (Top s.frames c.frame → ⊥))
Cause v s (Delete x) r = RaiserCause x s r
Cause v s Collect r = (r ≡ NothingWaits) × (s.waiting ≡ [])

-- the law

-- of one call in one state
pub record RefusalsRight (v : Verdicts) (c : Call) (s : State) : Type 0 where
  -- what is answered is a cause's number
  pub cause : (r : Refusal) → (step v c s).answer ≡ Refused r → Cause v s c r
  -- no cause has a smaller one
  pub smallest : (r q : Refusal) → (step v c s).answer ≡ Refused r → Cause v s c q → refusal_number r ≤ refusal_number q
  -- with a cause the call is refused, so without a refusal there is none
  pub listed : (r : Refusal) → Cause v s c r → refused (step v c s).answer ≡ true

-- of every call in every state
abbrev pub RefusalsListed : Type 0
RefusalsListed = (v : Verdicts) (c : Call) (s : State) → RefusalsRight v c s
