-- The numbers of refusals, and the selectors of landings.
use Rattle.std.specs.Prelude.{ℕ, ℤ, pos}
use Rattle.calls.specs.declared.answer.Kind.{Kind}
use Rattle.calls.specs.declared.answer.Kind.TheVariants.{Cleanup, Handler}
use Rattle.calls.specs.declared.answer.Refusal.{Refusal}
use Rattle.calls.specs.declared.answer.Refusal.TheVariants.{FramesFull, NoFrame, CatchOpen, CleanupRuns, ExceptionsFull, SerialsUsedUp, NoSuchException, NotWithRaiser, NoBegunCatch, CatchBelowTop, AlreadyUnwinds, CatchesFull, KeepOutOfRange, Terminated, BrokenTable, PassedFence, NoHandler, NotInnermost, NoUnbegunCatch, NothingWaits}

-- of several causes the one with the smallest number is answered
abbrev pub refusal_number : Refusal → ℕ
refusal_number FramesFull = 1
refusal_number NoFrame = 2
refusal_number CatchOpen = 3
refusal_number CleanupRuns = 4
refusal_number ExceptionsFull = 5
refusal_number SerialsUsedUp = 6
refusal_number NoSuchException = 7
refusal_number NotWithRaiser = 8
refusal_number NoBegunCatch = 9
refusal_number CatchBelowTop = 10
refusal_number AlreadyUnwinds = 11
refusal_number CatchesFull = 12
refusal_number KeepOutOfRange = 13
refusal_number (Terminated frame) = 14
refusal_number (BrokenTable frame fault) = 15
refusal_number PassedFence = 16
refusal_number NoHandler = 17
refusal_number NotInnermost = 18
refusal_number NoUnbegunCatch = 19
refusal_number NothingWaits = 20

-- the selector of a landing: 0 at a cleanup
abbrev pub selector_of : Kind → ℤ
selector_of Cleanup = pos 0
selector_of (Handler selector) = selector
