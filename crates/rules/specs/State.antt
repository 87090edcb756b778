-- What the unwinder keeps, as lists, and who holds an exception in it.
-- Stacks are lists with the newest first. A frame's number is how many frames are beneath it.
use Rattle.std.specs.Prelude.{ℕ, Bool, cond, List, [], ◌∷◌, ◌++◌, map, Some, None, Option, ◌==◌}
use Rattle.calls.specs.declared.answer.Answer.{Answer}
use Rattle.calls.specs.declared.answer.Answer.TheVariants.{Refused}
use Rattle.calls.specs.declared.answer.Refusal.{Refusal}
use Rattle.calls.specs.declared.exception.Catch.{Catch}
use Rattle.calls.specs.declared.exception.HeldException.{HeldException}
use Rattle.calls.specs.declared.frame.Activation.{Activation}
use Rattle.rules.specs.Lists.{given, has}

pub record State : Type 0 where
  -- the frames, the top one first; each with the unwinding whose cleanup runs there, if one does
  pub frames : List Activation
  -- the exceptions that somebody holds, the oldest first
  pub held : List HeldException
  -- the open catches, the newest first
  pub catches : List Catch
  -- the serials of those that nobody holds and nobody has collected, the one that has waited longest first
  pub waiting : List ℕ
  -- the serial that was given last; before the first, the number that the state was set up with
  pub last : ℕ

-- set up with the number n: the first serial is the one after it
abbrev pub start : ℕ → State
start n = record { frames = []; held = []; catches = []; waiting = []; last = n }

-- what a call answers, and the state that it leaves
pub record Outcome : Type 0 where
  pub answer : Answer
  pub after : State

-- a refused call leaves the state as it was
abbrev pub refuse : Refusal → State → Outcome
refuse r s = record { answer = Refused r; after = s }

abbrev pub with_frames : List Activation → State → State
with_frames fs s = record { frames = fs; held = s.held; catches = s.catches; waiting = s.waiting; last = s.last }

abbrev pub with_held : List HeldException → State → State
with_held hs s = record { frames = s.frames; held = hs; catches = s.catches; waiting = s.waiting; last = s.last }

abbrev pub with_catches : List Catch → State → State
with_catches cs s = record { frames = s.frames; held = s.held; catches = cs; waiting = s.waiting; last = s.last }

abbrev pub with_waiting : List ℕ → State → State
with_waiting q s = record { frames = s.frames; held = s.held; catches = s.catches; waiting = q; last = s.last }

-- the record of the exception x
unfoldable pub find : ℕ → List HeldException → Option HeldException
find x [] = None
find x (h ∷ hs) = cond (x == h.exception.serial) (Some h) (find x hs)

-- the records but that of the exception x
unfoldable pub without : ℕ → List HeldException → List HeldException
without x [] = []
without x (h ∷ hs) = cond (x == h.exception.serial) hs (h ∷ without x hs)

-- the exception x goes to its raiser (true) or leaves it (false)
unfoldable pub own : Bool → ℕ → List HeldException → List HeldException
own b x [] = []
own b x (h ∷ hs) = cond (x == h.exception.serial) (record { exception = h.exception; owned = b } ∷ hs) (h ∷ own b x hs)

-- the serials of those that are with their raiser
unfoldable pub raisers : List HeldException → List ℕ
raisers [] = []
raisers (h ∷ hs) = cond h.owned (h.exception.serial ∷ raisers hs) (raisers hs)

-- the serials of the unwindings whose cleanups run, the innermost first
unfoldable pub unwinding : List Activation → List ℕ
unwinding [] = []
unwinding (f ∷ fs) = given f.cleanup (unwinding fs) (λ u. u.exception.serial ∷ unwinding fs)

-- the serials of the catches, the newest first
abbrev pub caught : List Catch → List ℕ
caught = map (λ c. c.exception.serial)

-- the serials of all that is held: by a raiser, an unwinding or a catch
abbrev pub holdings : State → List ℕ
holdings s = (raisers s.held ++ unwinding s.frames) ++ caught s.catches

-- the exception x has lost a holder: unless it is among those that are still held, it waits from now on
unfoldable pub release : ℕ → List ℕ → State → State
release x still s =
    cond (has x still) s
    (record { frames = s.frames; held = without x s.held; catches = s.catches; waiting = s.waiting ++ (x ∷ []); last = s.last })
