-- Smaller laws of the calls.
use Rattle.std.specs.Prelude.{◌≡◌, ℕ, suc, ◌+◌, ◌<◌, ◌≤◌, Bool, true, false, cond, ◌⊎◌, List, [], ◌∷◌, length, ℤ, pos, neg_ℤ, Some, None, Option, ◌≢◌, nat_lt}
use Rattle.calls.specs.declared.answer.Answer.TheVariants.{Begun, Ended, Refused}
use Rattle.calls.specs.declared.answer.Refusal.{Refusal}
use Rattle.calls.specs.declared.call.Call.{Call}
use Rattle.calls.specs.declared.call.Call.TheVariants.{Begin, End}
use Rattle.calls.specs.declared.exception.Catch.{Catch}
use Rattle.calls.specs.declared.frame.Activation.{Activation}
use Rattle.calls.specs.declared.frame.Goal.{Goal}
use Rattle.calls.specs.declared.frame.Goal.TheVariants as goal
use Rattle.calls.specs.declared.frame.Unwinding.{Unwinding}
use Rattle.rules.specs.Calls.{step, final}
use Rattle.rules.specs.Lists.{In}
use Rattle.rules.specs.Search.{Verdicts}
use Rattle.rules.specs.State.{State, start}

-- refusals

-- a refused call leaves the whole state as it was, whatever the number
abbrev pub RefusalsLeave : Type 0
RefusalsLeave = (v : Verdicts) (c : Call) (s : State) (r : Refusal) → (step v c s).answer ≡ Refused r → (step v c s).after ≡ s

-- the handler count

-- the exception x has k begun catches
pub data Tally (x : ℕ) : List Catch → ℕ → Type 0 where
  none : Tally x [] 0
  one_more : (c : Catch) (cs : List Catch) (k : ℕ) → c.exception.serial ≡ x → c.begun ≡ true → Tally x cs k → Tally x (c ∷ cs) (suc k)
  not_begun : (c : Catch) (cs : List Catch) (k : ℕ) → c.begun ≡ false → Tally x cs k → Tally x (c ∷ cs) k
  another : (c : Catch) (cs : List Catch) (k : ℕ) → (c.exception.serial ≢ x) → Tally x cs k → Tally x (c ∷ cs) k

-- a cleanup of its unwinding runs
abbrev pub Unwinds : ℕ → State → Type 0
Unwinds x s = (f : Activation) × (u : Unwinding) × In f s.frames × (f.cleanup ≡ Some u) × (u.exception.serial ≡ x)

-- one of its catches is not begun
abbrev pub Unbegun : ℕ → State → Type 0
Unbegun x s = (c : Catch) × In c s.catches × (c.exception.serial ≡ x) × (c.begun ≡ false)

-- n is how many begun catches it has, negative exactly while it unwinds or has a catch that is not begun
pub record Counts (x : ℕ) (s : State) (n : ℤ) : Type 0 where
  pub k : ℕ
  pub tally : Tally x s.catches k
  pub minus : Unwinds x s ⊎ Unbegun x s → n ≡ neg_ℤ (pos k)
  pub plus : (Unwinds x s → ⊥) → (Unbegun x s → ⊥) → n ≡ pos k

-- what begin and end answer is the handler count in the state after them
pub record CountsRight (v : Verdicts) (s : State) : Type 0 where
  pub at_begin : (x : ℕ) (n : ℤ) → (step v (Begin x) s).answer ≡ Begun n → Counts x (step v (Begin x) s).after n
  pub at_end : (x : ℕ) (n : ℤ) (w : Bool) → (step v End s).answer ≡ Ended x n w → Counts x (step v End s).after n

abbrev pub HandlerCounts : Type 0
HandlerCounts = (v : Verdicts) (s : State) → CountsRight v s

-- the order of catches

-- the newest catch is in one of the n lowest frames, and no catch is in a higher frame than a newer one
abbrev pub Ordered : ℕ → List Catch → Type 0
Ordered n [] = Unit {0}
Ordered n (c ∷ cs) = (c.frame < n) × Ordered (suc c.frame) cs

abbrev pub CatchesOrdered : Type 0
CatchesOrdered = (v : Verdicts) (n : ℕ) (calls : List Call) → Ordered (length (final v calls (start n)).frames) (final v calls (start n)).catches

-- room for catches

-- how many catches are left once those in frames numbered n and above have closed, the newest first
unfoldable pub left_below : ℕ → List Catch → ℕ
left_below n [] = 0
left_below n (c ∷ cs) = cond (nat_lt c.frame n) (suc (length cs)) (left_below n cs)

-- a raise, which will open a catch at its handler, finds room for it
abbrev pub RoomFor : Goal → ℕ → Type 0
RoomFor (goal.Handler frame pad selector) k = k < 32
RoomFor (goal.Keep frames) k = Unit {0}

abbrev pub room_at : Option Unwinding → ℕ → Type 0
room_at None k = Unit {0}
room_at (Some u) k = RoomFor u.goal k

-- each unwinding whose cleanup runs finds it when that frame has gone
abbrev pub RoomBelow : List Activation → List Catch → Type 0
RoomBelow [] cs = Unit {0}
RoomBelow (f ∷ fs) cs = room_at f.cleanup (left_below (length fs) cs) × RoomBelow fs cs

pub record Room (s : State) : Type 0 where
  pub most : length s.catches ≤ 32
  pub below : RoomBelow s.frames s.catches

-- there is room at the start, and each call leaves it so; so at no time are more than 32 catches open, though only raise and
-- rethrow test for it
pub record RoomKept : Type 0 where
  pub at_start : (n : ℕ) → Room (start n)
  pub by_step : (v : Verdicts) (c : Call) (s : State) → Room s → Room (step v c s).after
  pub in_runs : (v : Verdicts) (n : ℕ) (calls : List Call) → Room (final v calls (start n))

-- the limits

-- at most 64 frames, 16 uncollected exceptions and 32 open catches
pub record Bounded (s : State) : Type 0 where
  pub frames : length s.frames ≤ 64
  pub exceptions : length s.held + length s.waiting ≤ 16
  pub catches : length s.catches ≤ 32

abbrev pub BoundsKept : Type 0
BoundsKept = (v : Verdicts) (n : ℕ) (calls : List Call) → Bounded (final v calls (start n))
