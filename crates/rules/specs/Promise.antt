-- The promise on runs: what holds of the book of every list of calls with their answers, and of the state at the end.
-- It does not say when a call is refused, with which number, or what a handler count is: the calls' own rules do. A run is
-- right if its answers and its state are those of the rules' steps; that it then keeps the promise is the theorem.
use Rattle.std.specs.Prelude.{◌≡◌, ℕ, Bool, true, false, not, ◌≢◌, ◌⊎◌, ◌↔◌, List, [], ◌∷◌, map, ℤ}
use Rattle.calls.specs.declared.answer.Answer.{Answer}
use Rattle.calls.specs.declared.answer.Answer.TheVariants.{Done, Made, Landed, Stopped, Begun, Ended, Collected, Refused}
use Rattle.calls.specs.declared.answer.Kind.{Kind}
use Rattle.calls.specs.declared.answer.Kind.TheVariants as kind
use Rattle.calls.specs.declared.answer.Refusal.TheVariants.{NothingWaits}
use Rattle.calls.specs.declared.call.Call.{Call}
use Rattle.calls.specs.declared.call.Call.TheVariants.{Enter, Move, Leave, Make, Raise, Resume, Rethrow, Force, Begin, End, Delete, Collect}
use Rattle.rules.specs.Book.{Book, Account, Caught, blank, set_catches, serials, held_in, refused, note, written}
use Rattle.rules.specs.Calls.{answers, final}
use Rattle.rules.specs.Lists.{has, All, Begins, Distinct}
use Rattle.rules.specs.Search.{Verdicts}
use Rattle.rules.specs.State.{State, start, raisers, unwinding}

-- unwindings

abbrev pub ends_landing : Kind → Bool
ends_landing kind.Cleanup = false
ends_landing (kind.Handler selector) = true

-- whether an unwinding ends with an answer: its handler landing, or stopped
abbrev pub ends : Answer → Bool
ends (Landed l) = ends_landing l.kind
ends (Stopped x) = true
ends Done = false
ends (Made x) = false
ends (Begun n) = false
ends (Ended x n w) = false
ends (Collected x) = false
ends (Refused r) = false

-- the last of the answers ends an unwinding, and no other does
abbrev pub EndsLast : List Answer → Type 0
EndsLast [] = ⊥
EndsLast (a ∷ []) = ends a ≡ true
EndsLast (a ∷ (b ∷ rest)) = (ends a ≡ false) × EndsLast (b ∷ rest)

-- of an unwinding that has ended the answers are its landing list, and the last of them ended it
pub record Whole (u : Account) : Type 0 where
  pub all : u.answers ≡ u.list
  pub by_its_end : EndsLast u.answers

-- of any other they are the first of its landing list, at least one; none of them ended it, and the list has its end to come
pub record Part (u : Account) : Type 0 where
  pub firsts : Begins u.answers u.list
  pub some : u.answers ≢ []
  pub no_end : All (λ a. ends a ≡ false) u.answers
  pub to_come : EndsLast u.list

-- exceptions

-- x was made, and not collected
abbrev pub Uncollected : ℕ → Book → Type 0
Uncollected x b = (has x (map (λ e. e.serial) b.made) ≡ true) × (has x b.collected ≡ false)

-- the answer to a collect: the one that has waited longest, or that none waits
abbrev pub longest : List ℕ → Answer
longest [] = Refused NothingWaits
longest (x ∷ rest) = Collected x

abbrev pub Collects : Book → Call → Answer → Type 0
Collects b Collect a = a ≡ longest b.waiting
Collects b (Enter unit place) a = Unit {0}
Collects b (Move place) a = Unit {0}
Collects b Leave a = Unit {0}
Collects b (Make class thrown) a = Unit {0}
Collects b (Raise x) a = Unit {0}
Collects b (Resume x) a = Unit {0}
Collects b Rethrow a = Unit {0}
Collects b (Force x keep) a = Unit {0}
Collects b (Begin x) a = Unit {0}
Collects b End a = Unit {0}
Collects b (Delete x) a = Unit {0}

-- frames

-- without a frame nothing unwinds and nothing is caught
abbrev pub QuietWithoutFrames : Book → Type 0
QuietWithoutFrames b = b.frames ≡ [] → (b.running ≡ []) × (b.catches ≡ [])

-- the calls about an unwinding or a catch
abbrev pub needs_a_frame : Call → Bool
needs_a_frame (Resume x) = true
needs_a_frame (Begin x) = true
needs_a_frame End = true
needs_a_frame Rethrow = true
needs_a_frame (Enter unit place) = false
needs_a_frame (Move place) = false
needs_a_frame Leave = false
needs_a_frame (Make class thrown) = false
needs_a_frame (Raise x) = false
needs_a_frame (Force x keep) = false
needs_a_frame (Delete x) = false
needs_a_frame Collect = false

abbrev pub RefusedWithoutFrames : Book → Call → Answer → Type 0
RefusedWithoutFrames b c a = b.frames ≡ [] → needs_a_frame c ≡ true → refused a ≡ true

-- accepted calls

-- the exception x is with its raiser, and does not unwind
abbrev pub WithRaiser : ℕ → Book → Type 0
WithRaiser x b = (has x b.raisers ≡ true) × (has x (serials b.running) ≡ false)

-- there is a newest catch, and P holds of it and of the others
abbrev pub Newest : (Caught → List Caught → Type 0) → List Caught → Type 0
Newest P [] = ⊥
Newest P (c ∷ cs) = P c cs

-- what an accepted call names is there in the book, and the answer is of the call's kind. What raise, resume, rethrow and force
-- answer is in the accounts, and what collect does is said above
abbrev pub Named : Book → Call → Answer → Type 0
Named b (Enter unit place) a = a ≡ Done
Named b (Move place) a = (b.frames ≢ []) × (a ≡ Done)
Named b Leave a = (b.frames ≢ []) × (a ≡ Done)
-- a make gives a new serial
Named b (Make class thrown) a = (x : ℕ) × (a ≡ Made x) × (has x (map (λ e. e.serial) b.made) ≡ false)
Named b (Raise x) a = WithRaiser x b
Named b (Resume x) a = has x (serials b.running) ≡ true
Named b Rethrow a = Newest (λ c _. has c.serial (serials b.running) ≡ false) b.catches
Named b (Force x keep) a = WithRaiser x b
Named b (Begin x) a = Newest (λ c _. c.serial ≡ x) b.catches × ((n : ℤ) × (a ≡ Begun n))
-- an end names the newest catch's exception, and says whether nobody else holds it
Named b End a = Newest (λ c cs. (n : ℤ) × (a ≡ Ended c.serial n (not (has c.serial (held_in (set_catches cs b)))))) b.catches
Named b (Delete x) a = WithRaiser x b × (a ≡ Done)
Named b Collect a = Unit {0}

abbrev pub Apt : Book → Call → Answer → Type 0
Apt b c a = (refused a ≡ true) ⊎ Named b c a

-- runs

-- P holds of each call and its answer, with the book as it was just before; there are as many answers as calls
abbrev pub Each : Verdicts → (Book → Call → Answer → Type 0) → Book → List Call → List Answer → Type 0
Each v P b [] [] = Unit {0}
Each v P b [] (a ∷ rest) = ⊥
Each v P b (c ∷ cs) [] = ⊥
Each v P b (c ∷ cs) (a ∷ rest) = P b c a × Each v P (note v c a b) cs rest

-- P holds of the book at each time: before each call, and after the last
abbrev pub Always : Verdicts → (Book → Type 0) → Book → List Call → List Answer → Type 0
Always v P b [] as' = P b
Always v P b (c ∷ cs) [] = P b
Always v P b (c ∷ cs) (a ∷ rest) = P b × Always v P (note v c a b) cs rest

-- the state has what the book has: so none of an exception's holders is forgotten, no unwinding is dropped, and no running
-- cleanup is passed over
pub record Same (s : State) (b : Book) : Type 0 where
  pub frames : map (λ f. f.frame) s.frames ≡ b.frames
  pub raisers : (x : ℕ) → has x (raisers s.held) ≡ has x b.raisers
  pub unwindings : unwinding s.frames ≡ serials b.running
  pub catches : map (λ c. record { serial = c.exception.serial; frame = c.frame }) s.catches ≡ b.catches
  pub waiting : s.waiting ≡ b.waiting

-- the book of a whole run
abbrev pub book : Verdicts → List Call → List Answer → Book
book v calls as' = written v calls as' blank

-- of a run: the calls, their answers, and the state after them. As it is promised of every list of calls, the state at the end
-- is the state at any time
pub record Promise (v : Verdicts) (calls : List Call) (as' : List Answer) (s : State) : Type 0 where
  -- landings: each ended unwinding's answers are its landing list; an open one's are the first of it; none ends but by its
  -- handler landing or stopped
  pub ended : All Whole (book v calls as').ended
  pub running : All Part (book v calls as').running
  -- no exception unwinds twice at once, so that it is clear whose answer an answer is
  pub once_each : Distinct (serials (book v calls as').running)
  -- holders: an uncollected exception waits in the state exactly when no raiser, unwinding or catch in the book holds it
  pub waits : (x : ℕ) → Uncollected x (book v calls as') → (has x s.waiting ≡ true) ↔ (has x (held_in (book v calls as')) ≡ false)
  -- each collect answers the one that has waited longest, and is refused exactly when none waits; none is collected twice
  pub collects : Each v Collects blank calls as'
  pub collected_once : Distinct (book v calls as').collected
  -- frames: whenever the book has no frame, nothing unwinds and nothing is caught, and resume, begin, end and rethrow are refused
  pub quiet : Always v QuietWithoutFrames blank calls as'
  pub refused_then : Each v RefusedWithoutFrames blank calls as'
  -- besides: the state agrees with the book, and nothing is accepted of what is not there
  pub same : Same s (book v calls as')
  pub apt : Each v Apt blank calls as'

-- every run keeps it: whatever the verdicts, the number at the start and the calls
abbrev pub PromiseKept : Type 0
PromiseKept = (v : Verdicts) (n : ℕ) (calls : List Call) → Promise v calls (answers v calls (start n)) (final v calls (start n))
