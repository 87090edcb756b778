-- The book: what is read off the calls, their answers and the verdicts, with no look at the state.
-- Its text is its own: it shares with the calls' rules only the question that a frame is asked, and small functions on lists.
use Rattle.std.specs.Prelude.{ℕ, suc, Bool, true, false, cond, ◌||◌, List, [], ◌∷◌, ◌++◌, map, length, Some, None, Option, ◌==◌, nat_lt}
use Rattle.calls.specs.declared.answer.Answer.{Answer}
use Rattle.calls.specs.declared.answer.Answer.TheVariants.{Done, Made, Landed, Stopped, Begun, Ended, Collected, Refused}
use Rattle.calls.specs.declared.answer.Kind.{Kind}
use Rattle.calls.specs.declared.answer.Kind.TheVariants as kind
use Rattle.calls.specs.declared.answer.Landing.{Landing}
use Rattle.calls.specs.declared.call.Call.{Call}
use Rattle.calls.specs.declared.call.Call.TheVariants.{Enter, Move, Leave, Make, Raise, Resume, Rethrow, Force, Begin, End, Delete, Collect}
use Rattle.calls.specs.declared.exception.Exception.{Exception}
use Rattle.calls.specs.declared.frame.Frame.{Frame}
use Rattle.rules.specs.Landings.{raise_list, force_list}
use Rattle.rules.specs.Lists.{given, first, has}
use Rattle.rules.specs.Search.{Verdicts, asks}

-- a catch: from the handler landing until end closes it or its frame goes
pub record Caught : Type 0 where
  pub serial : ℕ
  pub frame : ℕ

-- an unwinding: how many frames it keeps if it is forced (else 0, which says nothing), its landing list, and the answers to its
-- call and to the accepted resumes of its serial
pub record Account : Type 0 where
  pub serial : ℕ
  pub keep : ℕ
  pub list : List Answer
  pub answers : List Answer

pub record Book : Type 0 where
  -- the top one first
  pub frames : List Frame
  -- all exceptions made so far
  pub made : List Exception
  -- the serials of those that their raisers hold: from make, or from stopped, to an accepted raise, force or delete
  pub raisers : List ℕ
  -- the unwindings that have not ended, the newest first
  pub running : List Account
  -- those that have: by their handler landing, or stopped
  pub ended : List Account
  -- the newest first
  pub catches : List Caught
  -- the exceptions that nobody holds and nobody has collected, in the order in which they lost their last holder
  pub waiting : List ℕ
  -- the newest first
  pub collected : List ℕ

-- before the first call
abbrev pub blank : Book
blank = record { frames = []; made = []; raisers = []; running = []; ended = []; catches = []; waiting = []; collected = [] }

-- the same book with other frames, raisers, running unwindings, catches or waiting line

abbrev pub set_frames : List Frame → Book → Book
set_frames fs b =
    record { frames = fs; made = b.made; raisers = b.raisers; running = b.running; ended = b.ended; catches = b.catches; waiting = b.waiting; collected = b.collected }

abbrev pub set_raisers : List ℕ → Book → Book
set_raisers xs b =
    record { frames = b.frames; made = b.made; raisers = xs; running = b.running; ended = b.ended; catches = b.catches; waiting = b.waiting; collected = b.collected }

abbrev pub set_running : List Account → Book → Book
set_running us b =
    record { frames = b.frames; made = b.made; raisers = b.raisers; running = us; ended = b.ended; catches = b.catches; waiting = b.waiting; collected = b.collected }

abbrev pub set_catches : List Caught → Book → Book
set_catches cs b =
    record { frames = b.frames; made = b.made; raisers = b.raisers; running = b.running; ended = b.ended; catches = cs; waiting = b.waiting; collected = b.collected }

abbrev pub set_waiting : List ℕ → Book → Book
set_waiting xs b =
    record { frames = b.frames; made = b.made; raisers = b.raisers; running = b.running; ended = b.ended; catches = b.catches; waiting = xs; collected = b.collected }

-- holders

abbrev pub serials : List Account → List ℕ
serials = map (λ u. u.serial)

abbrev pub catchers : List Caught → List ℕ
catchers = map (λ c. c.serial)

-- the exceptions that a raiser, an unwinding or a catch holds
abbrev pub held_in : Book → List ℕ
held_in b = (b.raisers ++ serials b.running) ++ catchers b.catches

-- of exceptions that lose a holder one after another: those that lose their last, in that order. One that stands there more
-- than once counts at its last place, and one that is still held at the end does not count
unfoldable pub lost : List ℕ → List ℕ → List ℕ
lost held [] = []
lost held (x ∷ xs) = cond (has x xs || has x held) (lost held xs) (x ∷ lost held xs)

-- in the book b these have just lost a holder, one after another: who has none now waits
abbrev pub settled : List ℕ → Book → Book
settled xs b = set_waiting (b.waiting ++ lost (held_in b) xs) b

-- a list without x
unfoldable pub drop_all : ℕ → List ℕ → List ℕ
drop_all x [] = []
drop_all x (y ∷ ys) = cond (x == y) (drop_all x ys) (y ∷ drop_all x ys)

-- the raiser holds x no more, or from now on
abbrev pub given_up : ℕ → Book → Book
given_up x b = set_raisers (drop_all x b.raisers) b

abbrev pub given_back : ℕ → Book → Book
given_back x b = set_raisers (x ∷ b.raisers) b

-- frames and their catches

-- the top frame is now at a place
abbrev pub placed : ℕ → List Frame → List Frame
placed p [] = []
placed p (f ∷ fs) = record { unit = f.unit; place = p } ∷ fs

-- the n lowest frames
unfoldable pub lowest : ℕ → List Frame → List Frame
lowest n [] = []
lowest n (f ∷ fs) = cond (nat_lt (length fs) n) (f ∷ fs) (lowest n fs)

-- the catches of the n lowest frames, and those of the others
unfoldable pub below : ℕ → List Caught → List Caught
below n [] = []
below n (c ∷ cs) = cond (nat_lt c.frame n) (c ∷ below n cs) (below n cs)

unfoldable pub above : ℕ → List Caught → List Caught
above n [] = []
above n (c ∷ cs) = cond (nat_lt c.frame n) (above n cs) (c ∷ above n cs)

-- the frames but the n lowest go, and with them their catches
abbrev pub cut_to : ℕ → Book → Book
cut_to n b = set_catches (below n b.catches) (set_frames (lowest n b.frames) b)

-- the exceptions of the catches that close then, the newest first
abbrev pub uncaught : ℕ → Book → List ℕ
uncaught n b = catchers (above n b.catches)

-- unwindings

-- the exception with a serial
unfoldable pub known : ℕ → List Exception → Option Exception
known x [] = None
known x (e ∷ es) = cond (x == e.serial) (Some e) (known x es)

-- the newest unwinding of x, of those that are running, is answered a
unfoldable pub add_answer : ℕ → Answer → List Account → List Account
add_answer x a [] = []
add_answer x a (u ∷ us) =
    cond (x == u.serial) (record { serial = u.serial; keep = u.keep; list = u.list; answers = u.answers ++ (a ∷ []) } ∷ us) (u ∷ add_answer x a us)

-- that unwinding, the others, and how many frames it keeps

unfoldable pub account_of : ℕ → List Account → List Account
account_of x [] = []
account_of x (u ∷ us) = cond (x == u.serial) (u ∷ []) (account_of x us)

unfoldable pub other_accounts : ℕ → List Account → List Account
other_accounts x [] = []
other_accounts x (u ∷ us) = cond (x == u.serial) us (u ∷ other_accounts x us)

unfoldable pub keep_of : ℕ → List Account → ℕ
keep_of x [] = 0
keep_of x (u ∷ us) = cond (x == u.serial) u.keep (keep_of x us)

-- the unwinding of x has ended
abbrev pub finished : ℕ → Book → Book
finished x b =
    record {
      frames = b.frames;
      made = b.made;
      raisers = b.raisers;
      running = other_accounts x b.running;
      ended = account_of x b.running ++ b.ended;
      catches = b.catches;
      waiting = b.waiting;
      collected = b.collected;
    }

-- the frames above a landing's go, and its frame is at the pad
abbrev pub landed : Landing → Book → Book
landed l b = let c : Book = cut_to (suc l.frame) b in set_frames (placed l.pad c.frames) c

-- a catch opens for x, in the frame numbered n
abbrev pub caught_in : ℕ → ℕ → Book → Book
caught_in x n b = set_catches (record { serial = x; frame = n } ∷ b.catches) b

-- a landing of the unwinding of x: at a cleanup it goes on to hold x; at its handler it ends, and a catch holds x
abbrev pub at_landing : ℕ → Landing → Kind → Book → Book
at_landing x l kind.Cleanup b = settled (uncaught (suc l.frame) b) (landed l b)
at_landing x l (kind.Handler selector) b = settled (uncaught (suc l.frame) b) (caught_in x l.frame (finished x (landed l b)))

-- stopped: the unwinding of x ends with the kept frames left, and the raiser holds x
abbrev pub at_stop : ℕ → Book → Book
at_stop x b = let k : ℕ = keep_of x b.running in settled (uncaught k b) (given_back x (finished x (cut_to k b)))

-- what becomes of frames, holders and catches by an answer to the unwinding of x
abbrev pub come_to : ℕ → Answer → Book → Book
come_to x (Landed l) b = at_landing x l l.kind b
come_to x (Stopped y) b = at_stop x b
come_to x Done b = b
come_to x (Made y) b = b
come_to x (Begun n) b = b
come_to x (Ended y n w) b = b
come_to x (Collected y) b = b
come_to x (Refused r) b = b

-- the unwinding of x is answered a
abbrev pub answered : ℕ → Answer → Book → Book
answered x a b = come_to x a (set_running (add_answer x a b.running) b)

-- an unwinding of x begins, with its landing list and no answer yet; it takes x over from the raiser
abbrev pub opened : ℕ → ℕ → List Answer → Book → Book
opened x keep list b = set_running (record { serial = x; keep = keep; list = list; answers = [] } ∷ b.running) (given_up x b)

-- a raise or rethrow of x was answered a
abbrev pub raised : Verdicts → ℕ → Answer → Book → Book
raised v x a b = given (known x b.made) b (λ e. answered x a (opened x 0 (raise_list (asks v e false) x b.frames) b))

-- a force of x that keeps so many frames was answered a
abbrev pub forced_away : Verdicts → ℕ → ℕ → Answer → Book → Book
forced_away v x keep a b = given (known x b.made) b (λ e. answered x a (opened x keep (force_list (asks v e true) x keep b.frames) b))

-- events

-- a make was answered, or a collect

abbrev pub making : ℕ → ℕ → Answer → Book → Book
making class thrown (Made x) b =
    record {
      frames = b.frames;
      made = record { serial = x; class = class; thrown = thrown } ∷ b.made;
      raisers = x ∷ b.raisers;
      running = b.running;
      ended = b.ended;
      catches = b.catches;
      waiting = b.waiting;
      collected = b.collected;
    }
making class thrown Done b = b
making class thrown (Landed l) b = b
making class thrown (Stopped y) b = b
making class thrown (Begun n) b = b
making class thrown (Ended y n w) b = b
making class thrown (Collected y) b = b
making class thrown (Refused r) b = b

abbrev pub collecting : Answer → Book → Book
collecting (Collected x) b =
    record {
      frames = b.frames;
      made = b.made;
      raisers = b.raisers;
      running = b.running;
      ended = b.ended;
      catches = b.catches;
      waiting = drop_all x b.waiting;
      collected = x ∷ b.collected;
    }
collecting Done b = b
collecting (Made y) b = b
collecting (Landed l) b = b
collecting (Stopped y) b = b
collecting (Begun n) b = b
collecting (Ended y n w) b = b
collecting (Refused r) b = b

-- an accepted call and its answer
abbrev pub entry : Verdicts → Call → Answer → Book → Book
entry v (Enter unit place) a b = set_frames (record { unit = unit; place = place } ∷ b.frames) b
entry v (Move place) a b = set_frames (placed place b.frames) b
entry v Leave a b = first b.frames b (λ f fs. set_frames fs b)
entry v (Make class thrown) a b = making class thrown a b
entry v (Raise x) a b = raised v x a b
entry v (Resume x) a b = answered x a b
entry v Rethrow a b = first b.catches b (λ c cs. raised v c.serial a b)
entry v (Force x keep) a b = forced_away v x keep a b
entry v (Begin x) a b = b
entry v End a b = first b.catches b (λ c cs. settled (c.serial ∷ []) (set_catches cs b))
entry v (Delete x) a b = settled (x ∷ []) (given_up x b)
entry v Collect a b = collecting a b

abbrev pub refused : Answer → Bool
refused (Refused r) = true
refused Done = false
refused (Made y) = false
refused (Landed l) = false
refused (Stopped y) = false
refused (Begun n) = false
refused (Ended y n w) = false
refused (Collected y) = false

-- one call and its answer; a refused call adds nothing
unfoldable pub note : Verdicts → Call → Answer → Book → Book
note v c a b = cond (refused a) b (entry v c a b)

-- a list of calls with their answers
unfoldable pub written : Verdicts → List Call → List Answer → Book → Book
written v [] as' b = b
written v (c ∷ cs) [] b = b
written v (c ∷ cs) (a ∷ as') b = written v cs as' (note v c a b)
