-- The landing list of an unwinding: what it has to answer, by the verdicts on the frames just before it began.
use Rattle.std.specs.Prelude.{◌≡◌, ℕ, ◌<◌, ◌≤◌, Bool, true, false, cond, ◌⊎◌, ◌↔◌, List, [], ◌∷◌, ◌++◌, length, take, ℤ, nat_le}
use Rattle.personality.specs.declared.verdict.Verdict.{Verdict}
use Rattle.personality.specs.declared.verdict.Verdict.TheVariants.{Nothing, Cleanup, Handler, Terminate, Broken}
use Rattle.calls.specs.declared.answer.Answer.{Answer}
use Rattle.calls.specs.declared.answer.Answer.TheVariants.{Done, Made, Landed, Stopped, Begun, Ended, Collected, Refused}
use Rattle.calls.specs.declared.answer.Kind.TheVariants as kind
use Rattle.calls.specs.declared.frame.Frame.{Frame}
use Rattle.rules.specs.Lists.{In, All}

-- a frame's number, and the verdict on it
pub record Asked : Type 0 where
  pub number : ℕ
  pub verdict : Verdict

-- all frames, from the top down
unfoldable pub asked : (Frame → Verdict) → List Frame → List Asked
asked ask [] = []
asked ask (f ∷ fs) = record { number = length fs; verdict = ask f } ∷ asked ask fs

-- the landing of the exception x where the verdict is Cleanup; none elsewhere
abbrev pub cleanup_at : ℕ → ℕ → Verdict → List Answer
cleanup_at x n Nothing = []
cleanup_at x n (Cleanup pad) = Landed (record { serial = x; frame = n; pad = pad; kind = kind.Cleanup }) ∷ []
cleanup_at x n (Handler pad selector) = []
cleanup_at x n Terminate = []
cleanup_at x n (Broken fault) = []

-- the same of Handler
abbrev pub handler_at : ℕ → ℕ → Verdict → List Answer
handler_at x n Nothing = []
handler_at x n (Cleanup pad) = []
handler_at x n (Handler pad selector) = Landed (record { serial = x; frame = n; pad = pad; kind = kind.Handler selector }) ∷ []
handler_at x n Terminate = []
handler_at x n (Broken fault) = []

abbrev pub is_handler : Verdict → Bool
is_handler Nothing = false
is_handler (Cleanup pad) = false
is_handler (Handler pad selector) = true
is_handler Terminate = false
is_handler (Broken fault) = false

-- each Cleanup
unfoldable pub cleanups : ℕ → List Asked → List Answer
cleanups x [] = []
cleanups x (a ∷ rest) = cleanup_at x a.number a.verdict ++ cleanups x rest

-- each Handler
unfoldable pub handlers : ℕ → List Asked → List Answer
handlers x [] = []
handlers x (a ∷ rest) = handler_at x a.number a.verdict ++ handlers x rest

-- what stands above the first Handler
unfoldable pub above_handler : List Asked → List Asked
above_handler [] = []
above_handler (a ∷ rest) = cond (is_handler a.verdict) [] (a ∷ above_handler rest)

-- what stands above the k lowest frames
unfoldable pub above_kept : ℕ → List Asked → List Asked
above_kept k [] = []
above_kept k (a ∷ rest) = cond (nat_le k a.number) (a ∷ above_kept k rest) (above_kept k rest)

-- of a raise or rethrow: each Cleanup above the first Handler, then that Handler
abbrev pub raise_list : (Frame → Verdict) → ℕ → List Frame → List Answer
raise_list ask x fs = cleanups x (above_handler (asked ask fs)) ++ take 1 (handlers x (asked ask fs))

-- of a force: each Cleanup above the kept frames, then stopped
abbrev pub force_list : (Frame → Verdict) → ℕ → ℕ → List Frame → List Answer
force_list ask x keep fs = cleanups x (above_kept keep (asked ask fs)) ++ (Stopped x ∷ [])

-- what the lists contain, said without them

-- f is the frame numbered n
abbrev pub FrameAt : ℕ → Frame → List Frame → Type 0
FrameAt n f [] = ⊥
FrameAt n f (g ∷ fs) = ((n ≡ length fs) × (f ≡ g)) ⊎ FrameAt n f fs

-- no frame above the one numbered n has a Handler
abbrev pub NoHandlerAbove : (Frame → Verdict) → ℕ → List Frame → Type 0
NoHandlerAbove ask n fs = (m : ℕ) (g : Frame) → FrameAt m g fs → n < m → is_handler (ask g) ≡ false

-- a is the landing at a Cleanup
pub record Cleans (ask : Frame → Verdict) (x : ℕ) (fs : List Frame) (a : Answer) : Type 0 where
  pub n : ℕ
  pub frame : Frame
  pub pad : ℕ
  pub there : FrameAt n frame fs
  pub verdict : ask frame ≡ Cleanup pad
  pub is : a ≡ Landed (record { serial = x; frame = n; pad = pad; kind = kind.Cleanup })

-- a is the landing at a Handler
pub record Handles (ask : Frame → Verdict) (x : ℕ) (fs : List Frame) (a : Answer) : Type 0 where
  pub n : ℕ
  pub frame : Frame
  pub pad : ℕ
  pub selector : ℤ
  pub there : FrameAt n frame fs
  pub verdict : ask frame ≡ Handler pad selector
  pub is : a ≡ Landed (record { serial = x; frame = n; pad = pad; kind = kind.Handler selector })

-- each Cleanup above the first Handler, and that Handler
abbrev pub OfRaise : (Frame → Verdict) → ℕ → List Frame → Answer → Type 0
OfRaise ask x fs a =
    ((c : Cleans ask x fs a) × NoHandlerAbove ask c.n fs) ⊎ ((h : Handles ask x fs a) × NoHandlerAbove ask h.n fs)

-- each Cleanup above the kept frames, and stopped
abbrev pub OfForce : (Frame → Verdict) → ℕ → ℕ → List Frame → Answer → Type 0
OfForce ask x keep fs a = ((c : Cleans ask x fs a) × (keep ≤ c.n)) ⊎ (a ≡ Stopped x)

-- from the top down: a landing is in a higher frame than those after it, and nothing comes after stopped
abbrev pub Before : Answer → Answer → Type 0
Before (Landed l) (Landed m) = m.frame < l.frame
Before (Landed l) (Stopped x) = Unit {0}
Before (Landed l) Done = ⊥
Before (Landed l) (Made x) = ⊥
Before (Landed l) (Begun n) = ⊥
Before (Landed l) (Ended x n w) = ⊥
Before (Landed l) (Collected x) = ⊥
Before (Landed l) (Refused r) = ⊥
Before (Stopped x) b = ⊥
Before Done b = ⊥
Before (Made x) b = ⊥
Before (Begun n) b = ⊥
Before (Ended x n w) b = ⊥
Before (Collected x) b = ⊥
Before (Refused r) b = ⊥

abbrev pub Downward : List Answer → Type 0
Downward [] = Unit {0}
Downward (a ∷ rest) = All (Before a) rest × Downward rest

-- the landing lists have just these entries, from the top down
pub record ListsRight (ask : Frame → Verdict) (x : ℕ) (fs : List Frame) : Type 0 where
  pub raise : (a : Answer) → In a (raise_list ask x fs) ↔ OfRaise ask x fs a
  pub raise_down : Downward (raise_list ask x fs)
  pub force : (keep : ℕ) (a : Answer) → In a (force_list ask x keep fs) ↔ OfForce ask x keep fs a
  pub force_down : (keep : ℕ) → Downward (force_list ask x keep fs)

abbrev pub LandingLists : Type 0
LandingLists = (ask : Frame → Verdict) (x : ℕ) (fs : List Frame) → ListsRight ask x fs
