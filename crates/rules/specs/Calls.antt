-- The twelve calls: what each answers, and the whole state after it. Refusals are tested in the order of their numbers.
use Rattle.std.specs.Prelude.{ℕ, suc, ◌+◌, Bool, true, false, cond, not, ◌&&◌, ◌||◌, List, [], ◌∷◌, ◌++◌, map, length, ℤ, pos, neg_ℤ, None, Ok, Err, Result, ◌==◌, nat_lt}
use Rattle.calls.specs.declared.answer.Answer.{Answer}
use Rattle.calls.specs.declared.answer.Answer.TheVariants.{Done, Made, Begun, Ended, Collected}
use Rattle.calls.specs.declared.answer.Refusal.{Refusal}
use Rattle.calls.specs.declared.answer.Refusal.TheVariants.{FramesFull, NoFrame, CatchOpen, CleanupRuns, ExceptionsFull, SerialsUsedUp, NoSuchException, NotWithRaiser, NoBegunCatch, CatchBelowTop, AlreadyUnwinds, NotInnermost, NoUnbegunCatch, NothingWaits}
use Rattle.calls.specs.declared.call.Call.{Call}
use Rattle.calls.specs.declared.call.Call.TheVariants.{Enter, Move, Leave, Make, Raise, Resume, Rethrow, Force, Begin, End, Delete, Collect}
use Rattle.calls.specs.declared.exception.Catch.{Catch}
use Rattle.calls.specs.declared.exception.Exception.{Exception}
use Rattle.calls.specs.declared.frame.Goal.{Goal}
use Rattle.rules.specs.Lists.{given, first, has}
use Rattle.rules.specs.Search.{Verdicts, asks, handler_for, stop_for}
use Rattle.rules.specs.State.{State, Outcome, refuse, with_frames, with_held, with_catches, with_waiting, find, own, unwinding, holdings, release}
use Rattle.rules.specs.Walk.{at_place, gone, forced, walk, walk_from}

abbrev pub done : State → Outcome
done s = record { answer = Done; after = s }

-- a call goes on only where a test holds, or only where it does not
abbrev pub refuse_unless : Bool → Refusal → State → Outcome → Outcome
refuse_unless test r s further = cond test further (refuse r s)

abbrev pub refuse_if : Bool → Refusal → State → Outcome → Outcome
refuse_if test r s further = cond test (refuse r s) further

-- frames

-- a frame more on top
abbrev pub enter : ℕ → ℕ → State → Outcome
enter unit place s =
    refuse_unless (nat_lt (length s.frames) 64) FramesFull s
    (done (with_frames (record { frame = record { unit = unit; place = place }; cleanup = None } ∷ s.frames) s))

-- the top frame is at another place
abbrev pub move : ℕ → State → Outcome
move place s = first s.frames (refuse NoFrame s) (λ f fs. done (with_frames (at_place place (f ∷ fs)) s))

-- the top frame goes, in which no catch may be open and no cleanup may run
abbrev pub leave : State → Outcome
leave s =
    first s.frames (refuse NoFrame s)
    (λ f fs. refuse_if (has (length fs) (map (λ c. c.frame) s.catches)) CatchOpen s
    (given f.cleanup (done (with_frames fs s)) (λ _. refuse CleanupRuns s)))

-- exceptions

-- a new exception, with its raiser. Serials are not used again; they end at 4294967295
abbrev pub make : ℕ → ℕ → State → Outcome
make class thrown s =
    refuse_unless (nat_lt (length s.held + length s.waiting) 16) ExceptionsFull s
    (refuse_unless (nat_lt s.last 4294967295) SerialsUsedUp s
    (record {
      answer = Made (suc s.last);
      after = record {
        frames = s.frames;
        held = s.held ++ (record { exception = record { serial = suc s.last; class = class; thrown = thrown }; owned = true } ∷ []);
        catches = s.catches;
        waiting = s.waiting;
        last = suc s.last;
      };
    }))

-- what is done with the exception x, which must be with its raiser; one that waits is with nobody
abbrev pub with_raiser : ℕ → State → (Exception → Outcome) → Outcome
with_raiser x s act =
    given (find x s.held)
    (cond (has x s.waiting) (refuse NotWithRaiser s) (refuse NoSuchException s))
    (λ h. refuse_unless h.owned NotWithRaiser s (act h.exception))

-- the exception x is not with its raiser any more
abbrev pub disown : ℕ → State → State
disown x s = with_held (own false x s.held) s

-- the raiser gives the exception up
abbrev pub delete : ℕ → State → Outcome
delete x s = with_raiser x s (λ e. done (release e.serial (holdings (disown e.serial s)) (disown e.serial s)))

-- the exception that has waited longest is handed out
abbrev pub collect : State → Outcome
collect s = first s.waiting (refuse NothingWaits s) (λ x rest. record { answer = Collected x; after = with_waiting rest s })

-- unwindings

-- the first phase found where e goes to, or was refused; as the second begins e is with its raiser no more
abbrev pub set_off : Verdicts → Exception → Result Goal Refusal → State → Outcome
set_off v e (Ok g) s = walk_from v (record { exception = e; goal = g }) (disown e.serial s)
set_off v e (Err r) s = refuse r s

-- e goes to the handler that the search finds
abbrev pub raise : Verdicts → ℕ → State → Outcome
raise v x s = with_raiser x s (λ e. set_off v e (handler_for v e s) s)

-- e goes down to the lowest `keep` frames
abbrev pub force : Verdicts → ℕ → ℕ → State → Outcome
force v x keep s = with_raiser x s (λ e. set_off v e (stop_for v e keep s) s)

-- a raise of the newest catch's exception; the catch stays open
abbrev pub rethrow : Verdicts → State → Outcome
rethrow v s =
    first s.catches (refuse NoBegunCatch s)
    (λ c _. refuse_unless c.begun NoBegunCatch s
    (refuse_if (has c.exception.serial (unwinding s.frames)) AlreadyUnwinds s
    (set_off v c.exception (handler_for v c.exception s) s)))

-- the top frame, in which a cleanup of the unwinding of x must run, goes with its catches, and the walk goes on beneath it; the
-- frame is not asked again
abbrev pub resume : Verdicts → ℕ → State → Outcome
resume v x s =
    first s.frames (refuse NotInnermost s)
    (λ f fs. given f.cleanup (refuse NotInnermost s)
    (λ u. refuse_unless (x == u.exception.serial) NotInnermost s
    (walk (asks v u.exception (forced u.goal)) u fs (gone u.exception.serial fs s))))

-- catches

-- how many begun catches an exception has
unfoldable pub begun_catches : ℕ → List Catch → ℕ
begun_catches x [] = 0
begun_catches x (c ∷ cs) = cond (x == c.exception.serial && c.begun) (suc (begun_catches x cs)) (begun_catches x cs)

-- whether it has one that is not begun
unfoldable pub has_unbegun : ℕ → List Catch → Bool
has_unbegun x [] = false
has_unbegun x (c ∷ cs) = (x == c.exception.serial && not c.begun) || has_unbegun x cs

-- the handler count: how many begun catches, negative while the exception unwinds or has a catch that is not begun
abbrev pub handler_count : ℕ → State → ℤ
handler_count x s =
    cond (has x (unwinding s.frames) || has_unbegun x s.catches) (neg_ℤ (pos (begun_catches x s.catches))) (pos (begun_catches x s.catches))

-- the newest catch, an unbegun one of x, is begun
abbrev pub begin : ℕ → State → Outcome
begin x s =
    first s.catches (refuse NoUnbegunCatch s)
    (λ c cs. refuse_unless (x == c.exception.serial && not c.begun) NoUnbegunCatch s
    (let t : State = with_catches (record { exception = c.exception; frame = c.frame; begun = true } ∷ cs) s in
    record { answer = Begun (handler_count x t); after = t }))

-- the newest catch, a begun one of the top frame, closes
abbrev pub end : State → Outcome
end s =
    first s.catches (refuse NoBegunCatch s)
    (λ c cs. refuse_unless c.begun NoBegunCatch s
    (refuse_unless (suc c.frame == length s.frames) CatchBelowTop s
    (let t : State = with_catches cs s in
    record {
      answer = Ended c.exception.serial (handler_count c.exception.serial t) (not (has c.exception.serial (holdings t)));
      after = release c.exception.serial (holdings t) t;
    })))

-- one call
unfoldable pub step : Verdicts → Call → State → Outcome
step v (Enter unit place) s = enter unit place s
step v (Move place) s = move place s
step v Leave s = leave s
step v (Make class thrown) s = make class thrown s
step v (Raise x) s = raise v x s
step v (Resume x) s = resume v x s
step v Rethrow s = rethrow v s
step v (Force x keep) s = force v x keep s
step v (Begin x) s = begin x s
step v End s = end s
step v (Delete x) s = delete x s
step v Collect s = collect s

-- a list of calls, one after another: their answers, and the state after the last
unfoldable pub answers : Verdicts → List Call → State → List Answer
answers v [] s = []
answers v (c ∷ cs) s = (step v c s).answer ∷ answers v cs (step v c s).after

unfoldable pub final : Verdicts → List Call → State → State
final v [] s = s
final v (c ∷ cs) s = final v cs (step v c s).after
