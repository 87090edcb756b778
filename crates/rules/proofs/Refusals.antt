-- A call is refused exactly where it has a cause, with the smallest number of its causes.
use Rattle.std.proofs.Common.{◌≡◌, ℕ, suc, ◌+◌, ◌≤◌, Bool, true, false, cond, not, ◌&&◌, eqb, ltb, leb, ◌⊎◌, List, [], ◌∷◌, ◌++◌, map, length, Some, None, Ok, Err, Option, Result, sym, refl, ap, ◌∙◌, subst, inl, inr, arith, length-append}
use Rattle.std.proofs.lemmas.Bool.{cond_both, eqb-true, eqb-false, eq-eqb, ne_eqb, ltb-true, ltb-false, le-ltb, leb-true, leb-false, false≢true, and_parts, and_cases, and_from, or_cases, both_ways, not-true}
use Rattle.personality.specs.declared.fault.Fault.{Fault}
use Rattle.personality.specs.declared.verdict.Verdict.{Verdict}
use Rattle.personality.specs.declared.verdict.Verdict.TheVariants.{Nothing, Cleanup, Handler, Terminate, Broken}
use Rattle.calls.specs.Numbers.{refusal_number}
use Rattle.calls.specs.declared.answer.Answer.{Answer}
use Rattle.calls.specs.declared.answer.Answer.TheVariants.{Refused}
use Rattle.calls.specs.declared.answer.Refusal.{Refusal}
use Rattle.calls.specs.declared.answer.Refusal.TheVariants.{FramesFull, NoFrame, CatchOpen, CleanupRuns, ExceptionsFull, SerialsUsedUp, NoSuchException, NotWithRaiser, NoBegunCatch, CatchBelowTop, AlreadyUnwinds, CatchesFull, KeepOutOfRange, BrokenTable, PassedFence, NoHandler, NotInnermost, NoUnbegunCatch, NothingWaits}
use Rattle.calls.specs.declared.call.Call.{Call}
use Rattle.calls.specs.declared.call.Call.TheVariants.{Enter, Move, Leave, Make, Raise, Resume, Rethrow, Force, Begin, End, Delete, Collect}
use Rattle.calls.specs.declared.exception.Catch.{Catch}
use Rattle.calls.specs.declared.exception.Exception.{Exception}
use Rattle.calls.specs.declared.exception.HeldException.{HeldException}
use Rattle.calls.specs.declared.frame.Activation.{Activation}
use Rattle.calls.specs.declared.frame.Frame.{Frame}
use Rattle.calls.specs.declared.frame.Goal.{Goal}
use Rattle.calls.specs.declared.frame.Goal.TheVariants as goal
use Rattle.calls.specs.declared.frame.Unwinding.{Unwinding}
use Rattle.rules.specs.Book.{refused}
use Rattle.rules.specs.Calls.{step, move, leave, make, with_raiser, delete, collect, set_off, raise, force, rethrow, resume, begin, end}
use Rattle.rules.specs.Lists.{given, has, In, All}
use Rattle.rules.specs.Refusals.{Stands, Top, NoCleanup, Innermost, IsNotInnermost, Uncollected, RecordOf, WithRaiser, Newest, NoBegun, LetsPass, Passes, Meets, SearchCause, CannotKeep, NotBroken, MeetsBroken, RaiserCause, Cause, RefusalsRight, RefusalsListed}
use Rattle.rules.specs.Search.{Verdicts, asks, judged, search_down, handler_for, fence, spares_fence, unless_broken, ask_down_to, stop_for}
use Rattle.rules.specs.State.{State, Outcome, find, unwinding}
use Rattle.rules.proofs.Inv.{mk}
use Rattle.rules.proofs.Laws.{walks, unwinds_has, has_unwinds}
use Rattle.rules.proofs.Lists.{given_both, has_here, has_later}

-- answers against causes

-- what the law says of an answer, where C are the causes
record Right (C : Refusal → Type 0) (a : Answer) : Type 0 where
  caused : (r : Refusal) → a ≡ Refused r → C r
  least : (r q : Refusal) → a ≡ Refused r → C q → refusal_number r ≤ refusal_number q
  met : (r : Refusal) → C r → refused a ≡ true

-- no cause, no refusal
accept : (C : Refusal → Type 0) (a : Answer) → refused a ≡ false → ((r : Refusal) → C r → ⊥) → Right C a
accept C a e k =
    record {
      caused = λ r f. absurd (false≢true (sym e ∙ ap refused f));
      least = λ r q f c. absurd (k q c);
      met = λ r c. absurd (k r c);
    }

-- refused for the smallest cause
refusal : (C : Refusal → Type 0) (n : Refusal) → C n → ((q : Refusal) → C q → refusal_number n ≤ refusal_number q) → Right C (Refused n)
refusal C n c le =
    record {
      caused = λ r e. let p : n ≡ r = cc in subst C p c;
      least = λ r q e d. let p : n ≡ r = cc in subst (λ r. refusal_number r ≤ refusal_number q) p (le q d);
      met = λ r d. refl;
    }

-- a cause by its number
numbered : (n m q : Refusal) → refusal_number n ≤ refusal_number m → q ≡ m → refusal_number n ≤ refusal_number q
numbered n m q le e = rw e le

-- the same causes, put in another way
right_as : (C D : Refusal → Type 0) (a : Answer) → ((r : Refusal) → C r → D r) → ((r : Refusal) → D r → C r) → Right C a → Right D a
right_as C D a to from k =
    record {
      caused = λ r e. to r (k.caused r e);
      least = λ r q e d. k.least r q e (from q d);
      met = λ r d. k.met r (from r d);
    }

right_of : (v : Verdicts) (c : Call) (s : State) → Right (Cause v s c) (step v c s).answer → RefusalsRight v c s
right_of v c s k = record { cause = k.caused; smallest = k.least; listed = k.met }

-- membership as the rules test it, and as causes say it

has_in : (x : ℕ) (q : List ℕ) → has x q ≡ true → In x q
unfolding has
has_in x [] t = absurd (false≢true t)
has_in x (y ∷ q) t = elim (or_cases (eqb x y) (has x q) t) [ inl e ↦ inl (eqb-true x y e) | inr e ↦ inr (has_in x q e) ]

in_has : (x : ℕ) (q : List ℕ) → In x q → has x q ≡ true
in_has x [] i = absurd i
in_has x (y ∷ q) (inl p) = rw (← p) (has_here x q)
in_has x (y ∷ q) (inr i) = has_later x y q (in_has x q i)

has_catch : (n : ℕ) (cs : List Catch) → has n (map (λ c. c.frame) cs) ≡ true → (c : Catch) × In c cs × (c.frame ≡ n)
unfolding has
has_catch n [] t = absurd (false≢true t)
has_catch n (c ∷ cs) t =
    elim (or_cases (eqb n c.frame) (has n (map (λ c. c.frame) cs)) t)
    [ inl e ↦ (c, inl refl, sym (eqb-true n c.frame e)) | inr e ↦ let p = has_catch n cs e in (p.0, inr p.1, p.2) ]

catch_has : (n : ℕ) (c : Catch) (cs : List Catch) → In c cs → c.frame ≡ n → has n (map (λ c. c.frame) cs) ≡ true
catch_has n c [] i e = absurd i
catch_has n c (d ∷ cs) (inl p) e = rw (← p, e) (has_here n (map (λ c. c.frame) cs))
catch_has n c (d ∷ cs) (inr i) e = has_later n d.frame (map (λ c. c.frame) cs) (catch_has n c cs i e)

-- the record of an exception

find_record : (x : ℕ) (hs : List HeldException) (h : HeldException) → find x hs ≡ Some h → RecordOf x h hs
unfolding find
find_record x [] h e = cc
find_record x (g ∷ hs) h e = go (eqb x g.exception.serial) refl (find_record x hs h) e
  where
    go : (b : Bool) → eqb x g.exception.serial ≡ b → (find x hs ≡ Some h → RecordOf x h hs) → cond b (Some g) (find x hs) ≡ Some h → RecordOf x h (g ∷ hs)
    go true eb ih e = inl (sym (eqb-true _ _ eb), cc)
    go false eb ih e = inr ((λ p. eqb-false _ _ eb (sym p)), ih e)

record_find : (x : ℕ) (hs : List HeldException) (h : HeldException) → RecordOf x h hs → find x hs ≡ Some h
unfolding find
record_find x [] h r = absurd r
record_find x (g ∷ hs) h (inl p) = rw (eq-eqb x g.exception.serial (sym p.0)) (ap Some (sym p.1))
record_find x (g ∷ hs) h (inr p) = rw (ne_eqb x g.exception.serial (λ q. p.0 (sym q))) (record_find x hs h p.1)

find_none : (x : ℕ) (hs : List HeldException) (h : HeldException) → find x hs ≡ None → In h hs → h.exception.serial ≡ x → ⊥
unfolding find
find_none x [] h e i es = i
find_none x (g ∷ hs) h e i es = go (eqb x g.exception.serial) refl (find_none x hs h) e i
  where
    go : (b : Bool) → eqb x g.exception.serial ≡ b → (find x hs ≡ None → In h hs → h.exception.serial ≡ x → ⊥) → cond b (Some g) (find x hs) ≡ None → In h (g ∷ hs) → ⊥
    go true eb ih e i = cc
    go false eb ih e (inl p) = eqb-false _ _ eb (sym es ∙ ap (λ (h : HeldException). h.exception.serial) p)
    go false eb ih e (inr i) = ih e i es

record_in : (x : ℕ) (hs : List HeldException) (h : HeldException) → RecordOf x h hs → In h hs × (h.exception.serial ≡ x)
record_in x [] h r = absurd r
record_in x (g ∷ hs) h (inl p) = (inl p.1, ap (λ (h : HeldException). h.exception.serial) p.1 ∙ p.0)
record_in x (g ∷ hs) h (inr p) = let q = record_in x hs h p.1 in (inr q.0, q.1)

-- frames

stands_below : (g : Activation) (fs above : List Activation) (f : Activation) (n : ℕ) → Stands fs above f n → Stands (g ∷ fs) (g ∷ above) f n
stands_below g fs above f n p = (p.0, ap (λ r. g ∷ r) p.1, p.2)

-- the search

-- what a first phase comes to, against causes
abbrev Settled : (Refusal → Type 0) → Result Goal Refusal → Type 0
Settled C (Ok g) = (r : Refusal) → C r → ⊥
Settled C (Err n) = C n × ((q : Refusal) → C q → refusal_number n ≤ refusal_number q)

-- one that is refused exactly with its cause
settled : (C : Refusal → Type 0) (w t : Result Goal Refusal) → t ≡ w → ((r : Refusal) → t ≡ Err r → C r) → ((r : Refusal) → C r → t ≡ Err r) → Settled C w
settled C (Ok g) t e to from = λ r c. let f = from r c in cc
settled C (Err n) t e to from = (to n e, λ q c. let f = from q c in let p : n ≡ q = cc in rw p (omega arith))

search_passes : (ask : Frame → Verdict) (above rest : List Activation) → All (Passes ask) above → search_down ask (above ++ rest) ≡ search_down ask rest
unfolding search_down
search_passes ask [] rest p = refl
search_passes ask (f ∷ above) rest p = go (ask f.frame) f.cleanup p.0.0 p.0.1 (search_passes ask above rest p.1)
  where
    go : (w : Verdict) (o : Option Unwinding) → LetsPass w → o ≡ None → search_down ask (above ++ rest) ≡ search_down ask rest
        → judged w (length (above ++ rest)) (given o (search_down ask (above ++ rest)) (λ _. Err PassedFence)) ≡ search_down ask rest
    go Nothing o l e ih = rw e ih
    go (Cleanup pad) o l e ih = rw e ih
    go (Handler pad selector) o l e ih = absurd l
    go Terminate o l e ih = absurd l
    go (Broken fault) o l e ih = absurd l

-- a search that has come down to f
search_at : (ask : Frame → Verdict) (fs above : List Activation) (f : Activation) (n : ℕ) (p : Stands fs above f n) → All (Passes ask) above
    → search_down ask fs ≡ judged (ask f.frame) n (given f.cleanup (search_down ask p.0) (λ _. Err PassedFence))
unfolding search_down
search_at ask fs above f n p a = rw (p.1, p.2) (search_passes ask above (f ∷ p.0) a)

cause_search : (ask : Frame → Verdict) (fs : List Activation) (r : Refusal) → SearchCause ask fs r → search_down ask fs ≡ Err r
unfolding search_down
cause_search ask fs r (inl p) = let m = p.2 in search_at ask fs m.0 m.1 p.0 m.2 m.3 ∙ rw (m.4, p.1)
cause_search ask fs r (inr (inl p)) = let m = p.3 in search_at ask fs m.0 m.1 p.0 m.2 m.3 ∙ rw (m.4, p.2)
cause_search ask fs r (inr (inr (inl p))) =
    let m = p.1 in search_at ask fs m.0 m.1 m.2 m.4 m.5 ∙ rw (m.7, p.0) (fenced m.2 (ask m.1.frame) m.6)
  where
    fenced : (n : ℕ) (w : Verdict) → LetsPass w → judged w n (Err PassedFence) ≡ Err PassedFence
    fenced n Nothing l = refl
    fenced n (Cleanup pad) l = refl
    fenced n (Handler pad selector) l = absurd l
    fenced n Terminate l = absurd l
    fenced n (Broken fault) l = absurd l
cause_search ask fs r (inr (inr (inr p))) = rw p.0 (whole fs p.1)
  where
    whole : (fs : List Activation) → All (Passes ask) fs → search_down ask fs ≡ Err NoHandler
    whole [] a = refl
    whole (f ∷ fs) a = search_passes ask (f ∷ []) fs (a.0, tt) ∙ whole fs a.1

-- a cause below a frame that the search passes
cause_below : (ask : Frame → Verdict) (f : Activation) (fs : List Activation) (r : Refusal) → Passes ask f → SearchCause ask fs r → SearchCause ask (f ∷ fs) r
cause_below ask f fs r a c =
    elim c [
      | inl p ↦ inl (p.0, p.1, meets p.0 Terminate p.2)
      | inr (inl p) ↦ inr (inl (p.0, p.1, p.2, meets p.0 (Broken p.1) p.3))
      | inr (inr (inl p)) ↦ let m = p.1 in inr (inr (inl (p.0, (f ∷ m.0, m.1, m.2, m.3, stands_below f fs m.0 m.1 m.2 m.4, (a, m.5), m.6, m.7))))
      | inr (inr (inr p)) ↦ inr (inr (inr (p.0, (a, p.1))))
    ]
  where
    meets : (n : ℕ) (w : Verdict) → Meets ask fs n w → Meets ask (f ∷ fs) n w
    meets n w m = (f ∷ m.0, m.1, stands_below f fs m.0 m.1 n m.2, (a, m.3), m.4)

search_cause : (ask : Frame → Verdict) (fs : List Activation) (r : Refusal) → search_down ask fs ≡ Err r → SearchCause ask fs r
unfolding search_down
search_cause ask [] r e = inr (inr (inr (cc, tt)))
search_cause ask (f ∷ fs) r e = go (ask f.frame) refl f.cleanup refl (search_cause ask fs r) e
  where
    here : Stands (f ∷ fs) [] f (length fs)
    here = (fs, refl, refl)

    go : (w : Verdict) → ask f.frame ≡ w → (o : Option Unwinding) → f.cleanup ≡ o → (search_down ask fs ≡ Err r → SearchCause ask fs r)
        → judged w (length fs) (given o (search_down ask fs) (λ _. Err PassedFence)) ≡ Err r → SearchCause ask (f ∷ fs) r
    go Nothing ew None eo ih e = cause_below ask f fs r (rw ew tt, eo) (ih e)
    go Nothing ew (Some u) eo ih e = inr (inr (inl (cc, ([], f, length fs, u, here, tt, rw ew tt, eo))))
    go (Cleanup pad) ew None eo ih e = cause_below ask f fs r (rw ew tt, eo) (ih e)
    go (Cleanup pad) ew (Some u) eo ih e = inr (inr (inl (cc, ([], f, length fs, u, here, tt, rw ew tt, eo))))
    go (Handler pad selector) ew o eo ih e = absurd cc
    go Terminate ew o eo ih e = inl (length fs, cc, ([], f, here, tt, ew))
    go (Broken fault) ew o eo ih e = inr (inl (length fs, fault, cc, ([], f, here, tt, ew)))

search_settled : (ask : Frame → Verdict) (fs : List Activation) → Settled (SearchCause ask fs) (search_down ask fs)
search_settled ask fs = settled (SearchCause ask fs) _ _ refl (search_cause ask fs) (cause_search ask fs)

-- the innermost running cleanup

-- there is one, or no cleanup runs
abbrev Found : List Activation → Option ℕ → Type 0
Found fs None = All NoCleanup fs
Found fs (Some n) = (u : Unwinding) × Innermost fs u n

innermost_below : (g : Activation) (fs : List Activation) (u : Unwinding) (n : ℕ) → NoCleanup g → Innermost fs u n → Innermost (g ∷ fs) u n
innermost_below g fs u n q m = (g ∷ m.0, m.1, stands_below g fs m.0 m.1 n m.2, (q, m.3), m.4)

fence_found : (fs : List Activation) → Found fs (fence fs)
unfolding fence
fence_found [] = tt
fence_found (f ∷ fs) =
    given_both f.cleanup _ _ (Found (f ∷ fs))
    (λ e. below (fence fs) e (fence_found fs))
    (λ u e. (u, ([], f, (fs, refl, refl), tt, e)))
  where
    below : (o : Option ℕ) → NoCleanup f → Found fs o → Found (f ∷ fs) o
    below None q a = (q, a)
    below (Some n) q m = (m.0, innermost_below f fs m.0 n q m.1)

innermost_fence : (fs : List Activation) (u : Unwinding) (n : ℕ) → Innermost fs u n → fence fs ≡ Some n
unfolding fence
innermost_fence fs u n m = rw (m.2.1, m.2.2) (go m.0 m.3)
  where
    go : (above : List Activation) → All NoCleanup above → fence (above ++ (m.1 ∷ m.2.0)) ≡ Some (length m.2.0)
    go [] a = rw m.4
    go (g ∷ above) a = rw a.0 (go above a.1)

no_fence : (fs : List Activation) → All NoCleanup fs → fence fs ≡ None
unfolding fence
no_fence [] a = refl
no_fence (f ∷ fs) a = rw a.0 (no_fence fs a.1)

-- the first asking of a forced unwinding

asks_on : (ask : Frame → Verdict) (k : ℕ) (above : List Activation) (f : Activation) (below : List Activation) → k ≤ length below → All (λ g. NotBroken (ask g.frame)) above
    → ask_down_to ask k (above ++ (f ∷ below)) ≡ ask_down_to ask k (f ∷ below)
unfolding ask_down_to
asks_on ask k [] f below le a = refl
asks_on ask k (g ∷ above) f below le a =
    let l : k ≤ length (above ++ (f ∷ below)) = simp length-append (omega arith) in
    rw (le-ltb (length (above ++ (f ∷ below))) k l) (go (ask g.frame) a.0 (asks_on ask k above f below le a.1))
  where
    go : (w : Verdict) → NotBroken w → ask_down_to ask k (above ++ (f ∷ below)) ≡ ask_down_to ask k (f ∷ below)
        → unless_broken w (length (above ++ (f ∷ below))) (ask_down_to ask k (above ++ (f ∷ below))) ≡ ask_down_to ask k (f ∷ below)
    go Nothing l ih = ih
    go (Cleanup pad) l ih = ih
    go (Handler pad selector) l ih = ih
    go Terminate l ih = ih
    go (Broken fault) l ih = absurd l

-- the first asking met Broken, as a cause
abbrev Asked : (Frame → Verdict) → ℕ → List Activation → Refusal → Type 0
Asked ask k fs r = (n : ℕ) × (fault : Fault) × (r ≡ BrokenTable n fault) × MeetsBroken ask k fs n fault

cause_asks : (ask : Frame → Verdict) (k : ℕ) (fs : List Activation) (r : Refusal) → Asked ask k fs r → ask_down_to ask k fs ≡ Err r
unfolding ask_down_to
cause_asks ask k fs r p =
    let m = p.3 in
    let below = m.2.0 in
    let l : k ≤ length below = subst (λ j. k ≤ j) m.2.2 m.3 in
    rw m.2.1 (asks_on ask k m.0 m.1 below l m.4 ∙ rw (le-ltb (length below) k l, m.5, p.2, m.2.2))

asks_cause : (ask : Frame → Verdict) (k : ℕ) (fs : List Activation) (r : Refusal) → ask_down_to ask k fs ≡ Err r → Asked ask k fs r
unfolding ask_down_to
asks_cause ask k [] r e = absurd cc
asks_cause ask k (f ∷ fs) r e = go (ltb (length fs) k) refl (ask f.frame) refl (asks_cause ask k fs r) e
  where
    further : NotBroken (ask f.frame) → Asked ask k fs r → Asked ask k (f ∷ fs) r
    further l p = let m = p.3 in (p.0, p.1, p.2, (f ∷ m.0, m.1, stands_below f fs m.0 m.1 p.0 m.2, m.3, (l, m.4), m.5))

    go : (b : Bool) → ltb (length fs) k ≡ b → (w : Verdict) → ask f.frame ≡ w → (ask_down_to ask k fs ≡ Err r → Asked ask k fs r)
        → cond b (Ok (goal.Keep k)) (unless_broken w (length fs) (ask_down_to ask k fs)) ≡ Err r → Asked ask k (f ∷ fs) r
    go true eb w ew ih e = absurd cc
    go false eb Nothing ew ih e = further (rw ew tt) (ih e)
    go false eb (Cleanup pad) ew ih e = further (rw ew tt) (ih e)
    go false eb (Handler pad selector) ew ih e = further (rw ew tt) (ih e)
    go false eb Terminate ew ih e = further (rw ew tt) (ih e)
    go false eb (Broken fault) ew ih e = (length fs, fault, cc, ([], f, (fs, refl, refl), ltb-false (length fs) k eb, tt, ew))

asks_settled : (ask : Frame → Verdict) (k : ℕ) (fs : List Activation) → Settled (Asked ask k fs) (ask_down_to ask k fs)
asks_settled ask k fs = settled (Asked ask k fs) _ _ refl (asks_cause ask k fs) (cause_asks ask k fs)

-- first phases

settled_as : (C D : Refusal → Type 0) (w : Result Goal Refusal) → ((r : Refusal) → C r → D r) → ((r : Refusal) → D r → C r) → Settled C w → Settled D w
settled_as C D (Ok g) to from k = λ r d. k r (from r d)
settled_as C D (Err n) to from k = (to n k.0, λ q d. k.1 q (from q d))

-- a test before what w comes to, for the cause P with the number of n
tested : (n : Refusal) (P : Type 0) (E : Refusal → Type 0) (b : Bool) (w : Result Goal Refusal) → (b ≡ true → P → ⊥) → (b ≡ false → P)
    → ((q : Refusal) → E q → refusal_number n ≤ refusal_number q) → Settled E w → Settled (λ r. ((r ≡ n) × P) ⊎ E r) (cond b w (Err n))
tested n P E true (Ok g) out in' le k = λ r. elim [ inl p ↦ out refl p.1 | inr c ↦ k r c ]
tested n P E true (Err m) out in' le k = (inr k.0, λ q. elim [ inl p ↦ absurd (out refl p.1) | inr c ↦ k.1 q c ])
tested n P E false w out in' le k = (inl (refl, in' refl), λ q. elim [ inl p ↦ numbered n n q (omega arith) p.0 | inr c ↦ le q c ])

search_number : (ask : Frame → Verdict) (fs : List Activation) (q : Refusal) → SearchCause ask fs q → 14 ≤ refusal_number q
search_number ask fs q (inl p) = rw p.1 (omega arith)
search_number ask fs q (inr (inl p)) = rw p.2 (omega arith)
search_number ask fs q (inr (inr (inl p))) = rw p.0 (omega arith)
search_number ask fs q (inr (inr (inr p))) = rw p.0 (omega arith)

handler_settled : (v : Verdicts) (e : Exception) (s : State) (E : Refusal → Type 0)
    → ((r : Refusal) → SearchCause (asks v e false) s.frames r → E r) → ((r : Refusal) → E r → SearchCause (asks v e false) s.frames r)
    → Settled (λ r. ((r ≡ CatchesFull) × (32 ≤ length s.catches)) ⊎ E r) (handler_for v e s)
handler_settled v e s E to from =
    tested CatchesFull (32 ≤ length s.catches) E (ltb (length s.catches) 32) _
    (λ t le. let l = ltb-true (length s.catches) 32 t in omega arith)
    (λ t. ltb-false (length s.catches) 32 t)
    (λ q c. let l = search_number (asks v e false) s.frames q (from q c) in omega arith)
    (settled_as _ E (search_down (asks v e false) s.frames) to from (search_settled (asks v e false) s.frames))

keep_tested : (k : ℕ) (fs : List Activation) → (leb k (length fs) && spares_fence k (fence fs)) ≡ false → CannotKeep k fs
keep_tested k fs t = elim (and_cases (leb k (length fs)) (spares_fence k (fence fs)) t) [ inl e ↦ inl (leb-false k (length fs) e) | inr e ↦ go (fence fs) (fence_found fs) e ]
  where
    go : (o : Option ℕ) → Found fs o → spares_fence k o ≡ false → CannotKeep k fs
    go None m e = absurd (false≢true (sym e))
    go (Some n) m e = inr (m.0, n, m.1, ltb-false n k e)

keep_passed : (k : ℕ) (fs : List Activation) → (leb k (length fs) && spares_fence k (fence fs)) ≡ true → CannotKeep k fs → ⊥
keep_passed k fs t (inl l) = let e = leb-true k (length fs) (and_parts _ _ t).0 in omega arith
keep_passed k fs t (inr p) =
    let e = (and_parts (leb k (length fs)) (spares_fence k (fence fs)) t).1 in
    let l = ltb-true p.1 k (rw (innermost_fence fs p.0 p.1 p.2) at e) in
    let m = p.3 in
    omega arith

stop_settled : (v : Verdicts) (e : Exception) (k : ℕ) (s : State) (E : Refusal → Type 0)
    → ((r : Refusal) → Asked (asks v e true) k s.frames r → E r) → ((r : Refusal) → E r → Asked (asks v e true) k s.frames r)
    → Settled (λ r. ((r ≡ KeepOutOfRange) × CannotKeep k s.frames) ⊎ E r) (stop_for v e k s)
stop_settled v e k s E to from =
    tested KeepOutOfRange (CannotKeep k s.frames) E (leb k (length s.frames) && spares_fence k (fence s.frames)) _
    (keep_passed k s.frames) (keep_tested k s.frames)
    (λ q c. numbered KeepOutOfRange (BrokenTable (from q c).0 (from q c).1) q (omega arith) (from q c).2)
    (settled_as _ E (ask_down_to (asks v e true) k s.frames) to from (asks_settled (asks v e true) k s.frames))

set_off_right : (v : Verdicts) (e : Exception) (w : Result Goal Refusal) (s : State) (C : Refusal → Type 0) → Settled C w → Right C (set_off v e w s).answer
set_off_right v e (Ok g) s C k = accept C _ (walks _ _ _ _) k
set_off_right v e (Err n) s C k = refusal C n k.0 k.1

-- raise, force and delete

abbrev RightOutcome : (Refusal → Type 0) → Outcome → Type 0
RightOutcome C o = Right C o.answer

same_record : (x : ℕ) (hs : List HeldException) (g h : HeldException) → RecordOf x g hs → RecordOf x h hs → g ≡ h
same_record x hs g h p q = let e = record_find x hs g p in let f = record_find x hs h q in cc

-- D are the causes that are left where x is with its raiser
raiser_right : (s : State) (x : ℕ) (act : Exception → Outcome) (D : Refusal → Type 0) → ((q : Refusal) → D q → 9 ≤ refusal_number q)
    → ((h : HeldException) → RecordOf x h s.held → Right D (act h.exception).answer) → Right (λ r. RaiserCause x s r ⊎ D r) (with_raiser x s act).answer
raiser_right s x act D le k =
    given_both (find x s.held) _ _ (RightOutcome C)
    (λ e. cond_both (has x s.waiting) _ _ (RightOutcome C)
    (λ t. not_with (inr (has_in x s.waiting t)) (λ w. unheld e w.0 w.1))
    (λ t. refusal C NoSuchException (inl (inl (refl, elim [ inl h ↦ find_none x s.held h.0 e h.1 h.2 | inr i ↦ both_ways _ t (in_has x s.waiting i) ])))
    (λ q. elim [ inl (inl p) ↦ numbered NoSuchException NoSuchException q (omega arith) p.0 | inl (inr p) ↦ numbered NoSuchException NotWithRaiser q (omega arith) p.0 | inr d ↦ let l = le q d in omega arith ])))
    (λ h e. let rec = find_record x s.held h e in
    let i = record_in x s.held h rec in
    let un : Uncollected x s = inl (h, i.0, i.1) in
    cond_both h.owned _ _ (RightOutcome C)
    (λ t. right_as D C _ (λ r d. inr d) (λ r. elim [ inl (inl p) ↦ absurd (p.1 un) | inl (inr p) ↦ absurd (p.1 (h, rec, t)) | inr d ↦ d ]) (k h rec))
    (λ t. not_with un (λ w. let p = same_record x s.held h w.0 rec w.1 in let o = w.2 in both_ways h.owned t (rw p o))))
  where
    C : Refusal → Type 0
    C r = RaiserCause x s r ⊎ D r

    unheld : find x s.held ≡ None → (h : HeldException) → RecordOf x h s.held → ⊥
    unheld e h r = let i = record_in x s.held h r in find_none x s.held h e i.0 i.1

    not_with : Uncollected x s → (WithRaiser x s → ⊥) → Right C (Refused NotWithRaiser)
    not_with un w =
        refusal C NotWithRaiser (inl (inr (refl, w)))
        (λ q. elim [ inl (inl p) ↦ absurd (p.1 un) | inl (inr p) ↦ numbered NotWithRaiser NotWithRaiser q (omega arith) p.0 | inr d ↦ let l = le q d in omega arith ])

raise_right : (v : Verdicts) (x : ℕ) (s : State) → Right (Cause v s (Raise x)) (raise v x s).answer
raise_right v x s =
    raiser_right s x _ D
    (λ q. elim [ inl p ↦ rw p.0 (omega arith) | inr c ↦ let l = search_number _ _ q c.2 in omega arith ])
    (λ h rec. set_off_right v h.exception (handler_for v h.exception s) s D
    (handler_settled v h.exception s E (λ r c. (h, rec, c)) (λ r c. let p = same_record x s.held h c.0 rec c.1 in rw p c.2)))
  where
    E : Refusal → Type 0
    E r = (h : HeldException) × RecordOf x h s.held × SearchCause (asks v h.exception false) s.frames r

    D : Refusal → Type 0
    D r = ((r ≡ CatchesFull) × (32 ≤ length s.catches)) ⊎ E r

force_right : (v : Verdicts) (x k : ℕ) (s : State) → Right (Cause v s (Force x k)) (force v x k s).answer
force_right v x k s =
    raiser_right s x _ D
    (λ q. elim [ inl p ↦ rw p.0 (omega arith) | inr c ↦ rw c.4 (omega arith) ])
    (λ h rec. set_off_right v h.exception (stop_for v h.exception k s) s D
    (stop_settled v h.exception k s E (λ r c. (h, c.0, c.1, rec, c.2, c.3))
    (λ r c. let p = same_record x s.held h c.0 rec c.3 in (c.1, c.2, c.4, rw p c.5))))
  where
    E : Refusal → Type 0
    E r = (h : HeldException) × (n : ℕ) × (fault : Fault) × RecordOf x h s.held × (r ≡ BrokenTable n fault) × MeetsBroken (asks v h.exception true) k s.frames n fault

    D : Refusal → Type 0
    D r = ((r ≡ KeepOutOfRange) × CannotKeep k s.frames) ⊎ E r

delete_right : (v : Verdicts) (x : ℕ) (s : State) → Right (Cause v s (Delete x)) (delete x s).answer
delete_right v x s =
    right_as (λ r. RaiserCause x s r ⊎ ⊥) (RaiserCause x s) _ (λ r. elim [ inl c ↦ c | inr n ↦ absurd n ]) (λ r c. inl c)
    (raiser_right s x _ (λ r. ⊥) (λ q n. absurd n) (λ h rec. accept (λ r. ⊥) _ refl (λ r n. n)))

-- the calls on frames

top_is : (f : Activation) (fs : List Activation) (n : ℕ) → Top (f ∷ fs) n → n ≡ length fs
top_is f fs n t = let e = t.1.1 in let p : fs ≡ t.1.0 = cc in t.1.2 ∙ ap length (sym p)

leave_right : (v : Verdicts) (fs : List Activation) (hs : List HeldException) (cs : List Catch) (q : List ℕ) (n : ℕ) → Right (Cause v (mk fs hs cs q n) Leave) (leave (mk fs hs cs q n)).answer
leave_right v [] hs cs q n =
    refusal (Cause v (mk [] hs cs q n) Leave) NoFrame (inl (refl, refl))
    (λ q. elim [ inl p ↦ numbered NoFrame NoFrame q (omega arith) p.0 | inr (inl p) ↦ numbered NoFrame CatchOpen q (omega arith) p.0 | inr (inr p) ↦ numbered NoFrame CleanupRuns q (omega arith) p.0 ])
leave_right v (f ∷ fs) hs cs q n =
    cond_both (has (length fs) (map (λ c. c.frame) cs)) _ _ (RightOutcome C)
    (λ t. let p = has_catch (length fs) cs t in
    refusal C CatchOpen (inr (inl (refl, p.0, p.1, (f, (fs, refl, p.2)))))
    (λ q. elim [ inl p ↦ absurd (framed p.1) | inr (inl p) ↦ numbered CatchOpen CatchOpen q (omega arith) p.0 | inr (inr p) ↦ numbered CatchOpen CleanupRuns q (omega arith) p.0 ]))
    (λ t. given_both f.cleanup _ _ (RightOutcome C)
    (λ e. accept C _ refl
    (λ r. elim [
      | inl p ↦ framed p.1
      | inr (inl p) ↦ closed t p.1 p.2 p.3
      | inr (inr p) ↦ let k = p.4.1 in let e' = p.5 in cc
    ]))
    (λ u e. refusal C CleanupRuns (inr (inr (refl, f, length fs, u, (fs, refl, refl), e)))
    (λ q. elim [ inl p ↦ absurd (framed p.1) | inr (inl p) ↦ absurd (closed t p.1 p.2 p.3) | inr (inr p) ↦ numbered CleanupRuns CleanupRuns q (omega arith) p.0 ])))
  where
    C : Refusal → Type 0
    C = Cause v (mk (f ∷ fs) hs cs q n) Leave

    framed : ◌≡◌ {A = List Activation} (f ∷ fs) [] → ⊥
    framed e = cc

    closed : has (length fs) (map (λ c. c.frame) cs) ≡ false → (c : Catch) → In c cs → Top (f ∷ fs) c.frame → ⊥
    closed t c i top = both_ways _ t (catch_has (length fs) c cs i (top_is f fs c.frame top))

move_right : (v : Verdicts) (place : ℕ) (fs : List Activation) (hs : List HeldException) (cs : List Catch) (q : List ℕ) (n : ℕ)
    → Right (Cause v (mk fs hs cs q n) (Move place)) (move place (mk fs hs cs q n)).answer
move_right v place [] hs cs q n = refusal (Cause v (mk [] hs cs q n) (Move place)) NoFrame (refl, refl) (λ q p. numbered NoFrame NoFrame q (omega arith) p.0)
move_right v place (f ∷ fs) hs cs q n =
    accept (Cause v (mk (f ∷ fs) hs cs q n) (Move place)) _ refl (λ r p. let e = p.1 in cc)

-- where no cleanup runs in the top frame
resume_below : (x : ℕ) (f : Activation) (fs : List Activation) → NoCleanup f → IsNotInnermost x (f ∷ fs)
resume_below x f fs e = go (fence fs) (fence_found fs)
  where
    go : (o : Option ℕ) → Found fs o → IsNotInnermost x (f ∷ fs)
    go None a = inl (λ u n m es. let p = innermost_fence (f ∷ fs) u n m in let k = no_fence (f ∷ fs) (e, a) in cc)
    go (Some n) m =
        let i = m.1 in
        inr (
          m.0,
          n,
          innermost_below f fs m.0 n e i,
          λ t. let a = top_is f fs n t in
              let b = i.2.2 in
              let c : length fs ≡ length i.0 + suc (length i.2.0) = rw i.2.1 (length-append i.0 (i.1 ∷ i.2.0)) in
              omega arith,
        )

resume_right : (v : Verdicts) (x : ℕ) (fs : List Activation) (hs : List HeldException) (cs : List Catch) (q : List ℕ) (n : ℕ)
    → Right (Cause v (mk fs hs cs q n) (Resume x)) (resume v x (mk fs hs cs q n)).answer
resume_right v x [] hs cs q n =
    refusal (Cause v (mk [] hs cs q n) (Resume x)) NotInnermost (refl, inl (λ u n m e. none m.0 m.1 m.2.0 m.2.1)) (λ q p. numbered NotInnermost NotInnermost q (omega arith) p.0)
  where
    none : (above : List Activation) (f : Activation) (below : List Activation) → [] ≡ above ++ (f ∷ below) → ⊥
    none [] f below e = cc
    none (g ∷ above) f below e = cc
resume_right v x (f ∷ fs) hs cs q n =
    given_both f.cleanup _ _ (RightOutcome C)
    (λ e. not_resumed (resume_below x f fs e))
    (λ u e. cond_both (eqb x u.exception.serial) _ _ (RightOutcome C)
    (λ t. accept C _ (walks _ _ _ _)
    (λ r p. elim p.1 [
      | inl k ↦ k u (length fs) ([], f, (fs, refl, refl), tt, e) (sym (eqb-true _ _ t))
      | inr k ↦ let m = k.2 in k.3 (at_top u e m.0 m.1 k.1 m.2 m.3)
    ]))
    (λ t. not_resumed (inl (λ w n m es. eqb-false _ _ t (sym es ∙ ap (λ (u : Unwinding). u.exception.serial) (same_cleanup u e m.0 m.1 w n m.2 m.3 m.4))))))
  where
    C : Refusal → Type 0
    C = Cause v (mk (f ∷ fs) hs cs q n) (Resume x)

    not_resumed : IsNotInnermost x (f ∷ fs) → Right C (Refused NotInnermost)
    not_resumed k = refusal C NotInnermost (refl, k) (λ q p. numbered NotInnermost NotInnermost q (omega arith) p.0)

    at_top : (u : Unwinding) → f.cleanup ≡ Some u → (above : List Activation) (g : Activation) (m : ℕ) → Stands (f ∷ fs) above g m → All NoCleanup above → Top (f ∷ fs) m
    at_top u e [] g m p a = (g, p)
    at_top u e (h ∷ above) g m p a = let k = p.1 in let e' = a.0 in absurd cc

    same_cleanup : (u : Unwinding) → f.cleanup ≡ Some u → (above : List Activation) (g : Activation) (w : Unwinding) (m : ℕ) → Stands (f ∷ fs) above g m → All NoCleanup above → g.cleanup ≡ Some w → w ≡ u
    same_cleanup u e [] g w m p a ew = let k = p.1 in cc
    same_cleanup u e (h ∷ above) g w m p a ew = let k = p.1 in let e' = a.0 in absurd cc

-- the calls on catches

-- the newest catch is begun
begun_newest : (c : Catch) (s : State) → Newest c s → c.begun ≡ true → NoBegun s → ⊥
begun_newest c s w t (inl e) = let k = w.1 in cc
begun_newest c s w t (inr p) =
    let k : c ≡ p.0 = cc (w.1, p.1.1) in
    both_ways c.begun (rw k p.2) t

begin_right : (v : Verdicts) (x : ℕ) (fs : List Activation) (hs : List HeldException) (cs : List Catch) (q : List ℕ) (n : ℕ)
    → Right (Cause v (mk fs hs cs q n) (Begin x)) (begin x (mk fs hs cs q n)).answer
begin_right v x fs hs [] q n =
    refusal (Cause v (mk fs hs [] q n) (Begin x)) NoUnbegunCatch (refl, λ c w es eb. let k = w.1 in cc)
    (λ q p. numbered NoUnbegunCatch NoUnbegunCatch q (omega arith) p.0)
begin_right v x fs hs (c ∷ cs) q n =
    cond_both (eqb x c.exception.serial && not c.begun) _ _ (RightOutcome C)
    (λ t. let ts = and_parts (eqb x c.exception.serial) (not c.begun) t in
    accept C _ refl (λ r p. p.1 c (cs, refl) (sym (eqb-true _ _ ts.0)) (not-true c.begun ts.1)))
    (λ t. refusal C NoUnbegunCatch (
      refl,
      λ d w es eb. let k : c ≡ d = cc w.1 in
          let a : eqb x c.exception.serial ≡ true = rw k (eq-eqb x d.exception.serial (sym es)) in
          let b : not c.begun ≡ true = rw (k, eb) in
          both_ways _ t (and_from _ _ a b),
    )
    (λ q p. numbered NoUnbegunCatch NoUnbegunCatch q (omega arith) p.0))
  where
    C : Refusal → Type 0
    C = Cause v (mk fs hs (c ∷ cs) q n) (Begin x)

end_right : (v : Verdicts) (fs : List Activation) (hs : List HeldException) (cs : List Catch) (q : List ℕ) (n : ℕ) → Right (Cause v (mk fs hs cs q n) End) (end (mk fs hs cs q n)).answer
end_right v fs hs [] q n =
    refusal (Cause v (mk fs hs [] q n) End) NoBegunCatch (inl (refl, inl refl))
    (λ q. elim [ inl p ↦ numbered NoBegunCatch NoBegunCatch q (omega arith) p.0 | inr p ↦ numbered NoBegunCatch CatchBelowTop q (omega arith) p.0 ])
end_right v fs hs (c ∷ cs) q n =
    cond_both c.begun _ _ (RightOutcome C)
    (λ t. cond_both (eqb (suc c.frame) (length fs)) _ _ (RightOutcome C)
    (λ e. accept C _ refl
    (λ r. elim [
      | inl p ↦ begun_newest c s (cs, refl) t p.1
      | inr p ↦ let k : c ≡ p.1 = cc p.2.1 in p.3 (subst (λ (d : Catch). Top fs d.frame) k (top fs (eqb-true _ _ e)))
    ]))
    (λ e. refusal C CatchBelowTop (inr (refl, c, (cs, refl), λ w. eqb-false _ _ e (number fs w)))
    (λ q. elim [ inl p ↦ absurd (begun_newest c s (cs, refl) t p.1) | inr p ↦ numbered CatchBelowTop CatchBelowTop q (omega arith) p.0 ])))
    (λ t. refusal C NoBegunCatch (inl (refl, inr (c, (cs, refl), t)))
    (λ q. elim [ inl p ↦ numbered NoBegunCatch NoBegunCatch q (omega arith) p.0 | inr p ↦ numbered NoBegunCatch CatchBelowTop q (omega arith) p.0 ]))
  where
    s : State
    s = mk fs hs (c ∷ cs) q n

    C : Refusal → Type 0
    C = Cause v s End

    top : (fs : List Activation) → suc c.frame ≡ length fs → Top fs c.frame
    top [] e = absurd (omega arith)
    top (f ∷ fs) e = (f, (fs, refl, omega arith))

    number : (fs : List Activation) → Top fs c.frame → suc c.frame ≡ length fs
    number [] w = let k = w.1.1 in absurd cc
    number (f ∷ fs) w = ap suc (top_is f fs c.frame w)

no_begun_right : (v : Verdicts) (s : State) → NoBegun s → Right (Cause v s Rethrow) (Refused NoBegunCatch)
no_begun_right v s k =
    refusal (Cause v s Rethrow) NoBegunCatch (inl (refl, k))
    (λ q. elim [
      | inl p ↦ numbered NoBegunCatch NoBegunCatch q (omega arith) p.0
      | inr (inl p) ↦ numbered NoBegunCatch AlreadyUnwinds q (omega arith) p.0
      | inr (inr (inl p)) ↦ numbered NoBegunCatch CatchesFull q (omega arith) p.0
      | inr (inr (inr p)) ↦ let l = search_number _ _ q p.2 in omega arith
    ])

rethrow_right : (v : Verdicts) (fs : List Activation) (hs : List HeldException) (cs : List Catch) (q : List ℕ) (n : ℕ) → Right (Cause v (mk fs hs cs q n) Rethrow) (rethrow v (mk fs hs cs q n)).answer
rethrow_right v fs hs [] q n = no_begun_right v (mk fs hs [] q n) (inl refl)
rethrow_right v fs hs (c ∷ cs) q n =
    cond_both c.begun _ _ (RightOutcome C)
    (λ t. cond_both (has c.exception.serial (unwinding fs)) _ _ (RightOutcome C)
    (λ u. refusal C AlreadyUnwinds (inr (inl (refl, c, (cs, refl), has_unwinds c.exception.serial fs u)))
    (λ q. elim [
      | inl p ↦ absurd (begun_newest c s (cs, refl) t p.1)
      | inr (inl p) ↦ numbered AlreadyUnwinds AlreadyUnwinds q (omega arith) p.0
      | inr (inr (inl p)) ↦ numbered AlreadyUnwinds CatchesFull q (omega arith) p.0
      | inr (inr (inr p)) ↦ let l = search_number _ _ q p.2 in omega arith
    ]))
    (λ u. right_as D C _ (λ r d. inr (inr d))
    (λ r. elim [
      | inl p ↦ absurd (begun_newest c s (cs, refl) t p.1)
      | inr (inl p) ↦ let k : c ≡ p.1 = cc p.2.1 in
          let w = p.3 in
          absurd (both_ways _ u (unwinds_has c.exception.serial w.0 w.1 fs w.2 w.3 (w.4 ∙ ap (λ (c : Catch). c.exception.serial) (sym k))))
      | inr (inr d) ↦ d
    ])
    (set_off_right v c.exception (handler_for v c.exception s) s D
    (handler_settled v c.exception s E (λ r k. (c, (cs, refl), k)) (λ r p. let k : c ≡ p.0 = cc p.1.1 in subst (λ (d : Catch). SearchCause (asks v d.exception false) fs r) (sym k) p.2)))))
    (λ t. no_begun_right v s (inr (c, (cs, refl), t)))
  where
    s : State
    s = mk fs hs (c ∷ cs) q n

    C : Refusal → Type 0
    C = Cause v s Rethrow

    E : Refusal → Type 0
    E r = (c : Catch) × Newest c s × SearchCause (asks v c.exception false) s.frames r

    D : Refusal → Type 0
    D r = ((r ≡ CatchesFull) × (32 ≤ length s.catches)) ⊎ E r

collect_right : (v : Verdicts) (fs : List Activation) (hs : List HeldException) (cs : List Catch) (q : List ℕ) (n : ℕ) → Right (Cause v (mk fs hs cs q n) Collect) (collect (mk fs hs cs q n)).answer
collect_right v fs hs cs [] n = refusal (Cause v (mk fs hs cs [] n) Collect) NothingWaits (refl, refl) (λ q p. numbered NothingWaits NothingWaits q (omega arith) p.0)
collect_right v fs hs cs (x ∷ q) n = accept (Cause v (mk fs hs cs (x ∷ q) n) Collect) _ refl (λ r p. let e = p.1 in cc)

make_right : (v : Verdicts) (class thrown : ℕ) (s : State) → Right (Cause v s (Make class thrown)) (make class thrown s).answer
make_right v class thrown s =
    cond_both (ltb (length s.held + length s.waiting) 16) _ _ (RightOutcome C)
    (λ t. cond_both (ltb s.last 4294967295) _ _ (RightOutcome C)
    (λ u. accept C _ refl (λ r. elim [ inl p ↦ roomy t p.1 | inr p ↦ let l = ltb-true s.last 4294967295 u in let k = p.1 in omega arith ]))
    (λ u. refusal C SerialsUsedUp (inr (refl, ltb-false s.last 4294967295 u))
    (λ q. elim [ inl p ↦ absurd (roomy t p.1) | inr p ↦ numbered SerialsUsedUp SerialsUsedUp q (omega arith) p.0 ])))
    (λ t. refusal C ExceptionsFull (inl (refl, ltb-false (length s.held + length s.waiting) 16 t))
    (λ q. elim [ inl p ↦ numbered ExceptionsFull ExceptionsFull q (omega arith) p.0 | inr p ↦ numbered ExceptionsFull SerialsUsedUp q (omega arith) p.0 ]))
  where
    C : Refusal → Type 0
    C = Cause v s (Make class thrown)

    roomy : ltb (length s.held + length s.waiting) 16 ≡ true → 16 ≤ length s.held + length s.waiting → ⊥
    roomy t k = let l = ltb-true (length s.held + length s.waiting) 16 t in omega arith

-- the law

pub refusals_listed_lem : RefusalsListed
unfolding step
refusals_listed_lem v (Enter unit place) s =
    right_of v (Enter unit place) s
    (cond_both (ltb (length s.frames) 64) _ _ (RightOutcome (Cause v s (Enter unit place)))
    (λ t. accept (Cause v s (Enter unit place)) _ refl (λ r p. let l = ltb-true (length s.frames) 64 t in let k = p.1 in omega arith))
    (λ t. refusal (Cause v s (Enter unit place)) FramesFull (refl, ltb-false (length s.frames) 64 t) (λ q p. numbered FramesFull FramesFull q (omega arith) p.0)))
refusals_listed_lem v (Move place) s = right_of v (Move place) s (move_right v place s.frames s.held s.catches s.waiting s.last)
refusals_listed_lem v Leave s = right_of v Leave s (leave_right v s.frames s.held s.catches s.waiting s.last)
refusals_listed_lem v (Make class thrown) s = right_of v (Make class thrown) s (make_right v class thrown s)
refusals_listed_lem v (Raise x) s = right_of v (Raise x) s (raise_right v x s)
refusals_listed_lem v (Resume x) s = right_of v (Resume x) s (resume_right v x s.frames s.held s.catches s.waiting s.last)
refusals_listed_lem v Rethrow s = right_of v Rethrow s (rethrow_right v s.frames s.held s.catches s.waiting s.last)
refusals_listed_lem v (Force x keep) s = right_of v (Force x keep) s (force_right v x keep s)
refusals_listed_lem v (Begin x) s = right_of v (Begin x) s (begin_right v x s.frames s.held s.catches s.waiting s.last)
refusals_listed_lem v End s = right_of v End s (end_right v s.frames s.held s.catches s.waiting s.last)
refusals_listed_lem v (Delete x) s = right_of v (Delete x) s (delete_right v x s)
refusals_listed_lem v Collect s = right_of v Collect s (collect_right v s.frames s.held s.catches s.waiting s.last)
