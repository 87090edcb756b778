-- raise, rethrow, force and resume keep the invariant.
use Rattle.std.proofs.Common.{◌≡◌, ℕ, suc, ◌≤◌, Bool, true, false, cond, eqb, ltb, leb, List, [], ◌∷◌, ◌++◌, length, ℤ, Some, None, Ok, Err, Option, Result, sym, refl, ap, ◌∙◌, subst, arith}
use lib.ListN.{length-map}
use Rattle.std.proofs.lemmas.Bool.{cond_both, eqb-true, eq-eqb, ne_eqb, lt-ltb, le-ltb, leb-true, leb-false, lt-leb, and_parts}
use Rattle.personality.specs.declared.verdict.Verdict.{Verdict}
use Rattle.personality.specs.declared.verdict.Verdict.TheVariants.{Nothing, Cleanup, Handler, Terminate, Broken}
use Rattle.calls.specs.declared.answer.Answer.{Answer}
use Rattle.calls.specs.declared.answer.Answer.TheVariants.{Stopped}
use Rattle.calls.specs.declared.answer.Kind.TheVariants as kind
use Rattle.calls.specs.declared.answer.Refusal.{Refusal}
use Rattle.calls.specs.declared.answer.Refusal.TheVariants.{PassedFence}
use Rattle.calls.specs.declared.call.Call.{Call}
use Rattle.calls.specs.declared.call.Call.TheVariants.{Raise, Resume, Rethrow, Force}
use Rattle.calls.specs.declared.exception.Catch.{Catch}
use Rattle.calls.specs.declared.exception.Exception.{Exception}
use Rattle.calls.specs.declared.exception.HeldException.{HeldException}
use Rattle.calls.specs.declared.frame.Activation.{Activation}
use Rattle.calls.specs.declared.frame.Frame.{Frame}
use Rattle.calls.specs.declared.frame.Goal.{Goal}
use Rattle.calls.specs.declared.frame.Goal.TheVariants as goal
use Rattle.calls.specs.declared.frame.Unwinding.{Unwinding}
use Rattle.rules.specs.Book.{Account, drop_all, answered, raised, entry, note}
use Rattle.rules.specs.Calls.{with_raiser, disown, set_off, raise, force, rethrow, resume}
use Rattle.rules.specs.Landings.{asked, cleanups, handlers, above_handler, above_kept, raise_list, force_list}
use Rattle.rules.specs.Lists.{given, has}
use Rattle.rules.specs.Search.{Verdicts, asks, judged, search_down, handler_for, fence, spares_fence, unless_broken, ask_down_to, stop_for}
use Rattle.rules.specs.State.{State, Outcome, find, own, raisers, unwinding, caught, holdings}
use Rattle.rules.specs.Walk.{forced, cleanup_pad, landing, close, gone, walk, walk_from}
use Rattle.rules.proofs.Closing.{besides, closed}
use Rattle.rules.proofs.Held.{names_own, raisers_own, find_serial, find_owned, find_all, all_own, owners_disown, raisers_disown, distinct_turn}
use Rattle.rules.proofs.Inv.{mk, bare_frames, bare_catches, made_serials, History, book_of, way, limit, when_not, Clear, Known, Paused, Chain, chain_at, Good}
use Rattle.rules.proofs.Lists.{given_both, has_both, has_left, has_right, has_here, has_skip, has_move, distinct_apart}
use Rattle.rules.proofs.Steps.{Follows, refuse_follows}
use Rattle.rules.proofs.Waits.{w_same}
use Rattle.rules.proofs.Walk.{Trip, book_at, ask, Goes, closed_place, walk_goes, lowest_skip, unwinding_some}

-- the landing lists are the ways

-- what the search finds
record Seen (ask : Frame → Verdict) (x : ℕ) (fs : List Activation) (g : Goal) : Type 0 where
  reach : limit g ≤ length fs
  clear : Clear g fs
  list : raise_list ask x (bare_frames fs) ≡ way ask x g (bare_frames fs)

-- one frame further up, with no handler there
further : (ask : Frame → Verdict) (x n pad : ℕ) (selector : ℤ) (f : Activation) (fs : List Activation) → f.cleanup ≡ None → Seen ask x fs (goal.Handler n pad selector)
    → raise_list ask x (bare_frames (f ∷ fs)) ≡ given (cleanup_pad (ask f.frame)) (raise_list ask x (bare_frames fs)) (λ p. landing x (length (bare_frames fs)) p kind.Cleanup ∷ raise_list ask x (bare_frames fs))
    → Seen ask x (f ∷ fs) (goal.Handler n pad selector)
unfolding way
further ask x n pad selector f fs m w e =
    let le = w.reach in
    let lm = length-map fs (λ (f : Activation). f.frame) in
    let ne : eqb (length fs) n ≡ false = ne_eqb (length fs) n (λ d. omega arith) in
    record { reach = omega arith; clear = rw ne (m, w.clear); list = e ∙ rw (w.list, lm, ne) }

abbrev goal_of : Result Goal Refusal → Goal
goal_of (Ok g) = g
goal_of (Err r) = goal.Keep 0

seen_here : (ask : Frame → Verdict) (x pad : ℕ) (selector : ℤ) (f : Activation) (fs : List Activation) → ask f.frame ≡ Handler pad selector → Seen ask x (f ∷ fs) (goal.Handler (length fs) pad selector)
unfolding way asked cleanups handlers above_handler
seen_here ask x pad selector f fs ev =
    let lm = length-map fs (λ (f : Activation). f.frame) in
    let eq = eq-eqb (length fs) (length fs) refl in
    record { reach = omega arith; clear = rw eq tt; list = rw (ev, lm, eq) }

search_at : (ask : Frame → Verdict) (x n pad : ℕ) (selector : ℤ) (f : Activation) (fs : List Activation) (vd : Verdict) (c : Option Unwinding) → ask f.frame ≡ vd → f.cleanup ≡ c
    → (search_down ask fs ≡ Ok (goal.Handler n pad selector) → Seen ask x fs (goal.Handler n pad selector))
    → judged vd (length fs) (given c (search_down ask fs) (λ _. Err PassedFence)) ≡ Ok (goal.Handler n pad selector) → Seen ask x (f ∷ fs) (goal.Handler n pad selector)
unfolding asked cleanups handlers above_handler
search_at ask x n pad selector f fs Nothing None ev ec ih e = further ask x n pad selector f fs ec (ih e) (rw ev)
search_at ask x n pad selector f fs Nothing (Some u) ev ec ih e = absurd cc
search_at ask x n pad selector f fs (Cleanup p) None ev ec ih e = further ask x n pad selector f fs ec (ih e) (rw ev)
search_at ask x n pad selector f fs (Cleanup p) (Some u) ev ec ih e = absurd cc
search_at ask x n pad selector f fs (Handler p t) c ev ec ih e = subst (Seen ask x (f ∷ fs)) (ap goal_of e) (seen_here ask x p t f fs ev)
search_at ask x n pad selector f fs Terminate c ev ec ih e = absurd cc
search_at ask x n pad selector f fs (Broken t) c ev ec ih e = absurd cc

search_sees : (ask : Frame → Verdict) (x n pad : ℕ) (selector : ℤ) (fs : List Activation) → search_down ask fs ≡ Ok (goal.Handler n pad selector) → Seen ask x fs (goal.Handler n pad selector)
unfolding search_down
search_sees ask x n pad selector [] e = absurd cc
search_sees ask x n pad selector (f ∷ fs) e = search_at ask x n pad selector f fs _ _ refl refl (search_sees ask x n pad selector fs) e

-- it finds handlers alone
pub search_not_keep : (ask : Frame → Verdict) (k : ℕ) (fs : List Activation) → search_down ask fs ≡ Ok (goal.Keep k) → ⊥
unfolding search_down
search_not_keep ask k [] e = cc
search_not_keep ask k (f ∷ fs) e = go (ask f.frame) f.cleanup (search_not_keep ask k fs) e
  where
    go : (vd : Verdict) (c : Option Unwinding) → (search_down ask fs ≡ Ok (goal.Keep k) → ⊥) → judged vd (length fs) (given c (search_down ask fs) (λ _. Err PassedFence)) ≡ Ok (goal.Keep k) → ⊥
    go Nothing None ih e = ih e
    go Nothing (Some u) ih e = cc
    go (Cleanup p) None ih e = ih e
    go (Cleanup p) (Some u) ih e = cc
    go (Handler p t) c ih e = cc
    go Terminate c ih e = cc
    go (Broken t) c ih e = cc

seen : (ask : Frame → Verdict) (x : ℕ) (g : Goal) (fs : List Activation) → search_down ask fs ≡ Ok g → Seen ask x fs g
seen ask x (goal.Handler n pad selector) fs e = search_sees ask x n pad selector fs e
seen ask x (goal.Keep k) fs e = absurd (search_not_keep ask k fs e)

-- no cleanup runs above what a force keeps
clear_at : (k : ℕ) (f : Activation) (fs : List Activation) (c : Option Unwinding) (t : Bool) → f.cleanup ≡ c → ltb (length fs) k ≡ t
    → (spares_fence k (fence fs) ≡ true → Clear (goal.Keep k) fs)
    → spares_fence k (given c (fence fs) (λ _. Some (length fs))) ≡ true → when_not t ((f.cleanup ≡ None) × Clear (goal.Keep k) fs)
clear_at k f fs c true ec et ih e = tt
clear_at k f fs None false ec et ih e = (ec, ih e)
clear_at k f fs (Some u) false ec et ih e = absurd cc

clear_force : (k : ℕ) (fs : List Activation) → spares_fence k (fence fs) ≡ true → Clear (goal.Keep k) fs
unfolding fence
clear_force k [] e = tt
clear_force k (f ∷ fs) e = clear_at k f fs f.cleanup (ltb (length fs) k) refl refl (clear_force k fs) e

-- nothing stands above all frames
above_kept_none : (ask : Frame → Verdict) (k : ℕ) (fs : List Frame) → length fs ≤ k → above_kept k (asked ask fs) ≡ []
unfolding above_kept asked
above_kept_none ask k [] le = refl
above_kept_none ask k (f ∷ fs) le = rw (lt-leb k (length fs) (omega arith)) (above_kept_none ask k fs (omega arith))

force_way : (ask : Frame → Verdict) (x k : ℕ) (fs : List Frame) → force_list ask x k fs ≡ way ask x (goal.Keep k) fs
unfolding way asked above_kept cleanups
force_way ask x k [] = refl
force_way ask x k (f ∷ fs) = go (leb k (length fs)) refl (ask f) (force_way ask x k fs)
  where
    go : (t : Bool) → leb k (length fs) ≡ t → (vd : Verdict) → force_list ask x k fs ≡ way ask x (goal.Keep k) fs
        → cleanups x (cond t (record { number = length fs; verdict = vd } ∷ above_kept k (asked ask fs)) (above_kept k (asked ask fs))) ++ (Stopped x ∷ [])
        ≡ cond (ltb (length fs) k) (Stopped x ∷ []) (given (cleanup_pad vd) (way ask x (goal.Keep k) fs) (λ pad. landing x (length fs) pad kind.Cleanup ∷ way ask x (goal.Keep k) fs))
    go false e vd ih = let l = leb-false k (length fs) e in rw (lt-ltb (length fs) k l, above_kept_none ask k fs (omega arith))
    go true e Nothing ih = let l = leb-true k (length fs) e in rw (le-ltb (length fs) k l) ih
    go true e (Cleanup p) ih = let l = leb-true k (length fs) e in rw (le-ltb (length fs) k l) (ap (λ r. landing x (length fs) p kind.Cleanup ∷ r) ih)
    go true e (Handler p s) ih = let l = leb-true k (length fs) e in rw (le-ltb (length fs) k l) ih
    go true e Terminate ih = let l = leb-true k (length fs) e in rw (le-ltb (length fs) k l) ih
    go true e (Broken t) ih = let l = leb-true k (length fs) e in rw (le-ltb (length fs) k l) ih

-- what the first phase answers

pub good_of : (b : Bool) (r : Result Goal Refusal) (n : Refusal) (g : Goal) → cond b r (Err n) ≡ Ok g → (b ≡ true) × (r ≡ Ok g)
good_of true r n g e = (refl, e)
good_of false r n g e = absurd cc

pub down_to : (ask : Frame → Verdict) (k : ℕ) (g : Goal) (fs : List Activation) → ask_down_to ask k fs ≡ Ok g → goal.Keep k ≡ g
unfolding ask_down_to
down_to ask k g [] e = cc
down_to ask k g (f ∷ fs) e = go (ltb (length fs) k) (ask f.frame) (down_to ask k g fs) e
  where
    go : (b : Bool) (vd : Verdict) → (ask_down_to ask k fs ≡ Ok g → goal.Keep k ≡ g) → cond b (Ok (goal.Keep k)) (unless_broken vd (length fs) (ask_down_to ask k fs)) ≡ Ok g → goal.Keep k ≡ g
    go true vd ih e = cc
    go false Nothing ih e = ih e
    go false (Cleanup p) ih e = ih e
    go false (Handler p s) ih e = ih e
    go false Terminate ih e = ih e
    go false (Broken t) ih e = absurd cc

-- what the walk answers is noted

goes_follows : (v : Verdicts) (s : State) (h : History) (j : Trip) (g : Goal) (c : Call) (r : Outcome) → j.v ≡ v → Goes j g r
    → entry v c r.answer (book_of s h) ≡ answered j.e.serial r.answer (book_at j g) → Follows v s h c r
goes_follows v s h j g c r ev w en =
    record { later = w.later; good = subst (λ v. Good v r.after w.later) ev w.good; reads = unfold note in rw w.accepted (en ∙ w.reads) }

module _ (v : Verdicts) (s : State) (h : History) (gd : Good v s h) (e : Exception) (k : Known h.made e) where
  -- an unwinding of e begins
  abbrev trip : List Answer → Trip
  trip list =
      record {
        v = v;
        e = e;
        frames = bare_frames s.frames;
        made = h.made;
        raisers = drop_all e.serial h.raisers;
        list = list;
        said = [];
        rest = h.running;
        ended = h.ended;
        catches = bare_catches s.catches;
        waiting = s.waiting;
        collected = h.collected;
        done = gd.done;
        no_end = tt;
        known_as = k;
      }

  begins : (g : Goal) (list : List Answer) → has e.serial (holdings s) ≡ true → has e.serial (unwinding s.frames) ≡ false
      → limit g ≤ length s.frames → Clear g s.frames
      → list ≡ way (asks v e (forced g)) e.serial g (bare_frames s.frames)
      → Goes (trip list) g (walk_from v (record { exception = e; goal = g }) (disown e.serial s))
  begins g list hx nu le cl way' =
      walk_goes (trip list) g s.frames (own false x s.held) s.catches s.waiting s.last
      (record {
        tall = gd.tall;
        ordered = gd.ordered;
        reach = le;
        clear = cl;
        way_on = way';
        chain = gd.chain;
        waits = rw (names_own false x s.held) (w_same _ _ (holdings s) _ _ _ _ (λ y. turned y (eqb y x) refl) gd.waits);
        apart = rw (raisers_disown x s.held gd.waits.once) (distinct_turn x (raisers s.held) (unwinding s.frames) gd.apart nu);
        owners = owners_disown h.raisers x s.held gd.owners gd.waits.once;
        known_held = all_own (λ r. Known h.made r.exception) (λ r b p. p) false x s.held gd.known_held;
        known_caught = gd.known_caught;
        lands = λ m le. refl;
        closes = λ m le. refl;
      })
    where
      x : ℕ
      x = e.serial

      turned : (y : ℕ) (b : Bool) → eqb y x ≡ b → has y (besides x (own false x s.held) s.frames ++ caught s.catches) ≡ has y (holdings s)
      turned y true eb = rw (eqb-true y x eb) (has_here x _ ∙ sym hx)
      turned y false eb =
          has_skip y x ((raisers (own false x s.held) ++ unwinding s.frames) ++ caught s.catches) eb
          ∙ has_both y (raisers (own false x s.held) ++ unwinding s.frames) (raisers s.held ++ unwinding s.frames) (caught s.catches) (caught s.catches)
          (has_both y (raisers (own false x s.held)) (raisers s.held) (unwinding s.frames) (unwinding s.frames) (raisers_own y false x s.held eb) refl) refl

  -- a raise or rethrow
  throws : (c : Call) → has e.serial (holdings s) ≡ true → has e.serial (unwinding s.frames) ≡ false
      → ((a : Answer) → entry v c a (book_of s h) ≡ raised v e.serial a (book_of s h)) → (w : Result Goal Refusal) → handler_for v e s ≡ w
      → Follows v s h c (set_off v e w s)
  throws c hx nu en (Err r) f = refuse_follows v h s _ r gd
  throws c hx nu en (Ok (goal.Keep m)) f = absurd (search_not_keep (asks v e false) m s.frames (good_of _ _ _ _ f).1)
  throws c hx nu en (Ok (goal.Handler n pad selector)) f =
      let w = seen (asks v e false) e.serial (goal.Handler n pad selector) s.frames (good_of _ _ _ _ f).1 in
      goes_follows v s h (trip _) (goal.Handler n pad selector) c _ refl (begins (goal.Handler n pad selector) _ hx nu w.reach w.clear w.list) (en _ ∙ rw k)

  forces : (keep : ℕ) → has e.serial (holdings s) ≡ true → has e.serial (unwinding s.frames) ≡ false → (w : Result Goal Refusal) → stop_for v e keep s ≡ w
      → Follows v s h (Force e.serial keep) (set_off v e w s)
  forces keep hx nu (Err r) f = refuse_follows v h s _ r gd
  forces keep hx nu (Ok g) f =
      let t = good_of _ _ _ _ f in
      let ts = and_parts _ _ t.0 in
      subst (λ g. Follows v s h (Force e.serial keep) (set_off v e (Ok g) s)) (down_to (asks v e true) keep g s.frames t.1)
      (goes_follows v s h (trip _) (goal.Keep keep) (Force e.serial keep) _ refl
      (begins (goal.Keep keep) _ hx nu (leb-true _ _ ts.0) (clear_force keep s.frames ts.1) (force_way (asks v e true) e.serial keep (bare_frames s.frames)))
      (rw k))

-- the exception that a call names is with its raiser, which holds it, and does not unwind; or the call is refused
raiser_follows : (v : Verdicts) (s : State) (h : History) (x : ℕ) (c : ℕ → Call) (act : Exception → Outcome) → Good v s h
    → ((e : Exception) → Known h.made e → has e.serial (holdings s) ≡ true → has e.serial (unwinding s.frames) ≡ false → Follows v s h (c e.serial) (act e))
    → Follows v s h (c x) (with_raiser x s act)
raiser_follows v s h x c act gd k =
    given_both (find x s.held) _ _ (Follows v s h (c x))
    (λ _. cond_both (has x s.waiting) _ _ (Follows v s h (c x)) (λ _. refuse_follows v h s _ _ gd) (λ _. refuse_follows v h s _ _ gd))
    (λ r f. cond_both r.owned _ _ (Follows v s h (c x))
    (λ t. let o = find_owned x s.held r f t in
    subst (λ y. Follows v s h (c y) (act r.exception)) (find_serial x s.held r f)
    (k r.exception (find_all (λ r. Known h.made r.exception) x s.held r f gd.known_held)
    (has_left r.exception.serial _ (caught s.catches) (has_left r.exception.serial _ (unwinding s.frames) o))
    (distinct_apart r.exception.serial (raisers s.held) (unwinding s.frames) gd.apart o)))
    (λ _. refuse_follows v h s _ _ gd))

pub raise_follows : (v : Verdicts) (s : State) (h : History) (x : ℕ) → Good v s h → Follows v s h (Raise x) (raise v x s)
raise_follows v s h x gd = raiser_follows v s h x Raise _ gd (λ e k hx nu. throws v s h gd e k (Raise e.serial) hx nu (λ a. refl) _ refl)

pub force_follows : (v : Verdicts) (s : State) (h : History) (x keep : ℕ) → Good v s h → Follows v s h (Force x keep) (force v x keep s)
force_follows v s h x keep gd = raiser_follows v s h x (λ y. Force y keep) _ gd (λ e k hx nu. forces v s h gd e k keep hx nu _ refl)

pub rethrow_follows : (v : Verdicts) (fs : List Activation) (hs : List HeldException) (cs : List Catch) (q : List ℕ) (n : ℕ) (h : History)
    → Good v (mk fs hs cs q n) h → Follows v (mk fs hs cs q n) h Rethrow (rethrow v (mk fs hs cs q n))
rethrow_follows v fs hs [] q n h gd = refuse_follows v h _ _ _ gd
rethrow_follows v fs hs (c ∷ cs) q n h gd =
    let x = c.exception.serial in
    cond_both c.begun _ _ (Follows v (mk fs hs (c ∷ cs) q n) h Rethrow)
    (λ _. cond_both (has x (unwinding fs)) _ _ (Follows v (mk fs hs (c ∷ cs) q n) h Rethrow)
    (λ _. refuse_follows v h _ _ _ gd)
    (λ nu. throws v (mk fs hs (c ∷ cs) q n) h gd c.exception gd.known_caught.0 Rethrow (has_right x (raisers hs ++ unwinding fs) (x ∷ caught cs) (has_here x (caught cs))) nu (λ a. refl) _ refl))
    (λ _. refuse_follows v h _ _ _ gd)

-- the cleanup's frame goes, and the walk goes on
resumes : (v : Verdicts) (f : Activation) (fs : List Activation) (hs : List HeldException) (cs : List Catch) (q : List ℕ) (n x : ℕ) (u : Unwinding) (w : Account) (us : List Account) (h : History)
    → h.running ≡ w ∷ us → Good v (mk (f ∷ fs) hs cs q n) h → f.cleanup ≡ Some u → Paused v h.made u fs w → Chain v h.made fs us → x ≡ u.exception.serial
    → Follows v (mk (f ∷ fs) hs cs q n) h (Resume x) (walk (asks v u.exception (forced u.goal)) u fs (gone u.exception.serial fs (mk (f ∷ fs) hs cs q n)))
resumes v f fs hs cs q n x u w us h er gd ec pd ch ex =
    let y = u.exception.serial in
    let j : Trip = record {
      v = v;
      e = u.exception;
      frames = bare_frames (f ∷ fs);
      made = h.made;
      raisers = h.raisers;
      list = w.list;
      said = w.answers;
      rest = us;
      ended = h.ended;
      catches = bare_catches cs;
      waiting = q;
      collected = h.collected;
      done = gd.done;
      no_end = pd.no_end;
      known_as = pd.known_as;
    } in
    let lm = length-map fs (λ (f : Activation). f.frame) in
    let c = closed (made_serials h.made) h.collected (Known h.made) y (length fs) fs n (suc (length fs)) cs gd.ordered hs q
    (record {
      waits = w_same _ _ (holdings (mk (f ∷ fs) hs cs q n)) _ _ _ _
          (λ z. rw (unwinding_some f fs u ec) (sym (has_both z (raisers hs ++ (y ∷ unwinding fs)) (y ∷ (raisers hs ++ unwinding fs)) (caught cs) (caught cs) (has_move z y (raisers hs) (unwinding fs)) refl))) gd.waits;
      known_held = gd.known_held;
      known_caught = gd.known_caught;
    }) in
    let t : State = close y (length fs) cs (mk fs hs cs q n) in
    goes_follows v (mk (f ∷ fs) hs cs q n) h j u.goal (Resume x) _ refl
    (subst (λ s. Goes j u.goal (walk (ask j u.goal) u fs s)) (sym c.shape)
    (walk_goes j u.goal fs t.held t.catches t.waiting n
    (closed_place j u.goal fs hs cs q n (suc (length fs)) t c ch gd.owners gd.ordered (let l = gd.tall in omega arith) (rw (unwinding_some f fs u ec) at gd.apart) pd.reach pd.clear pd.rest
    (λ m le. lowest_skip m f.frame (bare_frames fs) (omega arith))
    (λ m le. refl))))
    (rw (ex, er, ← pd.same, ← pd.keep_is))

pub resume_follows : (v : Verdicts) (fs : List Activation) (hs : List HeldException) (cs : List Catch) (q : List ℕ) (n x : ℕ) (h : History)
    → Good v (mk fs hs cs q n) h → Follows v (mk fs hs cs q n) h (Resume x) (resume v x (mk fs hs cs q n))
resume_follows v [] hs cs q n x h gd = refuse_follows v h _ _ _ gd
resume_follows v (f ∷ fs) hs cs q n x h gd =
    given_both f.cleanup _ _ (Follows v (mk (f ∷ fs) hs cs q n) h (Resume x))
    (λ _. refuse_follows v h _ _ _ gd)
    (λ u ec. cond_both (eqb x u.exception.serial) _ _ (Follows v (mk (f ∷ fs) hs cs q n) h (Resume x))
    (λ e. go u ec h.running refl (subst (λ c. chain_at v h.made c fs (Chain v h.made fs) h.running) ec gd.chain) (eqb-true x u.exception.serial e))
    (λ _. refuse_follows v h _ _ _ gd))
  where
    go : (u : Unwinding) → f.cleanup ≡ Some u → (us : List Account) → h.running ≡ us → chain_at v h.made (Some u) fs (Chain v h.made fs) us → x ≡ u.exception.serial
        → Follows v (mk (f ∷ fs) hs cs q n) h (Resume x) (walk (asks v u.exception (forced u.goal)) u fs (gone u.exception.serial fs (mk (f ∷ fs) hs cs q n)))
    go u ec [] er ch ex = absurd ch
    go u ec (w ∷ us) er ch ex = resumes v f fs hs cs q n x u w us h er gd ec ch.0 ch.1 ex
