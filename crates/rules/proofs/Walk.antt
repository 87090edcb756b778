-- The walk keeps the invariant: one lemma for raise, rethrow, force and resume.
use Rattle.std.proofs.Common.{◌≡◌, ℕ, suc, ◌≤◌, Bool, true, false, cond, eqb, ◌≢◌, List, [], ◌∷◌, ◌++◌, length, ℤ, Some, None, Option, sym, refl, ap, ◌∙◌, subst, append_assoc, arith}
use lib.ListN.{length-map}
use Rattle.std.proofs.lemmas.Bool.{eqb-true, eqb-false, eq-eqb, ltb-true, ltb-false, lt-ltb, le-ltb}
use Rattle.personality.specs.declared.verdict.Verdict.{Verdict}
use Rattle.calls.specs.declared.answer.Answer.{Answer}
use Rattle.calls.specs.declared.answer.Kind.TheVariants as kind
use Rattle.calls.specs.declared.exception.Catch.{Catch}
use Rattle.calls.specs.declared.exception.Exception.{Exception}
use Rattle.calls.specs.declared.exception.HeldException.{HeldException}
use Rattle.calls.specs.declared.frame.Activation.{Activation}
use Rattle.calls.specs.declared.frame.Frame.{Frame}
use Rattle.calls.specs.declared.frame.Goal.{Goal}
use Rattle.calls.specs.declared.frame.Goal.TheVariants as goal
use Rattle.calls.specs.declared.frame.Unwinding.{Unwinding}
use Rattle.rules.specs.Book.{Book, Account, Caught, serials, catchers, lost, lowest, below, above, add_answer, account_of, other_accounts, keep_of, answered, refused}
use Rattle.rules.specs.Laws.{Ordered}
use Rattle.rules.specs.Lists.{given, has, All, Distinct}
use Rattle.rules.specs.Promise.{Whole, EndsLast, ends}
use Rattle.rules.specs.Search.{Verdicts, asks}
use Rattle.rules.specs.State.{State, Outcome, own, raisers, unwinding, caught}
use Rattle.rules.specs.Walk.{at_place, close, gone, cleanup_pad, reached, forced, landing, clean_up, arrive, walk}
use Rattle.rules.proofs.Closing.{lost_same, cut, cut_same, cut_fixed, cut_twice, besides, Closed, closed}
use Rattle.rules.proofs.Held.{names, names_own, raisers_own, raised_own, all_own, owners_own, distinct_back}
use Rattle.rules.proofs.Inv.{mk, bare_frames, bare_catches, made_serials, History, book_of, arrival, way, limit, keeps, when_not, Clear, Known, Chain, chain_at, Good}
use Rattle.rules.proofs.Lists.{all_append, has_append, has_cons, has_both, has_left, has_here, has_skip, has_move, distinct_drop}
use Rattle.rules.proofs.Steps.{unwinding_chain}
use Rattle.rules.proofs.Waits.{W, w_same}

-- the account of the unwinding of x, at the head of those that are running

abbrev pub account : ℕ → ℕ → List Answer → List Answer → Account
account x keep list said = record { serial = x; keep = keep; list = list; answers = said }

pub tell_head : (x k : ℕ) (list said : List Answer) (us : List Account) (a : Answer) → add_answer x a (account x k list said ∷ us) ≡ account x k list (said ++ (a ∷ [])) ∷ us
unfolding add_answer
tell_head x k list said us a = rw (eq-eqb x x refl)

pub that_head : (x k : ℕ) (list said : List Answer) (us : List Account) → account_of x (account x k list said ∷ us) ≡ account x k list said ∷ []
unfolding account_of
that_head x k list said us = rw (eq-eqb x x refl)

others_head : (x k : ℕ) (list said : List Answer) (us : List Account) → other_accounts x (account x k list said ∷ us) ≡ us
unfolding other_accounts
others_head x k list said us = rw (eq-eqb x x refl)

keep_head : (x k : ℕ) (list said : List Answer) (us : List Account) → keep_of x (account x k list said ∷ us) ≡ k
unfolding keep_of
keep_head x k list said us = rw (eq-eqb x x refl)

-- its answers

ends_last : (said : List Answer) (a : Answer) → All (λ a. ends a ≡ false) said → ends a ≡ true → EndsLast (said ++ (a ∷ []))
ends_last [] a p e = e
ends_last (b ∷ []) a p e = (p.0, e)
ends_last (b ∷ (c ∷ said)) a p e = (p.0, ends_last (c ∷ said) a p.1 e)

snoc_some : (said : List Answer) (a : Answer) → said ++ (a ∷ []) ≢ []
snoc_some [] a e = absurd cc
snoc_some (b ∷ said) a e = absurd cc

-- the book's frames

pub lowest_skip : (n : ℕ) (f : Frame) (fs : List Frame) → n ≤ length fs → lowest n (f ∷ fs) ≡ lowest n fs
unfolding lowest
lowest_skip n f fs le = rw (le-ltb (length fs) n le)

lowest_all : (n : ℕ) (fs : List Frame) → length fs ≤ n → lowest n fs ≡ fs
unfolding lowest
lowest_all n [] le = refl
lowest_all n (f ∷ fs) le = rw (lt-ltb (length fs) n le)

-- the state's unwindings

pub unwinding_none : (f : Activation) (fs : List Activation) → f.cleanup ≡ None → unwinding (f ∷ fs) ≡ unwinding fs
unfolding unwinding
unwinding_none f fs e = rw e

pub unwinding_some : (f : Activation) (fs : List Activation) (u : Unwinding) → f.cleanup ≡ Some u → unwinding (f ∷ fs) ≡ u.exception.serial ∷ unwinding fs
unfolding unwinding
unwinding_some f fs u e = rw e

unwinding_place : (p : ℕ) (f : Activation) (fs : List Activation) → unwinding (at_place p (f ∷ fs)) ≡ unwinding (f ∷ fs)
unfolding unwinding
unwinding_place p f fs = refl

-- one frame fewer to the goal
nearer : (g : Goal) (n : ℕ) → reached g n ≡ false → limit g ≤ suc n → limit g ≤ n
nearer (goal.Handler frame pad selector) n e le = let ne = eqb-false n frame e in omega arith
nearer (goal.Keep k) n e le = ltb-false n k e

-- a walk: the exception, and the book as the walk begins, with what its account has so far
pub record Trip : Type 0 where
  pub v : Verdicts
  pub e : Exception
  pub frames : List Frame
  pub made : List Exception
  pub raisers : List ℕ
  pub list : List Answer
  pub said : List Answer
  pub rest : List Account
  pub ended : List Account
  pub catches : List Caught
  pub waiting : List ℕ
  pub collected : List ℕ
  pub done : All Whole ended
  pub no_end : All (λ a. ends a ≡ false) said
  pub known_as : Known made e

abbrev pub book_at : Trip → Goal → Book
book_at j g =
    record {
      frames = j.frames;
      made = j.made;
      raisers = j.raisers;
      running = account j.e.serial (keeps g) j.list j.said ∷ j.rest;
      ended = j.ended;
      catches = j.catches;
      waiting = j.waiting;
      collected = j.collected;
    }

abbrev pub ask : Trip → Goal → Frame → Verdict
ask j g = asks j.v j.e (forced g)

-- who has another holder than a catch
abbrev pub otherwise : Trip → List ℕ
otherwise j = j.e.serial ∷ (j.raisers ++ serials j.rest)

-- the walk's answer is noted as the state has it
pub record Goes (j : Trip) (g : Goal) (r : Outcome) : Type 0 where
  pub accepted : refused r.answer ≡ false
  pub later : History
  pub good : Good j.v r.after later
  pub reads : answered j.e.serial r.answer (book_at j g) ≡ book_of r.after later

-- what is known of a place on the walk: frames, held exceptions, catches, waiting line and last serial are the state's there
pub record Place (j : Trip) (g : Goal) (fs : List Activation) (hs : List HeldException) (cs : List Catch) (q : List ℕ) (n : ℕ) : Type 0 where
  pub tall : length fs ≤ 64
  pub ordered : Ordered (length fs) cs
  -- the goal is still to come, with no cleanup before it, and the rest of the landing list is the way there
  pub reach : limit g ≤ length fs
  pub clear : Clear g fs
  pub way_on : j.list ≡ j.said ++ way (ask j g) j.e.serial g (bare_frames fs)
  pub chain : Chain j.v j.made fs j.rest
  pub waits : W (made_serials j.made) (names hs) (besides j.e.serial hs fs ++ caught cs) q j.collected n
  pub apart : Distinct (raisers hs ++ (j.e.serial ∷ unwinding fs))
  pub owners : (y : ℕ) → has y j.raisers ≡ has y (raisers hs)
  pub known_held : All (λ r. Known j.made r.exception) hs
  pub known_caught : All (λ c. Known j.made c.exception) cs
  -- from here on the book takes off frames and closes catches as it would from the walk's begin
  pub lands : (m : ℕ) → m ≤ length fs → lowest m j.frames ≡ lowest m (bare_frames fs)
  pub closes : (m : ℕ) → m ≤ length fs → cut (otherwise j) m j.catches j.waiting ≡ cut (otherwise j) m (bare_catches cs) q

-- the unwindings of the book are those of the state
same_besides : (j : Trip) (fs : List Activation) (hs : List HeldException) → Chain j.v j.made fs j.rest → ((y : ℕ) → has y j.raisers ≡ has y (raisers hs))
    → (y : ℕ) → has y (besides j.e.serial hs fs) ≡ has y (otherwise j)
same_besides j fs hs c o y =
    rw (
      unwinding_chain j.v j.made fs j.rest c,
      has_cons y j.e.serial (raisers hs ++ serials j.rest),
      has_cons y j.e.serial (j.raisers ++ serials j.rest),
      has_append y (raisers hs) (serials j.rest),
      has_append y j.raisers (serials j.rest),
      o y,
    )

module _ (j : Trip) (g : Goal) (fs : List Activation) (hs : List HeldException) (cs : List Catch) (q : List ℕ) (n : ℕ) (at : Place j g fs hs cs q n) where
  -- at a place where all catches stand, the book closes down to it
  closes_here : cut (otherwise j) (length fs) j.catches j.waiting ≡ (bare_catches cs, q)
  closes_here = at.closes (length fs) (omega arith) ∙ cut_fixed (otherwise j) (length fs) cs q at.ordered

  -- the same, with the holders in another order
  kept_here : below (length fs) j.catches ≡ bare_catches cs
  kept_here = ap (λ r. r.0) closes_here

  waiting_here : (H : List ℕ) → ((y : ℕ) → has y H ≡ has y (otherwise j ++ catchers (below (length fs) j.catches)))
      → j.waiting ++ lost H (catchers (above (length fs) j.catches)) ≡ q
  waiting_here H e = ap (λ l. j.waiting ++ l) (lost_same H _ (catchers (above (length fs) j.catches)) e) ∙ ap (λ r. r.1) closes_here

-- a cleanup runs in the frame f
lands_at : (j : Trip) (g : Goal) (f : Activation) (fs : List Activation) (hs : List HeldException) (cs : List Catch) (q : List ℕ) (n pad : ℕ) → Place j g (f ∷ fs) hs cs q n
    → reached g (length fs) ≡ false
    → j.list ≡ j.said ++ (landing j.e.serial (length fs) pad kind.Cleanup ∷ way (ask j g) j.e.serial g (bare_frames fs))
    → f.cleanup ≡ None → Clear g fs
    → Goes j g (clean_up (record { exception = j.e; goal = g }) f fs pad (mk (f ∷ fs) hs cs q n))
lands_at j g f fs hs cs q n pad at nr way' m cl =
    let x = j.e.serial in
    let a : Answer = landing x (length fs) pad kind.Cleanup in
    let u : Unwinding = record { exception = j.e; goal = g } in
    let f' : Activation = record { frame = record { unit = f.frame.unit; place = pad }; cleanup = Some u } in
    let ch : Chain j.v j.made fs j.rest = subst (λ c. chain_at j.v j.made c fs (Chain j.v j.made fs) j.rest) m at.chain in
    let lm = length-map fs (λ (f : Activation). f.frame) in
    record {
      accepted = refl;
      later = record { made = j.made; raisers = j.raisers; running = account x (keeps g) j.list (j.said ++ (a ∷ [])) ∷ j.rest; ended = j.ended; collected = j.collected };
      good = record {
        chain = (
          record {
            same = refl;
            keep_is = refl;
            reach = nearer g (length fs) nr at.reach;
            clear = cl;
            rest = way' ∙ sym (append_assoc j.said _ _);
            some = snoc_some j.said a;
            no_end = all_append _ j.said (a ∷ []) j.no_end (refl, tt);
            known_as = j.known_as;
          },
          ch,
        );
        tall = at.tall;
        ordered = at.ordered;
        done = j.done;
        waits = w_same _ _ (besides x hs (f ∷ fs) ++ caught cs) _ _ _ _
            (λ y. rw (unwinding_some f' fs u refl, unwinding_none f fs m)
            (has_both y (raisers hs ++ (x ∷ unwinding fs)) (x ∷ (raisers hs ++ unwinding fs)) (caught cs) (caught cs) (has_move y x (raisers hs) (unwinding fs)) refl)) at.waits;
        apart = rw (unwinding_some f' fs u refl, ← (unwinding_none f fs m)) at.apart;
        owners = at.owners;
        known_held = at.known_held;
        known_caught = at.known_caught;
      };
      reads = rw (
        tell_head x (keeps g) j.list j.said j.rest a,
        at.lands (suc (length fs)) (omega arith),
        lowest_all (suc (length fs)) (bare_frames (f ∷ fs)) (omega arith),
        waiting_here j g (f ∷ fs) hs cs q n at ((j.raisers ++ (x ∷ serials j.rest)) ++ catchers (below (suc (length fs)) j.catches))
            (λ y. has_both y (j.raisers ++ (x ∷ serials j.rest)) (otherwise j) _ (catchers (below (suc (length fs)) j.catches)) (has_move y x j.raisers (serials j.rest)) refl),
        kept_here j g (f ∷ fs) hs cs q n at,
      );
    }

-- the unwinding comes to its handler, in the frame f
handles : (j : Trip) (frame pad : ℕ) (selector : ℤ) (f : Activation) (fs : List Activation) (hs : List HeldException) (cs : List Catch) (q : List ℕ) (n : ℕ) → Place j (goal.Handler frame pad selector) (f ∷ fs) hs cs q n
    → length fs ≡ frame
    → j.list ≡ j.said ++ (arrival j.e.serial (goal.Handler frame pad selector) ∷ [])
    → Goes j (goal.Handler frame pad selector) (arrive j.e (goal.Handler frame pad selector) (mk (f ∷ fs) hs cs q n))
handles j frame pad selector f fs hs cs q n at eh way' =
    let x = j.e.serial in
    let a : Answer = landing x frame pad (kind.Handler selector) in
    let lm = length-map fs (λ (f : Activation). f.frame) in
    record {
      accepted = refl;
      later = record { made = j.made; raisers = j.raisers; running = j.rest; ended = account x 0 j.list (j.said ++ (a ∷ [])) ∷ j.ended; collected = j.collected };
      good = record {
        chain = at.chain;
        tall = at.tall;
        ordered = (omega arith, rw (← eh) at.ordered);
        done = (record { all = sym way'; by_its_end = ends_last j.said a j.no_end refl }, j.done);
        waits = w_same _ _ (besides x hs (f ∷ fs) ++ caught cs) _ _ _ _
            (λ y. rw (unwinding_place pad f fs) (has_move y x (raisers hs ++ unwinding (f ∷ fs)) (caught cs))) at.waits;
        apart = rw (unwinding_place pad f fs) (distinct_drop x (raisers hs) (unwinding (f ∷ fs)) at.apart);
        owners = at.owners;
        known_held = at.known_held;
        known_caught = (j.known_as, at.known_caught);
      };
      reads = rw (
        tell_head x 0 j.list j.said j.rest a,
        others_head x 0 j.list (j.said ++ (a ∷ [])) j.rest,
        that_head x 0 j.list (j.said ++ (a ∷ [])) j.rest,
        ← eh,
        at.lands (suc (length fs)) (omega arith),
        lowest_all (suc (length fs)) (bare_frames (f ∷ fs)) (omega arith),
        waiting_here j (goal.Handler frame pad selector) (f ∷ fs) hs cs q n at ((j.raisers ++ serials j.rest) ++ (x ∷ catchers (below (suc (length fs)) j.catches)))
            (λ y. has_move y x (j.raisers ++ serials j.rest) (catchers (below (suc (length fs)) j.catches))),
        kept_here j (goal.Handler frame pad selector) (f ∷ fs) hs cs q n at,
      );
    }

-- a forced unwinding has come to its end
stops : (j : Trip) (k : ℕ) (fs : List Activation) (hs : List HeldException) (cs : List Catch) (q : List ℕ) (n : ℕ) → Place j (goal.Keep k) fs hs cs q n
    → k ≡ length fs
    → j.list ≡ j.said ++ (arrival j.e.serial (goal.Keep k) ∷ [])
    → Goes j (goal.Keep k) (arrive j.e (goal.Keep k) (mk fs hs cs q n))
stops j k fs hs cs q n at ek way' =
    let x = j.e.serial in
    let a : Answer = arrival x (goal.Keep k) in
    let lm = length-map fs (λ (f : Activation). f.frame) in
    record {
      accepted = refl;
      later = record { made = j.made; raisers = x ∷ j.raisers; running = j.rest; ended = account x k j.list (j.said ++ (a ∷ [])) ∷ j.ended; collected = j.collected };
      good = record {
        chain = at.chain;
        tall = at.tall;
        ordered = at.ordered;
        done = (record { all = sym way'; by_its_end = ends_last j.said a j.no_end refl }, j.done);
        waits = rw (names_own true x hs) (w_same _ _ (besides x hs fs ++ caught cs) _ _ _ _ back at.waits);
        apart = distinct_back x (unwinding fs) hs at.apart;
        owners = owners_own j.raisers x hs at.owners inside;
        known_held = all_own (λ r. Known j.made r.exception) (λ r b p. p) true x hs at.known_held;
        known_caught = at.known_caught;
      };
      reads = rw (
        tell_head x k j.list j.said j.rest a,
        others_head x k j.list (j.said ++ (a ∷ [])) j.rest,
        that_head x k j.list (j.said ++ (a ∷ [])) j.rest,
        keep_head x k j.list (j.said ++ (a ∷ [])) j.rest,
        ek,
        at.lands (length fs) (omega arith),
        lowest_all (length fs) (bare_frames fs) (omega arith),
        waiting_here j (goal.Keep k) fs hs cs q n at (otherwise j ++ catchers (below (length fs) j.catches)) (λ y. refl),
        kept_here j (goal.Keep k) fs hs cs q n at,
      );
    }
  where
    inside : has j.e.serial (names hs) ≡ true
    inside = at.waits.held j.e.serial ∙ has_here j.e.serial ((raisers hs ++ unwinding fs) ++ caught cs)

    back : (y : ℕ) → has y ((raisers (own true j.e.serial hs) ++ unwinding fs) ++ caught cs) ≡ has y (besides j.e.serial hs fs ++ caught cs)
    back y = has_both y _ (besides j.e.serial hs fs) (caught cs) (caught cs) (go (eqb y j.e.serial) refl) refl
      where
        go : (b : Bool) → eqb y j.e.serial ≡ b → has y (raisers (own true j.e.serial hs) ++ unwinding fs) ≡ has y (besides j.e.serial hs fs)
        go true eb =
            rw (eqb-true y j.e.serial eb)
            (has_left j.e.serial (raisers (own true j.e.serial hs)) (unwinding fs) (raised_own j.e.serial hs inside) ∙ sym (has_here j.e.serial (raisers hs ++ unwinding fs)))
        go false eb =
            has_both y (raisers (own true j.e.serial hs)) (raisers hs) (unwinding fs) (unwinding fs) (raisers_own y true j.e.serial hs eb) refl
            ∙ sym (has_skip y j.e.serial (raisers hs ++ unwinding fs) eb)

arrives : (j : Trip) (g : Goal) (f : Activation) (fs : List Activation) (hs : List HeldException) (cs : List Catch) (q : List ℕ) (n : ℕ) → Place j g (f ∷ fs) hs cs q n
    → reached g (length fs) ≡ true
    → j.list ≡ j.said ++ (arrival j.e.serial g ∷ [])
    → Goes j g (arrive j.e g (mk (f ∷ fs) hs cs q n))
arrives j (goal.Handler frame pad selector) f fs hs cs q n at e way' = handles j frame pad selector f fs hs cs q n at (eqb-true (length fs) frame e) way'
arrives j (goal.Keep k) f fs hs cs q n at e way' =
    let lt = ltb-true (length fs) k e in
    let le = at.reach in
    stops j k (f ∷ fs) hs cs q n at (omega arith) way'

arrives_empty : (j : Trip) (g : Goal) (hs : List HeldException) (cs : List Catch) (q : List ℕ) (n : ℕ) → Place j g [] hs cs q n
    → j.list ≡ j.said ++ (arrival j.e.serial g ∷ [])
    → Goes j g (arrive j.e g (mk [] hs cs q n))
arrives_empty j (goal.Handler frame pad selector) hs cs q n at way' = let le = at.reach in absurd (omega arith)
arrives_empty j (goal.Keep k) hs cs q n at way' = let le = at.reach in stops j k [] hs cs q n at (omega arith) way'

-- the catches of a frame that goes close, and the walk is one frame lower: f had the place, its frame is not there any more
pub closes_below : (j : Trip) (fs : List Activation) (hs : List HeldException) (cs : List Catch) (q : List ℕ) (n k m : ℕ) (t : State)
    → Closed (made_serials j.made) j.collected (Known j.made) j.e.serial (length fs) fs hs cs q n t
    → Chain j.v j.made fs j.rest → ((y : ℕ) → has y j.raisers ≡ has y (raisers hs)) → Ordered k cs → m ≤ length fs
    → cut (otherwise j) m (bare_catches cs) q ≡ cut (otherwise j) m (bare_catches t.catches) t.waiting
closes_below j fs hs cs q n k m t c ch o or le =
    sym (cut_twice (otherwise j) k m (length fs) cs q le or)
    ∙ ap (λ (r : List Caught × List ℕ). cut (otherwise j) m r.0 r.1)
    (sym (c.cuts ∙ cut_same (besides j.e.serial hs fs) (otherwise j) (length fs) (bare_catches cs) q (same_besides j fs hs ch o)))

pub closed_place : (j : Trip) (g : Goal) (fs : List Activation) (hs : List HeldException) (cs : List Catch) (q : List ℕ) (n k : ℕ) (t : State)
    → Closed (made_serials j.made) j.collected (Known j.made) j.e.serial (length fs) fs hs cs q n t
    → Chain j.v j.made fs j.rest → ((y : ℕ) → has y j.raisers ≡ has y (raisers hs)) → Ordered k cs
    → length fs ≤ 64 → Distinct (raisers hs ++ (j.e.serial ∷ unwinding fs))
    → limit g ≤ length fs → Clear g fs
    → j.list ≡ j.said ++ way (ask j g) j.e.serial g (bare_frames fs)
    → ((m : ℕ) → m ≤ length fs → lowest m j.frames ≡ lowest m (bare_frames fs))
    → ((m : ℕ) → m ≤ length fs → cut (otherwise j) m j.catches j.waiting ≡ cut (otherwise j) m (bare_catches cs) q)
    → Place j g fs t.held t.catches t.waiting n
closed_place j g fs hs cs q n k t c ch o or tall ap' reach clear way' lands closes =
    record {
      tall = tall;
      ordered = c.ordered;
      reach = reach;
      clear = clear;
      way_on = way';
      chain = ch;
      waits = rw c.owners c.waits;
      apart = rw c.owners ap';
      owners = rw c.owners o;
      known_held = c.known_held;
      known_caught = c.known_caught;
      lands = lands;
      closes = λ m le. closes m le ∙ closes_below j fs hs cs q n k m t c ch o or le;
    }

-- the frame f goes
goes_on : (j : Trip) (g : Goal) (f : Activation) (fs : List Activation) (hs : List HeldException) (cs : List Catch) (q : List ℕ) (n : ℕ) → Place j g (f ∷ fs) hs cs q n
    → reached g (length fs) ≡ false
    → j.list ≡ j.said ++ way (ask j g) j.e.serial g (bare_frames fs)
    → f.cleanup ≡ None → Clear g fs
    → ((hs : List HeldException) (cs : List Catch) (q : List ℕ) → Place j g fs hs cs q n → Goes j g (walk (ask j g) (record { exception = j.e; goal = g }) fs (mk fs hs cs q n)))
    → Goes j g (walk (ask j g) (record { exception = j.e; goal = g }) fs (gone j.e.serial fs (mk (f ∷ fs) hs cs q n)))
goes_on j g f fs hs cs q n at nr way' m cl ih =
    let lm = length-map fs (λ (f : Activation). f.frame) in
    let ch : Chain j.v j.made fs j.rest = subst (λ c. chain_at j.v j.made c fs (Chain j.v j.made fs) j.rest) m at.chain in
    let c = closed (made_serials j.made) j.collected (Known j.made) j.e.serial (length fs) fs n (suc (length fs)) cs at.ordered hs q
    (record { waits = rw (unwinding_none f fs m) at at.waits; known_held = at.known_held; known_caught = at.known_caught }) in
    let t : State = close j.e.serial (length fs) cs (mk fs hs cs q n) in
    subst (λ s. Goes j g (walk (ask j g) (record { exception = j.e; goal = g }) fs s)) (sym c.shape)
    (ih t.held t.catches t.waiting
    (closed_place j g fs hs cs q n (suc (length fs)) t c ch at.owners at.ordered (let l = at.tall in omega arith) (rw (unwinding_none f fs m) at at.apart) (nearer g (length fs) nr at.reach) cl way'
    (λ m le. at.lands m (omega arith) ∙ lowest_skip m f.frame (bare_frames fs) (omega arith))
    (λ m le. at.closes m (omega arith))))

walk_at : (j : Trip) (g : Goal) (f : Activation) (fs : List Activation) (hs : List HeldException) (cs : List Catch) (q : List ℕ) (n : ℕ) (t : Bool) (m : Option ℕ)
    → Place j g (f ∷ fs) hs cs q n
    → reached g (length fs) ≡ t
    → when_not t ((f.cleanup ≡ None) × Clear g fs)
    → j.list ≡ j.said ++ cond t (arrival j.e.serial g ∷ []) (given m (way (ask j g) j.e.serial g (bare_frames fs)) (λ pad. landing j.e.serial (length fs) pad kind.Cleanup ∷ way (ask j g) j.e.serial g (bare_frames fs)))
    → ((hs : List HeldException) (cs : List Catch) (q : List ℕ) → Place j g fs hs cs q n → Goes j g (walk (ask j g) (record { exception = j.e; goal = g }) fs (mk fs hs cs q n)))
    → Goes j g (cond t (arrive j.e g (mk (f ∷ fs) hs cs q n))
    (given m (walk (ask j g) (record { exception = j.e; goal = g }) fs (gone j.e.serial fs (mk (f ∷ fs) hs cs q n))) (λ pad. clean_up (record { exception = j.e; goal = g }) f fs pad (mk (f ∷ fs) hs cs q n))))
walk_at j g f fs hs cs q n true m at e cl way' ih = arrives j g f fs hs cs q n at e way'
walk_at j g f fs hs cs q n false None at e cl way' ih = goes_on j g f fs hs cs q n at e way' cl.0 cl.1 ih
walk_at j g f fs hs cs q n false (Some pad) at e cl way' ih = lands_at j g f fs hs cs q n pad at e way' cl.0 cl.1

pub walk_goes : (j : Trip) (g : Goal) (fs : List Activation) (hs : List HeldException) (cs : List Catch) (q : List ℕ) (n : ℕ) → Place j g fs hs cs q n
    → Goes j g (walk (ask j g) (record { exception = j.e; goal = g }) fs (mk fs hs cs q n))
unfolding walk way
walk_goes j g [] hs cs q n at = arrives_empty j g hs cs q n at at.way_on
walk_goes j g (f ∷ fs) hs cs q n at =
    walk_at j g f fs hs cs q n (reached g (length fs)) (cleanup_pad (ask j g f.frame)) at refl at.clear
    (rw (length-map fs (λ (f : Activation). f.frame)) at at.way_on)
    (λ hs cs q. walk_goes j g fs hs cs q n)
