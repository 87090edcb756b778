-- The calls that begin or carry on no unwinding keep the invariant.
use Rattle.std.proofs.Common.{◌≡◌, ℕ, suc, ◌+◌, ◌<◌, ◌≤◌, Bool, true, false, cond, not, ◌&&◌, ◌||◌, eqb, ltb, List, [], ◌∷◌, ◌++◌, map, length, Some, None, Option, sym, refl, ap, ◌∙◌, subst, append_assoc, append-nil, arith}
use mathlib.Core.List.{map-map}
use lib.ListN.{length-map}
use Rattle.std.proofs.lemmas.Bool.{false_from_ne_true, cond_both, eqb-true, eqb-false, eq-eqb, ne_eqb, or_parts, or_left, ltb-true}
use Rattle.calls.specs.declared.answer.Answer.TheVariants.{Done, Made}
use Rattle.calls.specs.declared.answer.Refusal.{Refusal}
use Rattle.calls.specs.declared.call.Call.{Call}
use Rattle.calls.specs.declared.call.Call.TheVariants.{Enter, Move, Leave, Make, Begin, End, Delete, Collect}
use Rattle.calls.specs.declared.exception.Catch.{Catch}
use Rattle.calls.specs.declared.exception.Exception.{Exception}
use Rattle.calls.specs.declared.exception.HeldException.{HeldException}
use Rattle.calls.specs.declared.frame.Activation.{Activation}
use Rattle.calls.specs.declared.frame.Unwinding.{Unwinding}
use Rattle.rules.specs.Book.{Book, Account, Caught, serials, catchers, lost, settled, drop_all, known, note}
use Rattle.rules.specs.Calls.{enter, move, leave, make, delete, collect, begin, end, disown}
use Rattle.rules.specs.Laws.{Ordered}
use Rattle.rules.specs.Lists.{given, has, All, Distinct}
use Rattle.rules.specs.Search.{Verdicts}
use Rattle.rules.specs.Promise.{Whole}
use Rattle.rules.specs.State.{State, Outcome, refuse, find, without, raisers, unwinding, caught, holdings, release}
use Rattle.rules.proofs.Closing.{ordered_widen}
use Rattle.rules.proofs.Held.{names, names_own, names_push, names_without, raisers_own, raisers_push, raisers_without, find_serial, find_owned, all_without, all_own, owners_disown, drop_all_none, raisers_disown, distinct_less_left}
use Rattle.rules.proofs.Inv.{mk, bare, bare_catches, made_serials, History, book_of, Known, Chain, chain_at, Good}
use Rattle.rules.proofs.Lists.{given_both, all_append, has_append, has_none, has_cons, has_later, has_both, has_left, has_right, has_here, has_skip, has_swap, distinct_in}
use Rattle.rules.proofs.Waits.{W, w_same, w_release, w_make, w_collect}

-- the book follows a call: what it notes is the book of the state after it
pub record Follows (v : Verdicts) (s : State) (h : History) (c : Call) (r : Outcome) : Type 0 where
  pub later : History
  pub good : Good v r.after later
  pub reads : note v c r.answer (book_of s h) ≡ book_of r.after later

-- the book's running unwindings are the state's
unwinding_at : (v : Verdicts) (made : List Exception) (m : Option Unwinding) (fs : List Activation) (ih : (us : List Account) → Chain v made fs us → unwinding fs ≡ serials us) (us : List Account)
    → chain_at v made m fs (Chain v made fs) us → given m (unwinding fs) (λ u. u.exception.serial ∷ unwinding fs) ≡ serials us
unwinding_at v made None fs ih us c = ih us c
unwinding_at v made (Some w) fs ih [] c = absurd c
unwinding_at v made (Some w) fs ih (u ∷ us) c = λ i. sym c.0.same i ∷ ih us c.1 i

pub unwinding_chain : (v : Verdicts) (made : List Exception) (fs : List Activation) (us : List Account) → Chain v made fs us → unwinding fs ≡ serials us
unfolding unwinding
unwinding_chain v made [] [] c = refl
unwinding_chain v made [] (u ∷ us) c = absurd c
unwinding_chain v made (f ∷ fs) us c = unwinding_at v made f.cleanup fs (λ us c. unwinding_chain v made fs us c) us c

-- and so are its holders
pub same_holders : (v : Verdicts) (fs : List Activation) (hs : List HeldException) (cs : List Catch) (made : List Exception) (R : List ℕ) (us : List Account)
    → Chain v made fs us → ((y : ℕ) → has y R ≡ has y (raisers hs))
    → (y : ℕ) → has y ((R ++ serials us) ++ catchers (bare_catches cs)) ≡ has y ((raisers hs ++ unwinding fs) ++ caught cs)
same_holders v fs hs cs made R us c e y =
    rw (unwinding_chain v made fs us c, map-map (λ (c : Caught). c.serial) bare cs)
    (has_both y (R ++ serials us) (raisers hs ++ serials us) (caught cs) (caught cs) (has_both y R (raisers hs) (serials us) (serials us) (e y) refl) refl)

-- the exception x, which H held, has just lost a holder
record Loses (v : Verdicts) (h : History) (s : State) (x : ℕ) (H : List ℕ) : Type 0 where
  chain : Chain v h.made s.frames h.running
  tall : length s.frames ≤ 64
  ordered : Ordered (length s.frames) s.catches
  done : All Whole h.ended
  apart : Distinct (raisers s.held ++ unwinding s.frames)
  owners : (y : ℕ) → has y h.raisers ≡ has y (raisers s.held)
  known_held : All (λ r. Known h.made r.exception) s.held
  known_caught : All (λ c. Known h.made c.exception) s.catches
  waits : W (made_serials h.made) (names s.held) H s.waiting h.collected s.last
  others : (y : ℕ) → eqb y x ≡ false → has y (holdings s) ≡ has y H
  held : has x H ≡ true

module _ (v : Verdicts) (h : History) (s : State) (x : ℕ) (H : List ℕ) (l : Loses v h s x H) where
  release_good : (t : Bool) → has x (holdings s) ≡ t → Good v (cond t s (mk s.frames (without x s.held) s.catches (s.waiting ++ (x ∷ [])) s.last)) h
  release_good true e =
      record {
        chain = l.chain;
        tall = l.tall;
        ordered = l.ordered;
        done = l.done;
        apart = l.apart;
        owners = l.owners;
        known_held = l.known_held;
        known_caught = l.known_caught;
        waits = w_same _ _ H _ _ _ _ (λ y. go y (eqb y x) refl) l.waits;
      }
    where
      go : (y : ℕ) (b : Bool) → eqb y x ≡ b → has y (holdings s) ≡ has y H
      go y true eb = rw (eqb-true y x eb) (e ∙ sym l.held)
      go y false eb = l.others y eb
  release_good false e =
      record {
        chain = l.chain;
        tall = l.tall;
        ordered = l.ordered;
        done = l.done;
        apart = rw same l.apart;
        owners = rw same l.owners;
        known_held = all_without (λ r. Known h.made r.exception) x s.held l.known_held;
        known_caught = l.known_caught;
        waits = rw (names_without x s.held, same) (w_release _ _ H _ _ _ _ x l.others l.held e l.waits);
      }
    where
      same : raisers (without x s.held) ≡ raisers s.held
      same =
          raisers_without x s.held
          (or_parts (has x (raisers s.held)) (has x (unwinding s.frames))
          (sym (has_append x (raisers s.held) (unwinding s.frames))
          ∙ (or_parts (has x (raisers s.held ++ unwinding s.frames)) (has x (caught s.catches)) (sym (has_append x (raisers s.held ++ unwinding s.frames) (caught s.catches)) ∙ e)).0)).0

  released_good : Good v (release x (holdings s) s) h
  unfolding release
  released_good = release_good _ refl

  released_reads : settled (x ∷ []) (book_of s h) ≡ book_of (release x (holdings s) s) h
  unfolding release lost
  released_reads = rw (same_holders v s.frames s.held s.catches h.made h.raisers h.running l.chain l.owners x, has_none x) (go (has x (holdings s)))
    where
      waiting_now : List ℕ → Book
      waiting_now q = book_of (mk s.frames s.held s.catches q s.last) h

      go : (t : Bool) → waiting_now (s.waiting ++ cond t [] (x ∷ [])) ≡ book_of (cond t s (mk s.frames (without x s.held) s.catches (s.waiting ++ (x ∷ [])) s.last)) h
      go true = ap waiting_now (append-nil s.waiting)
      go false = refl

-- the exceptions stay known when a new one is made

known_more : (made : List Exception) (e d : Exception) (n : ℕ) → ((y : ℕ) → has y (made_serials made) ≡ true → y ≤ n) → d.serial ≡ suc n → Known made e → Known (d ∷ made) e
unfolding known
known_more made e d n low new k =
    let l = low e.serial (known_there made k) in
    rw (ne_eqb e.serial d.serial (λ p. omega arith)) k
  where
    known_there : (made : List Exception) → known e.serial made ≡ Some e → has e.serial (made_serials made) ≡ true
    known_there [] k = absurd cc
    known_there (c ∷ made) k = go (eqb e.serial c.serial) refl (known_there made) k
      where
        go : (b : Bool) → eqb e.serial c.serial ≡ b → (known e.serial made ≡ Some e → has e.serial (made_serials made) ≡ true) → cond b (Some c) (known e.serial made) ≡ Some e
            → has e.serial (made_serials (c ∷ made)) ≡ true
        go true eb ih k = rw (eqb-true e.serial c.serial eb) (has_here c.serial (made_serials made))
        go false eb ih k = has_later e.serial c.serial (made_serials made) (ih k)

all_more : {A : Type 0} (P Q : A → Type 0) → ((a : A) → P a → Q a) → (as' : List A) → All P as' → All Q as'
all_more P Q f [] p = tt
all_more P Q f (a ∷ as') p = (f a p.0, all_more P Q f as' p.1)

module _ (v : Verdicts) (made made' : List Exception) (more : (e : Exception) → Known made e → Known made' e) where
  chain_more_at : (m : Option Unwinding) (fs : List Activation) (ih : (us : List Account) → Chain v made fs us → Chain v made' fs us) (us : List Account)
      → chain_at v made m fs (Chain v made fs) us → chain_at v made' m fs (Chain v made' fs) us
  chain_more_at None fs ih us c = ih us c
  chain_more_at (Some w) fs ih [] c = c
  chain_more_at (Some w) fs ih (u ∷ us) c =
      let p = c.0 in (
        record { same = p.same; keep_is = p.keep_is; reach = p.reach; clear = p.clear; rest = p.rest; some = p.some; no_end = p.no_end; known_as = more w.exception p.known_as },
        ih us c.1,
      )

  chain_more : (fs : List Activation) (us : List Account) → Chain v made fs us → Chain v made' fs us
  chain_more [] us c = c
  chain_more (f ∷ fs) us c = chain_more_at f.cleanup fs (chain_more fs) us c

-- with no catch in the top frame

below_top : (n : ℕ) (cs : List Catch) → has n (map (λ c. c.frame) cs) ≡ false → Ordered (suc n) cs → Ordered n cs
unfolding has
below_top n [] e o = tt
below_top n (c ∷ cs) e o =
    let ne = eqb-false n c.frame (or_parts (eqb n c.frame) (has n (map (λ c. c.frame) cs)) e).0 in
    let lt = o.0 in
    (omega arith, o.1)

module _ (v : Verdicts) (h : History) where
  pub refuse_follows : (s : State) (c : Call) (r : Refusal) → Good v s h → Follows v s h c (refuse r s)
  unfolding note
  refuse_follows s c r g = record { later = h; good = g; reads = refl }

  pub enter_follows : (s : State) (u p : ℕ) → Good v s h → Follows v s h (Enter u p) (enter u p s)
  unfolding note unwinding
  enter_follows s u p g =
      cond_both (ltb (length s.frames) 64) _ _ (Follows v s h (Enter u p))
      (λ t. record {
        later = h;
        good = record { chain = g.chain; tall = ltb-true _ _ t; ordered = ordered_widen _ _ s.catches (omega arith) g.ordered; done = g.done; waits = g.waits; apart = g.apart; owners = g.owners; known_held = g.known_held; known_caught = g.known_caught };
        reads = refl;
      })
      (λ _. refuse_follows s _ _ g)

  pub move_follows : (fs : List Activation) (hs : List HeldException) (cs : List Catch) (q : List ℕ) (n p : ℕ)
      → Good v (mk fs hs cs q n) h → Follows v (mk fs hs cs q n) h (Move p) (move p (mk fs hs cs q n))
  unfolding note unwinding
  move_follows [] hs cs q n p g = refuse_follows _ _ _ g
  move_follows (f ∷ fs) hs cs q n p g =
      record {
        later = h;
        good = record { chain = g.chain; tall = g.tall; ordered = g.ordered; done = g.done; waits = g.waits; apart = g.apart; owners = g.owners; known_held = g.known_held; known_caught = g.known_caught };
        reads = refl;
      }

  pub leave_follows : (fs : List Activation) (hs : List HeldException) (cs : List Catch) (q : List ℕ) (n : ℕ)
      → Good v (mk fs hs cs q n) h → Follows v (mk fs hs cs q n) h Leave (leave (mk fs hs cs q n))
  unfolding note unwinding
  leave_follows [] hs cs q n g = refuse_follows _ _ _ g
  leave_follows (f ∷ fs) hs cs q n g =
      cond_both (has (length fs) (map (λ c. c.frame) cs)) _ _ (Follows v (mk (f ∷ fs) hs cs q n) h Leave)
      (λ _. refuse_follows _ _ _ g)
      (λ e. given_both f.cleanup _ _ (Follows v (mk (f ∷ fs) hs cs q n) h Leave)
      (λ m. record {
        later = h;
        good = record {
          chain = subst (λ x. chain_at v h.made x fs (Chain v h.made fs) h.running) m g.chain;
          tall = let l = g.tall in omega arith;
          ordered = below_top (length fs) cs e g.ordered;
          done = g.done;
          waits = rw m at g.waits;
          apart = rw m at g.apart;
          owners = g.owners;
          known_held = g.known_held;
          known_caught = g.known_caught;
        };
        reads = refl;
      })
      (λ _ _. refuse_follows _ _ _ g))

  pub make_follows : (s : State) (class thrown : ℕ) → Good v s h → Follows v s h (Make class thrown) (make class thrown s)
  unfolding note
  make_follows s class thrown g =
      cond_both (ltb (length s.held + length s.waiting) 16) _ _ (Follows v s h (Make class thrown))
      (λ t. cond_both (ltb s.last 4294967295) _ _ (Follows v s h (Make class thrown)) (λ _. new (ltb-true _ _ t)) (λ _. refuse_follows s _ _ g))
      (λ _. refuse_follows s _ _ g)
    where
      x : ℕ
      x = suc s.last

      e : Exception
      e = record { serial = x; class = class; thrown = thrown }

      r : HeldException
      r = record { exception = e; owned = true }

      more : (d : Exception) → Known h.made d → Known (e ∷ h.made) d
      more d k = known_more h.made d e s.last g.waits.low refl k

      itself : Known (e ∷ h.made) e
      itself = unfold known in rw (eq-eqb x x refl)

      unheld : has x (raisers s.held ++ unwinding s.frames) ≡ false
      unheld =
          false_from_ne_true (has x (raisers s.held ++ unwinding s.frames))
          (λ t. let l = g.waits.low x (g.waits.every x ∙ or_left (has x (names s.held)) _ (g.waits.held x ∙ has_left x (raisers s.held ++ unwinding s.frames) (caught s.catches) t)) in omega arith)

      at_end : (y : ℕ) → has y ((raisers (s.held ++ (r ∷ [])) ++ unwinding s.frames) ++ caught s.catches) ≡ has y (holdings s ++ (x ∷ []))
      at_end y =
          rw (
            raisers_push s.held r refl,
            has_append y ((raisers s.held ++ (x ∷ [])) ++ unwinding s.frames) (caught s.catches),
            has_append y (raisers s.held ++ (x ∷ [])) (unwinding s.frames),
            has_append y (raisers s.held) (x ∷ []),
            has_append y (holdings s) (x ∷ []),
            has_append y (raisers s.held ++ unwinding s.frames) (caught s.catches),
            has_append y (raisers s.held) (unwinding s.frames),
          )
          (go (has y (raisers s.held)) (has y (x ∷ [])) (has y (unwinding s.frames)) (has y (caught s.catches)))
        where
          go : (a b c d : Bool) → (((a || b) || c) || d) ≡ (((a || c) || d) || b)
          go true b c d = refl
          go false true true true = refl
          go false true true false = refl
          go false true false true = refl
          go false true false false = refl
          go false false true d = refl
          go false false false true = refl
          go false false false false = refl

      new : length s.held + length s.waiting < 16 → Follows v s h (Make class thrown) (record {
        answer = Made x;
        after = record { frames = s.frames; held = s.held ++ (r ∷ []); catches = s.catches; waiting = s.waiting; last = x };
      })
      new room =
          record {
            later = record { made = e ∷ h.made; raisers = x ∷ h.raisers; running = h.running; ended = h.ended; collected = h.collected };
            good = record {
              chain = chain_more v h.made (e ∷ h.made) more s.frames h.running g.chain;
              tall = g.tall;
              ordered = g.ordered;
              done = g.done;
              waits = rw (names_push s.held r) (w_same _ _ (holdings s ++ (x ∷ [])) _ _ _ _ at_end (w_make _ _ _ _ _ _ (rw (length-map s.held (λ (h : HeldException). h.exception.serial)) room) g.waits));
              apart = rw (raisers_push s.held r refl, append_assoc (raisers s.held) (x ∷ []) (unwinding s.frames)) (distinct_in x (raisers s.held) (unwinding s.frames) unheld g.apart);
              owners = λ y. rw (raisers_push s.held r refl) (has_cons y x h.raisers ∙ rw (g.owners y) (sym (has_cons y x (raisers s.held)) ∙ has_swap y (x ∷ []) (raisers s.held)));
              known_held = all_append _ s.held (r ∷ []) (all_more _ _ (λ h. more h.exception) s.held g.known_held) (itself, tt);
              known_caught = all_more _ _ (λ c. more c.exception) s.catches g.known_caught;
            };
            reads = refl;
          }

  pub begin_follows : (fs : List Activation) (hs : List HeldException) (cs : List Catch) (q : List ℕ) (n x : ℕ)
      → Good v (mk fs hs cs q n) h → Follows v (mk fs hs cs q n) h (Begin x) (begin x (mk fs hs cs q n))
  unfolding note
  begin_follows fs hs [] q n x g = refuse_follows _ _ _ g
  begin_follows fs hs (c ∷ cs) q n x g =
      cond_both (eqb x c.exception.serial && not c.begun) _ _ (Follows v (mk fs hs (c ∷ cs) q n) h (Begin x))
      (λ _. record {
        later = h;
        good = record { chain = g.chain; tall = g.tall; ordered = g.ordered; done = g.done; waits = g.waits; apart = g.apart; owners = g.owners; known_held = g.known_held; known_caught = g.known_caught };
        reads = refl;
      })
      (λ _. refuse_follows _ _ _ g)

  pub end_follows : (fs : List Activation) (hs : List HeldException) (cs : List Catch) (q : List ℕ) (n : ℕ)
      → Good v (mk fs hs cs q n) h → Follows v (mk fs hs cs q n) h End (end (mk fs hs cs q n))
  unfolding note
  end_follows fs hs [] q n g = refuse_follows _ _ _ g
  end_follows fs hs (c ∷ cs) q n g =
      cond_both c.begun _ _ (Follows v (mk fs hs (c ∷ cs) q n) h End)
      (λ _. cond_both (eqb (suc c.frame) (length fs)) _ _ (Follows v (mk fs hs (c ∷ cs) q n) h End)
      (λ _. record { later = h; good = released_good v h (mk fs hs cs q n) _ _ loses; reads = released_reads v h (mk fs hs cs q n) _ _ loses })
      (λ _. refuse_follows _ _ _ g))
      (λ _. refuse_follows _ _ _ g)
    where
      loses : Loses v h (mk fs hs cs q n) c.exception.serial (holdings (mk fs hs (c ∷ cs) q n))
      loses =
          record {
            chain = g.chain;
            tall = g.tall;
            ordered = ordered_widen _ _ cs g.ordered.0 g.ordered.1;
            done = g.done;
            apart = g.apart;
            owners = g.owners;
            known_held = g.known_held;
            known_caught = g.known_caught.1;
            waits = g.waits;
            others = λ y ne. has_both y (raisers hs ++ unwinding fs) (raisers hs ++ unwinding fs) (caught cs) (c.exception.serial ∷ caught cs) refl (sym (has_skip y c.exception.serial (caught cs) ne));
            held = has_right c.exception.serial (raisers hs ++ unwinding fs) (c.exception.serial ∷ caught cs) (has_here c.exception.serial (caught cs));
          }

  pub delete_follows : (s : State) (x : ℕ) → Good v s h → Follows v s h (Delete x) (delete x s)
  unfolding note
  delete_follows s x g =
      given_both (find x s.held) _ _ (Follows v s h (Delete x))
      (λ _. cond_both (has x s.waiting) _ _ (Follows v s h (Delete x)) (λ _. refuse_follows s _ _ g) (λ _. refuse_follows s _ _ g))
      (λ r f. cond_both r.owned _ _ (Follows v s h (Delete x)) (λ t. gives_up r f t) (λ _. refuse_follows s _ _ g))
    where
      gives_up : (r : HeldException) → find x s.held ≡ Some r → r.owned ≡ true
          → Follows v s h (Delete x) (record { answer = Done; after = release r.exception.serial (holdings (disown r.exception.serial s)) (disown r.exception.serial s) })
      gives_up r f t =
          record {
            later = h';
            good = released_good v h' (disown y s) y (holdings s) loses;
            reads = rw (← (find_serial x s.held r f)) (released_reads v h' (disown y s) y (holdings s) loses);
          }
        where
          y : ℕ
          y = r.exception.serial

          h' : History
          h' = record { made = h.made; raisers = drop_all y h.raisers; running = h.running; ended = h.ended; collected = h.collected }

          loses : Loses v h' (disown y s) y (holdings s)
          loses =
              record {
                chain = g.chain;
                tall = g.tall;
                ordered = g.ordered;
                done = g.done;
                apart = rw (raisers_disown y s.held g.waits.once) (distinct_less_left y (raisers s.held) (unwinding s.frames) g.apart);
                owners = owners_disown h.raisers y s.held g.owners g.waits.once;
                known_held = all_own (λ r. Known h.made r.exception) (λ r b k. k) false y s.held g.known_held;
                known_caught = g.known_caught;
                waits = rw (names_own false y s.held) g.waits;
                others = λ z ne. has_both z _ _ (caught s.catches) (caught s.catches) (has_both z _ _ (unwinding s.frames) (unwinding s.frames) (raisers_own z false y s.held ne) refl) refl;
                held = has_left y _ (caught s.catches) (has_left y _ (unwinding s.frames) (find_owned x s.held r f t));
              }

  pub collect_follows : (fs : List Activation) (hs : List HeldException) (cs : List Catch) (q : List ℕ) (n : ℕ)
      → Good v (mk fs hs cs q n) h → Follows v (mk fs hs cs q n) h Collect (collect (mk fs hs cs q n))
  unfolding note
  collect_follows fs hs cs [] n g = refuse_follows _ _ _ g
  collect_follows fs hs cs (x ∷ q) n g =
      record {
        later = record { made = h.made; raisers = h.raisers; running = h.running; ended = h.ended; collected = x ∷ h.collected };
        good = record { chain = g.chain; tall = g.tall; ordered = g.ordered; done = g.done; waits = w_collect _ _ _ _ _ _ x g.waits; apart = g.apart; owners = g.owners; known_held = g.known_held; known_caught = g.known_caught };
        reads = unfold drop_all in rw (eq-eqb x x refl, drop_all_none x q g.waits.queue_once.0);
      }
