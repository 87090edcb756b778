-- The promise: every call keeps the invariant, so every run does, and each sentence follows from it.
use Rattle.std.proofs.Common.{◌≡◌, ℕ, suc, ◌+◌, true, false, not, ◌&&◌, eqb, ltb, ◌⊎◌, ◌↔◌, List, [], ◌∷◌, ◌++◌, map, length, Some, None, Option, sym, refl, ap, ◌∙◌, subst, inl, inr, arith}
use Rattle.std.proofs.Math.Bool.{or-false}
use Rattle.std.proofs.lemmas.Bool.{false_from_ne_true, cond_both, false≢true, eqb-true, and_parts}
use Rattle.personality.specs.declared.verdict.Verdict.{Verdict}
use Rattle.calls.specs.declared.answer.Answer.{Answer}
use Rattle.calls.specs.declared.answer.Answer.TheVariants.{Done, Ended}
use Rattle.calls.specs.declared.answer.Kind.TheVariants as kind
use Rattle.calls.specs.declared.call.Call.{Call}
use Rattle.calls.specs.declared.call.Call.TheVariants.{Enter, Move, Leave, Make, Raise, Resume, Rethrow, Force, Begin, End, Delete, Collect}
use Rattle.calls.specs.declared.exception.Catch.{Catch}
use Rattle.calls.specs.declared.exception.Exception.{Exception}
use Rattle.calls.specs.declared.exception.HeldException.{HeldException}
use Rattle.calls.specs.declared.frame.Activation.{Activation}
use Rattle.calls.specs.declared.frame.Frame.{Frame}
use Rattle.calls.specs.declared.frame.Goal.{Goal}
use Rattle.calls.specs.declared.frame.Goal.TheVariants as goal
use Rattle.calls.specs.declared.frame.Unwinding.{Unwinding}
use Rattle.rules.specs.Book.{Book, Account, Caught, serials, held_in, written, refused}
use Rattle.rules.specs.Calls.{step, answers, final, with_raiser, move, leave, make, collect, rethrow, resume, begin, end, handler_count}
use Rattle.rules.specs.Laws.{Ordered}
use Rattle.rules.specs.Lists.{has, All, Distinct}
use Rattle.rules.specs.Promise.{Part, EndsLast, ends, Uncollected, longest, Collects, QuietWithoutFrames, needs_a_frame, RefusedWithoutFrames, Newest, WithRaiser, Apt, Each, Always, PromiseKept}
use Rattle.rules.specs.Search.{Verdicts}
use Rattle.rules.specs.State.{State, Outcome, start, find, raisers, unwinding}
use Rattle.rules.proofs.Held.{find_serial, find_owned}
use Rattle.rules.specs.Walk.{cleanup_pad, reached, landing}
use Rattle.rules.proofs.Inv.{mk, bare_frames, bare_catches, History, book_of, arrival, way, Chain, chain_at, Good}
use Rattle.rules.proofs.Lists.{given_both, has_none, has_here, distinct_apart}
use Rattle.rules.proofs.Steps.{Follows, unwinding_chain, same_holders, enter_follows, move_follows, leave_follows, make_follows, begin_follows, end_follows, delete_follows, collect_follows}
use Rattle.rules.proofs.Throw.{raise_follows, resume_follows, rethrow_follows, force_follows}

step_follows : (v : Verdicts) (s : State) (h : History) (c : Call) → Good v s h → Follows v s h c (step v c s)
unfolding step
step_follows v s h (Enter unit place) g = enter_follows v h s unit place g
step_follows v s h (Move place) g = move_follows v h s.frames s.held s.catches s.waiting s.last place g
step_follows v s h Leave g = leave_follows v h s.frames s.held s.catches s.waiting s.last g
step_follows v s h (Make class thrown) g = make_follows v h s class thrown g
step_follows v s h (Raise x) g = raise_follows v s h x g
step_follows v s h (Resume x) g = resume_follows v s.frames s.held s.catches s.waiting s.last x h g
step_follows v s h Rethrow g = rethrow_follows v s.frames s.held s.catches s.waiting s.last h g
step_follows v s h (Force x keep) g = force_follows v s h x keep g
step_follows v s h (Begin x) g = begin_follows v h s.frames s.held s.catches s.waiting s.last x g
step_follows v s h End g = end_follows v h s.frames s.held s.catches s.waiting s.last g
step_follows v s h (Delete x) g = delete_follows v h s x g
step_follows v s h Collect g = collect_follows v h s.frames s.held s.catches s.waiting s.last g

-- runs

record Run (v : Verdicts) (calls : List Call) (s : State) (h : History) : Type 0 where
  later : History
  good : Good v (final v calls s) later
  reads : written v calls (answers v calls s) (book_of s h) ≡ book_of (final v calls s) later

run_good : (v : Verdicts) (calls : List Call) (s : State) (h : History) → Good v s h → Run v calls s h
unfolding written answers final
run_good v [] s h g = record { later = h; good = g; reads = refl }
run_good v (c ∷ cs) s h g =
    let f = step_follows v s h c g in
    let r = run_good v cs (step v c s).after f.later f.good in
    record { later = r.later; good = r.good; reads = ap (written v cs (answers v cs (step v c s).after)) f.reads ∙ r.reads }

each_good : (v : Verdicts) (P : Book → Call → Answer → Type 0) → ((s : State) (h : History) (c : Call) → Good v s h → P (book_of s h) c (step v c s).answer)
    → (calls : List Call) (s : State) (h : History) → Good v s h → Each v P (book_of s h) calls (answers v calls s)
unfolding answers
each_good v P p [] s h g = tt
each_good v P p (c ∷ cs) s h g =
    let f = step_follows v s h c g in
    (p s h c g, subst (λ b. Each v P b cs (answers v cs (step v c s).after)) (sym f.reads) (each_good v P p cs (step v c s).after f.later f.good))

always_good : (v : Verdicts) (P : Book → Type 0) → ((s : State) (h : History) → Good v s h → P (book_of s h))
    → (calls : List Call) (s : State) (h : History) → Good v s h → Always v P (book_of s h) calls (answers v calls s)
unfolding answers
always_good v P p [] s h g = p s h g
always_good v P p (c ∷ cs) s h g =
    let f = step_follows v s h c g in
    (p s h g, subst (λ b. Always v P b cs (answers v cs (step v c s).after)) (sym f.reads) (always_good v P p cs (step v c s).after f.later f.good))

-- the sentences

-- the end of a landing list is to come

ends_after : (said rest : List Answer) → All (λ a. ends a ≡ false) said → EndsLast rest → EndsLast (said ++ rest)
ends_after [] rest p e = e
ends_after (a ∷ []) [] p e = absurd e
ends_after (a ∷ []) (b ∷ rest) p e = (p.0, e)
ends_after (a ∷ (b ∷ said)) rest p e = (p.0, ends_after (b ∷ said) rest p.1 e)

arrival_ends : (x : ℕ) (g : Goal) → ends (arrival x g) ≡ true
arrival_ends x (goal.Handler frame pad selector) = refl
arrival_ends x (goal.Keep k) = refl

way_ends : (ask : Frame → Verdict) (x : ℕ) (g : Goal) (fs : List Frame) → EndsLast (way ask x g fs)
unfolding way
way_ends ask x g [] = arrival_ends x g
way_ends ask x g (f ∷ fs) =
    cond_both (reached g (length fs)) _ _ EndsLast
    (λ _. arrival_ends x g)
    (λ _. given_both (cleanup_pad (ask f)) _ _ EndsLast
    (λ _. way_ends ask x g fs)
    (λ pad _. ends_after (landing x (length fs) pad kind.Cleanup ∷ []) (way ask x g fs) (refl, tt) (way_ends ask x g fs)))

parts_at : (v : Verdicts) (made : List Exception) (m : Option Unwinding) (fs : List Activation) (ih : (us : List Account) → Chain v made fs us → All Part us) (us : List Account)
    → chain_at v made m fs (Chain v made fs) us → All Part us
parts_at v made None fs ih us c = ih us c
parts_at v made (Some w) fs ih [] c = absurd c
parts_at v made (Some w) fs ih (u ∷ us) c =
    let p = c.0 in
    (record { firsts = (_, p.rest); some = p.some; no_end = p.no_end; to_come = rw p.rest (ends_after u.answers _ p.no_end (way_ends _ w.exception.serial w.goal (bare_frames fs))) }, ih us c.1)

parts : (v : Verdicts) (made : List Exception) (fs : List Activation) (us : List Account) → Chain v made fs us → All Part us
parts v made [] [] c = tt
parts v made [] (u ∷ us) c = absurd c
parts v made (f ∷ fs) us c = parts_at v made f.cleanup fs (parts v made fs) us c

distinct_tail : (a b : List ℕ) → Distinct (a ++ b) → Distinct b
distinct_tail [] b d = d
distinct_tail (x ∷ a) b d = distinct_tail a b d.1

waits_good : (v : Verdicts) (s : State) (h : History) → Good v s h → (x : ℕ) → Uncollected x (book_of s h) → (has x s.waiting ≡ true) ↔ (has x (held_in (book_of s h)) ≡ false)
waits_good v s h g x u =
    let e = same_holders v s.frames s.held s.catches h.made h.raisers h.running g.chain g.owners x in (
      (λ t. e ∙ (sym (g.waits.held x) ∙ g.waits.unheld x t)),
      (λ f. sym (or-false (has x s.waiting)) ∙ (rw (g.waits.held x ∙ (sym e ∙ f), u.1) at (sym (g.waits.every x) ∙ u.0))),
    )

quiet_good : (v : Verdicts) (fs : List Activation) (cs : List Catch) (made : List Exception) (us : List Account) → Chain v made fs us → Ordered (length fs) cs
    → bare_frames fs ≡ [] → (us ≡ []) × (bare_catches cs ≡ [])
quiet_good v (f ∷ fs) cs made us c o e = absurd cc
quiet_good v [] (k ∷ cs) made us c o e = let l = o.0 in absurd (omega arith)
quiet_good v [] [] made (u ∷ us) c o e = absurd c
quiet_good v [] [] made [] c o e = (refl, refl)

collects_good : (v : Verdicts) (s : State) (h : History) (c : Call) → Good v s h → Collects (book_of s h) c (step v c s).answer
unfolding step
collects_good v s h (Enter unit place) g = tt
collects_good v s h (Move place) g = tt
collects_good v s h Leave g = tt
collects_good v s h (Make class thrown) g = tt
collects_good v s h (Raise x) g = tt
collects_good v s h (Resume x) g = tt
collects_good v s h Rethrow g = tt
collects_good v s h (Force x keep) g = tt
collects_good v s h (Begin x) g = tt
collects_good v s h End g = tt
collects_good v s h (Delete x) g = tt
collects_good v s h Collect g = go s.waiting
  where
    go : (q : List ℕ) → (collect (mk s.frames s.held s.catches q s.last)).answer ≡ longest q
    go [] = refl
    go (x ∷ q) = refl

-- refused, or X
abbrev Unless : Type 0 → Outcome → Type 0
Unless X r = (refused r.answer ≡ true) ⊎ X

-- what a raise, a force or a delete names
raiser_named : (v : Verdicts) (s : State) (h : History) (x : ℕ) (act : Exception → Outcome) → Good v s h
    → (Q : Answer → Type 0) → ((e : Exception) → Q (act e).answer) → (refused (with_raiser x s act).answer ≡ true) ⊎ (WithRaiser x (book_of s h) × Q (with_raiser x s act).answer)
raiser_named v s h x act g Q q =
    given_both (find x s.held) _ _ (λ (o : Outcome). (refused o.answer ≡ true) ⊎ (WithRaiser x (book_of s h) × Q o.answer))
    (λ _. cond_both (has x s.waiting) _ _ (λ (o : Outcome). (refused o.answer ≡ true) ⊎ (WithRaiser x (book_of s h) × Q o.answer)) (λ _. inl refl) (λ _. inl refl))
    (λ r f. cond_both r.owned _ _ (λ (o : Outcome). (refused o.answer ≡ true) ⊎ (WithRaiser x (book_of s h) × Q o.answer))
    (λ t. let o : has x (raisers s.held) ≡ true = rw (find_serial x s.held r f) at (find_owned x s.held r f t) in
    inr ((g.owners x ∙ o, rw (← (unwinding_chain v h.made s.frames h.running g.chain)) (distinct_apart x (raisers s.held) (unwinding s.frames) g.apart o)), q r.exception))
    (λ _. inl refl))

-- of a raise or a force that alone is said
raiser_there : (v : Verdicts) (s : State) (h : History) (x : ℕ) (act : Exception → Outcome) → Good v s h → Unless (WithRaiser x (book_of s h)) (with_raiser x s act)
raiser_there v s h x act g =
    elim (raiser_named v s h x act g (λ _. Unit {0}) (λ _. tt)) [ inl e ↦ inl e | inr p ↦ inr p.0 ]

rethrow_named : (v : Verdicts) (fs : List Activation) (hs : List HeldException) (cs : List Catch) (q : List ℕ) (n : ℕ) (us : List Account) → unwinding fs ≡ serials us
    → Unless (Newest (λ c _. has c.serial (serials us) ≡ false) (bare_catches cs)) (rethrow v (mk fs hs cs q n))
rethrow_named v fs hs [] q n us e = inl refl
rethrow_named v fs hs (c ∷ cs) q n us e =
    cond_both c.begun _ _ (Unless _)
    (λ _. cond_both (has c.exception.serial (unwinding fs)) _ _ (Unless _) (λ _. inl refl) (λ t. inr (rw e at t)))
    (λ _. inl refl)

resume_named : (v : Verdicts) (fs : List Activation) (hs : List HeldException) (cs : List Catch) (q : List ℕ) (n x : ℕ) (us : List Account) → unwinding fs ≡ serials us
    → Unless (has x (serials us) ≡ true) (resume v x (mk fs hs cs q n))
unfolding unwinding
resume_named v [] hs cs q n x us e = inl refl
resume_named v (f ∷ fs) hs cs q n x us e =
    given_both f.cleanup _ _ (Unless _)
    (λ _. inl refl)
    (λ u ec. cond_both (eqb x u.exception.serial) _ _ (Unless _)
    (λ t. inr (rw (eqb-true x u.exception.serial t, ← e, ec) (has_here u.exception.serial (unwinding fs))))
    (λ _. inl refl))

make_named : (v : Verdicts) (s : State) (h : History) (class thrown : ℕ) → Good v s h → Apt (book_of s h) (Make class thrown) (make class thrown s).answer
make_named v s h class thrown g =
    cond_both (ltb (length s.held + length s.waiting) 16) _ _ (λ (r : Outcome). Apt (book_of s h) (Make class thrown) r.answer)
    (λ _. cond_both (ltb s.last 4294967295) _ _ (λ (r : Outcome). Apt (book_of s h) (Make class thrown) r.answer)
    (λ _. inr (suc s.last, refl, false_from_ne_true _ (λ e. let l = g.waits.low (suc s.last) e in omega arith)))
    (λ _. inl refl))
    (λ _. inl refl)

frame_named : (v : Verdicts) (fs : List Activation) (hs : List HeldException) (cs : List Catch) (q : List ℕ) (n place : ℕ) (h : History)
    → (Apt (book_of (mk fs hs cs q n) h) (Move place) (move place (mk fs hs cs q n)).answer) × (Apt (book_of (mk fs hs cs q n) h) Leave (leave (mk fs hs cs q n)).answer)
frame_named v [] hs cs q n place h = (inl refl, inl refl)
frame_named v (f ∷ fs) hs cs q n place h = (
  inr (λ e. cc, refl),
  cond_both (has (length fs) (map (λ c. c.frame) cs)) _ _ (λ (o : Outcome). Apt (book_of (mk (f ∷ fs) hs cs q n) h) Leave o.answer) (λ _. inl refl)
      (λ _. given_both f.cleanup _ _ (λ (o : Outcome). Apt (book_of (mk (f ∷ fs) hs cs q n) h) Leave o.answer) (λ _. inr (λ e. cc, refl)) (λ _ _. inl refl)),
)

catch_named : (v : Verdicts) (fs : List Activation) (hs : List HeldException) (cs : List Catch) (q : List ℕ) (n x : ℕ) (h : History) → Good v (mk fs hs cs q n) h
    → (Apt (book_of (mk fs hs cs q n) h) (Begin x) (begin x (mk fs hs cs q n)).answer) × (Apt (book_of (mk fs hs cs q n) h) End (end (mk fs hs cs q n)).answer)
catch_named v fs hs [] q n x h g = (inl refl, inl refl)
catch_named v fs hs (c ∷ cs) q n x h g = (
  cond_both (eqb x c.exception.serial && not c.begun) _ _ (λ (o : Outcome). Apt (book_of (mk fs hs (c ∷ cs) q n) h) (Begin x) o.answer)
      (λ t. inr (sym (eqb-true x c.exception.serial (and_parts (eqb x c.exception.serial) (not c.begun) t).0), (_, refl)))
      (λ _. inl refl),
  cond_both c.begun _ _ (λ (o : Outcome). Apt (book_of (mk fs hs (c ∷ cs) q n) h) End o.answer)
      (λ _. cond_both (eqb (suc c.frame) (length fs)) _ _ (λ (o : Outcome). Apt (book_of (mk fs hs (c ∷ cs) q n) h) End o.answer)
      (λ _. inr (_, ap (λ b. Ended c.exception.serial (handler_count c.exception.serial (mk fs hs cs q n)) (not b)) (sym (same_holders v fs hs cs h.made h.raisers h.running g.chain g.owners c.exception.serial))))
      (λ _. inl refl))
      (λ _. inl refl),
)

apt_good : (v : Verdicts) (s : State) (h : History) (c : Call) → Good v s h → Apt (book_of s h) c (step v c s).answer
unfolding step
apt_good v s h (Enter unit place) g =
    cond_both (ltb (length s.frames) 64) _ _ (λ (o : Outcome). Apt (book_of s h) (Enter unit place) o.answer) (λ _. inr refl) (λ _. inl refl)
apt_good v s h (Move place) g = (frame_named v s.frames s.held s.catches s.waiting s.last place h).0
apt_good v s h Leave g = (frame_named v s.frames s.held s.catches s.waiting s.last 0 h).1
apt_good v s h (Make class thrown) g = make_named v s h class thrown g
apt_good v s h (Raise x) g = raiser_there v s h x _ g
apt_good v s h (Resume x) g = resume_named v s.frames s.held s.catches s.waiting s.last x h.running (unwinding_chain v h.made s.frames h.running g.chain)
apt_good v s h Rethrow g = rethrow_named v s.frames s.held s.catches s.waiting s.last h.running (unwinding_chain v h.made s.frames h.running g.chain)
apt_good v s h (Force x keep) g = raiser_there v s h x _ g
apt_good v s h (Begin x) g = (catch_named v s.frames s.held s.catches s.waiting s.last x h g).0
apt_good v s h End g = (catch_named v s.frames s.held s.catches s.waiting s.last 0 h g).1
apt_good v s h (Delete x) g = raiser_named v s h x _ g (λ a. a ≡ Done) (λ e. refl)
apt_good v s h Collect g = inr tt

-- what names an unwinding or a catch is refused where there is none

none_there : (P : Caught → List Caught → Type 0) (cs : List Caught) → cs ≡ [] → Newest P cs → ⊥
none_there P [] e n = n
none_there P (c ∷ cs) e n = cc

refused_good : (v : Verdicts) (s : State) (h : History) (c : Call) → Good v s h → RefusedWithoutFrames (book_of s h) c (step v c s).answer
refused_good v s h c g none =
    let q = quiet_good v s.frames s.catches h.made h.running g.chain g.ordered none in
    go c q.0 q.1 (apt_good v s h c g)
  where
    go : (c : Call) → h.running ≡ [] → bare_catches s.catches ≡ [] → Apt (book_of s h) c (step v c s).answer → needs_a_frame c ≡ true → refused (step v c s).answer ≡ true
    go (Resume x) r k (inl a) e = a
    go (Resume x) r k (inr a) e = absurd (false≢true (sym (has_none x) ∙ rw r at a))
    go (Begin x) r k (inl a) e = a
    go (Begin x) r k (inr a) e = absurd (none_there _ (bare_catches s.catches) k a.0)
    go End r k (inl a) e = a
    go End r k (inr a) e = absurd (none_there _ (bare_catches s.catches) k a)
    go Rethrow r k (inl a) e = a
    go Rethrow r k (inr a) e = absurd (none_there _ (bare_catches s.catches) k a)
    go (Enter unit place) r k a e = absurd (false≢true e)
    go (Move place) r k a e = absurd (false≢true e)
    go Leave r k a e = absurd (false≢true e)
    go (Make class thrown) r k a e = absurd (false≢true e)
    go (Raise x) r k a e = absurd (false≢true e)
    go (Force x keep) r k a e = absurd (false≢true e)
    go (Delete x) r k a e = absurd (false≢true e)
    go Collect r k a e = absurd (false≢true e)

-- the start

nothing : History
nothing = record { made = []; raisers = []; running = []; ended = []; collected = [] }

good_start : (v : Verdicts) (n : ℕ) → Good v (start n) nothing
unfolding nothing unwinding has raisers
good_start v n =
    record {
      chain = tt;
      tall = omega arith;
      ordered = tt;
      done = tt;
      waits = record { held = λ y. refl; every = λ y. refl; unheld = λ y e. absurd (false≢true e); gone = λ y e. absurd (false≢true e); low = λ y e. absurd (false≢true e); once = tt; queue_once = tt; gone_once = tt; few = omega arith };
      apart = tt;
      owners = λ y. refl;
      known_held = tt;
      known_caught = tt;
    }

-- every run keeps the invariant
pub runs_good : (v : Verdicts) (n : ℕ) (calls : List Call) → (h : History) × Good v (final v calls (start n)) h
runs_good v n calls = let r = run_good v calls (start n) nothing (good_start v n) in (r.later, r.good)

pub promise_kept : PromiseKept
unfolding nothing
promise_kept v n calls =
    let g = good_start v n in
    let r = run_good v calls (start n) nothing g in
    let h = r.later in
    let s : State = final v calls (start n) in
    let u = unwinding_chain v h.made s.frames h.running r.good.chain in
    record {
      ended = rw r.reads r.good.done;
      running = rw r.reads (parts v h.made s.frames h.running r.good.chain);
      once_each = rw r.reads (subst Distinct u (distinct_tail (raisers s.held) (unwinding s.frames) r.good.apart));
      waits = rw r.reads (waits_good v s h r.good);
      collects = each_good v Collects (collects_good v) calls (start n) nothing g;
      collected_once = rw r.reads r.good.waits.gone_once;
      quiet = always_good v QuietWithoutFrames (λ s h g. quiet_good v s.frames s.catches h.made h.running g.chain g.ordered) calls (start n) nothing g;
      refused_then = each_good v RefusedWithoutFrames (refused_good v) calls (start n) nothing g;
      same = rw r.reads (record { frames = refl; raisers = λ x. sym (r.good.owners x); unwindings = u; catches = refl; waiting = refl });
      apt = each_good v Apt (apt_good v) calls (start n) nothing g;
    }
