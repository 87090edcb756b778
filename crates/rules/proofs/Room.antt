-- At most 32 catches are ever open: a raise begins with at most 31, and none is added beneath it while it is paused.
use Rattle.std.proofs.Common.{◌≡◌, ℕ, suc, ◌+◌, ◌≤◌, Bool, true, false, cond, not, ◌&&◌, eqb, ltb, List, [], ◌∷◌, map, length, Some, None, Ok, Err, Option, Result, sym, refl, subst, arith}
use lib.ListN.{length-map}
use Rattle.std.proofs.lemmas.Bool.{cond_both, eqb-true, ltb-true, le-ltb}
use Rattle.personality.specs.declared.verdict.Verdict.{Verdict}
use Rattle.calls.specs.declared.answer.Refusal.{Refusal}
use Rattle.calls.specs.declared.call.Call.{Call}
use Rattle.calls.specs.declared.call.Call.TheVariants.{Enter, Move, Leave, Make, Raise, Resume, Rethrow, Force, Begin, End, Delete, Collect}
use Rattle.calls.specs.declared.exception.Catch.{Catch}
use Rattle.calls.specs.declared.exception.Exception.{Exception}
use Rattle.calls.specs.declared.exception.HeldException.{HeldException}
use Rattle.calls.specs.declared.frame.Activation.{Activation}
use Rattle.calls.specs.declared.frame.Frame.{Frame}
use Rattle.calls.specs.declared.frame.Goal.{Goal}
use Rattle.calls.specs.declared.frame.Goal.TheVariants as goal
use Rattle.calls.specs.declared.frame.Unwinding.{Unwinding}
use Rattle.rules.specs.Calls.{step, final, move, leave, with_raiser, disown, set_off, collect, rethrow, resume, begin, end}
use Rattle.rules.specs.Laws.{left_below, RoomFor, room_at, RoomBelow, Room, RoomKept, BoundsKept}
use Rattle.rules.specs.Lists.{has}
use Rattle.rules.specs.Search.{Verdicts, handler_for, stop_for, asks}
use Rattle.rules.specs.State.{State, Outcome, start, find, own, unwinding, holdings, release}
use Rattle.rules.specs.Walk.{at_place, close, cleanup_pad, reached, arrive, walk}
use Rattle.rules.proofs.Inv.{mk}
use Rattle.rules.proofs.Lists.{given_both}
use Rattle.rules.proofs.Runs.{runs_good}
use Rattle.rules.proofs.Throw.{good_of, down_to, search_not_keep}

-- which catches closing leaves

popped : ℕ → List Catch → List Catch
popped n [] = []
popped n (c ∷ cs) = cond (ltb c.frame n) (c ∷ cs) (popped n cs)

record Popped (n : ℕ) (fs : List Activation) (cs : List Catch) (m : ℕ) (t : State) : Type 0 where
  held : List HeldException
  waiting : List ℕ
  is : t ≡ mk fs held cs waiting m

popped_at : (n m : ℕ) (fs : List Activation) (c : Catch) (cs : List Catch) (a : Bool) (s t : State) → s ≡ mk fs s.held (c ∷ cs) s.waiting m → Popped n fs (popped n cs) m t
    → Popped n fs (cond a (c ∷ cs) (popped n cs)) m (cond a s t)
popped_at n m fs c cs true s t e r = record { held = s.held; waiting = s.waiting; is = e }
popped_at n m fs c cs false s t e r = r

close_pops : (x n m : ℕ) (fs : List Activation) (cs : List Catch) (hs : List HeldException) (q : List ℕ) → Popped n fs (popped n cs) m (close x n cs (mk fs hs cs q m))
unfolding close release popped
close_pops x n m fs [] hs q = record { held = hs; waiting = q; is = refl }
close_pops x n m fs (c ∷ cs) hs q =
    popped_at n m fs c cs (ltb c.frame n) _ _ refl
    (cond_both (has c.exception.serial (x ∷ holdings (mk fs hs cs q m))) _ _ (λ t. Popped n fs (popped n cs) m (close x n cs t)) (λ _. close_pops x n m fs cs hs q) (λ _. close_pops x n m fs cs _ _))

length_popped : (n : ℕ) (cs : List Catch) → length (popped n cs) ≡ left_below n cs
unfolding popped left_below
length_popped n [] = refl
length_popped n (c ∷ cs) = go (ltb c.frame n) (length_popped n cs)
  where
    go : (b : Bool) → length (popped n cs) ≡ left_below n cs → length (cond b (c ∷ cs) (popped n cs)) ≡ cond b (suc (length cs)) (left_below n cs)
    go true ih = refl
    go false ih = ih

left_below_all : (n : ℕ) (cs : List Catch) → left_below n cs ≤ length cs
unfolding left_below
left_below_all n [] = omega arith
left_below_all n (c ∷ cs) = let l = left_below_all n cs in cond_both (ltb c.frame n) _ _ (λ r. r ≤ suc (length cs)) (λ _. omega arith) (λ _. omega arith)

-- fewer catches need less room

room_for_fewer : (g : Goal) (a b : ℕ) → a ≤ b → RoomFor g b → RoomFor g a
room_for_fewer (goal.Handler frame pad selector) a b le r = omega arith
room_for_fewer (goal.Keep k) a b le r = tt

room_at_fewer : (o : Option Unwinding) (a b : ℕ) → a ≤ b → room_at o b → room_at o a
room_at_fewer None a b le r = tt
room_at_fewer (Some u) a b le r = room_for_fewer u.goal a b le r

-- the newest closes
left_below_tail : (n : ℕ) (c : Catch) (cs : List Catch) → left_below n cs ≤ left_below n (c ∷ cs)
unfolding left_below
left_below_tail n c cs = let l = left_below_all n cs in cond_both (ltb c.frame n) _ _ (λ r. left_below n cs ≤ r) (λ _. omega arith) (λ _. omega arith)

room_tail : (fs : List Activation) (c : Catch) (cs : List Catch) → RoomBelow fs (c ∷ cs) → RoomBelow fs cs
room_tail [] c cs r = tt
room_tail (f ∷ fs) c cs r = (room_at_fewer f.cleanup _ _ (left_below_tail (length fs) c cs) r.0, room_tail fs c cs r.1)

room_popped : (fs : List Activation) (n : ℕ) (cs : List Catch) → RoomBelow fs cs → RoomBelow fs (popped n cs)
unfolding popped
room_popped fs n [] r = r
room_popped fs n (c ∷ cs) r = cond_both (ltb c.frame n) _ _ (RoomBelow fs) (λ _. r) (λ _. room_popped fs n cs (room_tail fs c cs r))

-- one opens in the top frame, or above it
room_open : (fs : List Activation) (c : Catch) (cs : List Catch) → length fs ≤ suc c.frame → RoomBelow fs cs → RoomBelow fs (c ∷ cs)
unfolding left_below
room_open [] c cs le r = tt
room_open (f ∷ fs) c cs le r = (rw (le-ltb c.frame (length fs) (omega arith)) r.0, room_open fs c cs (omega arith) r.1)

-- the walk

abbrev Roomy : Outcome → Type 0
Roomy o = Room o.after

arrive_room : (e : Exception) (g : Goal) (f : Activation) (fs : List Activation) (hs : List HeldException) (cs : List Catch) (q : List ℕ) (n : ℕ)
    → reached g (length fs) ≡ true → length cs ≤ 32 → RoomFor g (length cs) → RoomBelow (f ∷ fs) cs → Roomy (arrive e g (mk (f ∷ fs) hs cs q n))
arrive_room e (goal.Handler frame pad selector) f fs hs cs q n t le r b =
    let p = eqb-true (length fs) frame t in
    record { most = r; below = room_open (at_place pad (f ∷ fs)) (record { exception = e; frame = frame; begun = false }) cs (omega arith) b }
arrive_room e (goal.Keep k) f fs hs cs q n t le r b = record { most = le; below = b }

-- the frame goes, with its catches
gone_room : (ask : Frame → Verdict) (u : Unwinding) (fs : List Activation) (hs : List HeldException) (cs : List Catch) (q : List ℕ) (n : ℕ)
    → ((hs : List HeldException) (cs : List Catch) (q : List ℕ) → length cs ≤ 32 → RoomFor u.goal (length cs) → RoomBelow fs cs → Roomy (walk ask u fs (mk fs hs cs q n)))
    → length cs ≤ 32 → RoomFor u.goal (left_below (length fs) cs) → RoomBelow fs cs → Roomy (walk ask u fs (close u.exception.serial (length fs) cs (mk fs hs cs q n)))
gone_room ask u fs hs cs q n ih le r b =
    let p = close_pops u.exception.serial (length fs) n fs cs hs q in
    let l = length_popped (length fs) cs in
    let a = left_below_all (length fs) cs in
    subst (λ t. Roomy (walk ask u fs t)) (sym p.is) (ih p.held (popped (length fs) cs) p.waiting (omega arith) (rw l r) (room_popped fs (length fs) cs b))

walk_room : (ask : Frame → Verdict) (u : Unwinding) (fs : List Activation) (hs : List HeldException) (cs : List Catch) (q : List ℕ) (n : ℕ)
    → length cs ≤ 32 → RoomFor u.goal (length cs) → RoomBelow fs cs → Roomy (walk ask u fs (mk fs hs cs q n))
unfolding walk
walk_room ask u [] hs cs q n le r b = bottom u.goal r
  where
    bottom : (g : Goal) → RoomFor g (length cs) → Roomy (arrive u.exception g (mk [] hs cs q n))
    bottom (goal.Handler frame pad selector) r = record { most = r; below = tt }
    bottom (goal.Keep k) r = record { most = le; below = tt }
walk_room ask u (f ∷ fs) hs cs q n le r b =
    let fewer = room_for_fewer u.goal _ _ (left_below_all (length fs) cs) r in
    cond_both (reached u.goal (length fs)) _ _ Roomy
    (λ t. arrive_room u.exception u.goal f fs hs cs q n t le r b)
    (λ _. given_both (cleanup_pad (ask f.frame)) _ _ Roomy
    (λ _. gone_room ask u fs hs cs q n (λ hs cs q. walk_room ask u fs hs cs q n) le fewer b.1)
    (λ pad _. record { most = le; below = (fewer, b.1) }))

-- the calls

throw_room : (v : Verdicts) (s : State) (e : Exception) → Room s → (w : Result Goal Refusal) → handler_for v e s ≡ w → Roomy (set_off v e w s)
throw_room v s e r (Ok (goal.Handler frame pad selector)) f =
    let l = ltb-true (length s.catches) 32 (good_of _ _ _ _ f).0 in
    walk_room _ (record { exception = e; goal = goal.Handler frame pad selector }) s.frames (own false e.serial s.held) s.catches s.waiting s.last r.most l r.below
throw_room v s e r (Ok (goal.Keep k)) f = absurd (search_not_keep (asks v e false) k s.frames (good_of _ _ _ _ f).1)
throw_room v s e r (Err n) f = r

force_room : (v : Verdicts) (s : State) (e : Exception) (keep : ℕ) → Room s → (w : Result Goal Refusal) → stop_for v e keep s ≡ w → Roomy (set_off v e w s)
force_room v s e keep r (Ok g) f =
    let p = down_to (asks v e true) keep g s.frames (good_of _ _ _ _ f).1 in
    subst (λ g. Roomy (set_off v e (Ok g) s)) p
    (walk_room _ (record { exception = e; goal = goal.Keep keep }) s.frames (own false e.serial s.held) s.catches s.waiting s.last r.most tt r.below)
force_room v s e keep r (Err n) f = r

raiser_room : (s : State) (x : ℕ) (act : Exception → Outcome) → Room s → ((e : Exception) → Roomy (act e)) → Roomy (with_raiser x s act)
raiser_room s x act r k =
    given_both (find x s.held) _ _ Roomy
    (λ _. cond_both (has x s.waiting) _ _ Roomy (λ _. r) (λ _. r))
    (λ h _. cond_both h.owned _ _ Roomy (λ _. k h.exception) (λ _. r))

release_room : (x : ℕ) (still : List ℕ) (s : State) → Room s → Room (release x still s)
unfolding release
release_room x still s r = cond_both (has x still) _ _ Room (λ _. r) (λ _. record { most = r.most; below = r.below })

frames_room : (v : Verdicts) (fs : List Activation) (hs : List HeldException) (cs : List Catch) (q : List ℕ) (n place x : ℕ) → Room (mk fs hs cs q n)
    → (Roomy (move place (mk fs hs cs q n))) × (Roomy (leave (mk fs hs cs q n))) × (Roomy (resume v x (mk fs hs cs q n)))
frames_room v [] hs cs q n place x r = (r, r, r)
frames_room v (f ∷ fs) hs cs q n place x r = (
  record { most = r.most; below = r.below },
  cond_both (has (length fs) (map (λ c. c.frame) cs)) _ _ Roomy (λ _. r) (λ _. given_both f.cleanup _ _ Roomy (λ _. record { most = r.most; below = r.below.1 }) (λ _ _. r)),
  given_both f.cleanup _ _ Roomy (λ _. r)
      (λ u ec. cond_both (eqb x u.exception.serial) _ _ Roomy
      (λ _. gone_room _ u fs hs cs q n (λ hs cs q. walk_room _ u fs hs cs q n) r.most (subst (λ o. room_at o (left_below (length fs) cs)) ec r.below.0) r.below.1)
      (λ _. r)),
)

catches_room : (v : Verdicts) (fs : List Activation) (hs : List HeldException) (cs : List Catch) (q : List ℕ) (n x : ℕ) → Room (mk fs hs cs q n)
    → (Roomy (rethrow v (mk fs hs cs q n))) × (Roomy (begin x (mk fs hs cs q n))) × (Roomy (end (mk fs hs cs q n)))
unfolding left_below
catches_room v fs hs [] q n x r = (r, r, r)
catches_room v fs hs (c ∷ cs) q n x r = (
  cond_both c.begun _ _ Roomy
      (λ _. cond_both (has c.exception.serial (unwinding fs)) _ _ Roomy (λ _. r) (λ _. throw_room v (mk fs hs (c ∷ cs) q n) c.exception r _ refl))
      (λ _. r),
  cond_both (eqb x c.exception.serial && not c.begun) _ _ Roomy (λ _. record { most = r.most; below = same fs r.below }) (λ _. r),
  cond_both c.begun _ _ Roomy
      (λ _. cond_both (eqb (suc c.frame) (length fs)) _ _ Roomy
      (λ _. release_room c.exception.serial _ (mk fs hs cs q n) (record { most = let m = r.most in omega arith; below = room_tail fs c cs r.below }))
      (λ _. r))
      (λ _. r),
)
  where
    same : (fs : List Activation) → RoomBelow fs (c ∷ cs) → RoomBelow fs (record { exception = c.exception; frame = c.frame; begun = true } ∷ cs)
    same [] b = tt
    same (f ∷ fs) b = (b.0, same fs b.1)

collect_room : (fs : List Activation) (hs : List HeldException) (cs : List Catch) (q : List ℕ) (n : ℕ) → Room (mk fs hs cs q n) → Roomy (collect (mk fs hs cs q n))
collect_room fs hs cs [] n r = r
collect_room fs hs cs (x ∷ q) n r = record { most = r.most; below = r.below }

pub step_room : (v : Verdicts) (c : Call) (s : State) → Room s → Room (step v c s).after
unfolding step
step_room v (Enter unit place) s r = cond_both (ltb (length s.frames) 64) _ _ Roomy (λ _. record { most = r.most; below = (tt, r.below) }) (λ _. r)
step_room v (Move place) s r = (frames_room v s.frames s.held s.catches s.waiting s.last place 0 r).0
step_room v Leave s r = (frames_room v s.frames s.held s.catches s.waiting s.last 0 0 r).1
step_room v (Make class thrown) s r =
    cond_both (ltb (length s.held + length s.waiting) 16) _ _ Roomy
    (λ _. cond_both (ltb s.last 4294967295) _ _ Roomy (λ _. record { most = r.most; below = r.below }) (λ _. r))
    (λ _. r)
step_room v (Raise x) s r = raiser_room s x _ r (λ e. throw_room v s e r _ refl)
step_room v (Resume x) s r = (frames_room v s.frames s.held s.catches s.waiting s.last 0 x r).2
step_room v Rethrow s r = (catches_room v s.frames s.held s.catches s.waiting s.last 0 r).0
step_room v (Force x keep) s r = raiser_room s x _ r (λ e. force_room v s e keep r _ refl)
step_room v (Begin x) s r = (catches_room v s.frames s.held s.catches s.waiting s.last x r).1
step_room v End s r = (catches_room v s.frames s.held s.catches s.waiting s.last 0 r).2
step_room v (Delete x) s r = raiser_room s x _ r (λ e. release_room e.serial _ (disown e.serial s) (record { most = r.most; below = r.below }))
step_room v Collect s r = collect_room s.frames s.held s.catches s.waiting s.last r

final_room : (v : Verdicts) (calls : List Call) (s : State) → Room s → Room (final v calls s)
unfolding final
final_room v [] s r = r
final_room v (c ∷ cs) s r = final_room v cs (step v c s).after (step_room v c s r)

start_room : (n : ℕ) → Room (start n)
start_room n = record { most = omega arith; below = tt }

pub room_kept : RoomKept
room_kept = record { at_start = start_room; by_step = step_room; in_runs = λ v n calls. final_room v calls (start n) (start_room n) }

pub bounds_kept : BoundsKept
bounds_kept v n calls =
    let g = (runs_good v n calls).1 in
    let few = g.waits.few in
    let m = length-map (final v calls (start n)).held (λ (h : HeldException). h.exception.serial) in
    record { frames = g.tall; exceptions = omega arith; catches = (room_kept.in_runs v n calls).most }
