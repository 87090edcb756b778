-- The smaller laws: refusals leave the state, the handler count, the order of catches.
use Rattle.std.proofs.Common.{◌≡◌, ℕ, suc, ◌+◌, Bool, true, false, cond, not, ◌&&◌, ◌||◌, eqb, ltb, ◌⊎◌, List, [], ◌∷◌, map, length, ℤ, Some, None, Ok, Err, Option, Result, sym, refl, ap, ◌∙◌, subst, inl, inr}
use Rattle.std.proofs.lemmas.Bool.{false_from_ne_true, cond_both, eqb-true, eqb-false, eq-eqb, false≢true, and_parts, or_cases, or_left, or_right, not-true}
use Rattle.personality.specs.declared.verdict.Verdict.{Verdict}
use Rattle.calls.specs.declared.answer.Answer.TheVariants.{Refused, Begun, Ended}
use Rattle.calls.specs.declared.answer.Refusal.{Refusal}
use Rattle.calls.specs.declared.call.Call.TheVariants.{Enter, Move, Leave, Make, Raise, Resume, Rethrow, Force, Begin, End, Delete, Collect}
use Rattle.calls.specs.declared.exception.Catch.{Catch}
use Rattle.calls.specs.declared.exception.Exception.{Exception}
use Rattle.calls.specs.declared.exception.HeldException.{HeldException}
use Rattle.calls.specs.declared.frame.Activation.{Activation}
use Rattle.calls.specs.declared.frame.Frame.{Frame}
use Rattle.calls.specs.declared.frame.Goal.{Goal}
use Rattle.calls.specs.declared.frame.Goal.TheVariants as goal
use Rattle.calls.specs.declared.frame.Unwinding.{Unwinding}
use Rattle.rules.specs.Book.{refused}
use Rattle.rules.specs.Calls.{step, move, leave, with_raiser, collect, set_off, rethrow, resume, begin, end, begun_catches, has_unbegun, handler_count}
use Rattle.rules.specs.Laws.{RefusalsLeave, Tally, none, one_more, not_begun, another, Unwinds, Unbegun, Counts, HandlerCounts, CatchesOrdered}
use Rattle.rules.specs.Lists.{given, has, In}
use Rattle.rules.specs.Search.{Verdicts, handler_for, stop_for}
use Rattle.rules.specs.State.{State, Outcome, find, unwinding, holdings, release}
use Rattle.rules.specs.Walk.{arrive, gone, cleanup_pad, reached, walk, walk_from}
use Rattle.rules.proofs.Inv.{mk}
use Rattle.rules.proofs.Lists.{given_both, has_here, has_later}
use Rattle.rules.proofs.Runs.{runs_good}

-- refusals

-- a refused outcome is s again
abbrev Leaves : State → Outcome → Type 0
Leaves s o = (r : Refusal) → o.answer ≡ Refused r → o.after ≡ s

accepted : (s : State) (o : Outcome) → refused o.answer ≡ false → Leaves s o
accepted s o e r f = absurd (false≢true (sym e ∙ ap refused f))

same : (s : State) (n : Refusal) → Leaves s (record { answer = Refused n; after = s })
same s n r e = refl

-- a walk is not refused

arrives : (e : Exception) (g : Goal) (s : State) → refused (arrive e g s).answer ≡ false
arrives e (goal.Handler frame pad selector) s = refl
arrives e (goal.Keep k) s = refl

pub walks : (ask : Frame → Verdict) (u : Unwinding) (fs : List Activation) (s : State) → refused (walk ask u fs s).answer ≡ false
unfolding walk
walks ask u [] s = arrives u.exception u.goal s
walks ask u (f ∷ fs) s =
    cond_both (reached u.goal (length fs)) _ _ (λ (o : Outcome). refused o.answer ≡ false)
    (λ _. arrives u.exception u.goal s)
    (λ _. given_both (cleanup_pad (ask f.frame)) _ _ (λ (o : Outcome). refused o.answer ≡ false)
    (λ _. walks ask u fs (gone u.exception.serial fs s))
    (λ pad _. refl))

raiser_leaves : (s : State) (x : ℕ) (act : Exception → Outcome) → ((e : Exception) → Leaves s (act e)) → Leaves s (with_raiser x s act)
raiser_leaves s x act k =
    given_both (find x s.held) _ _ (Leaves s)
    (λ _. cond_both (has x s.waiting) _ _ (Leaves s) (λ _. same s _) (λ _. same s _))
    (λ h _. cond_both h.owned _ _ (Leaves s) (λ _. k h.exception) (λ _. same s _))

set_off_leaves : (v : Verdicts) (e : Exception) (w : Result Goal Refusal) (s : State) → Leaves s (set_off v e w s)
set_off_leaves v e (Ok g) s = accepted s (walk_from v _ _) (walks _ _ _ _)
set_off_leaves v e (Err r) s = same s r

frames_leave : (v : Verdicts) (fs : List Activation) (hs : List HeldException) (cs : List Catch) (q : List ℕ) (n : ℕ) (place x : ℕ)
    → (Leaves (mk fs hs cs q n) (move place (mk fs hs cs q n))) × (Leaves (mk fs hs cs q n) (leave (mk fs hs cs q n))) × (Leaves (mk fs hs cs q n) (resume v x (mk fs hs cs q n)))
frames_leave v [] hs cs q n place x = (same _ _, same _ _, same _ _)
frames_leave v (f ∷ fs) hs cs q n place x = (
  accepted _ _ refl,
  cond_both (has (length fs) (map (λ c. c.frame) cs)) _ _ (Leaves (mk (f ∷ fs) hs cs q n)) (λ _. same _ _)
      (λ _. given_both f.cleanup _ _ (Leaves (mk (f ∷ fs) hs cs q n)) (λ _. accepted _ _ refl) (λ _ _. same _ _)),
  given_both f.cleanup _ _ (Leaves (mk (f ∷ fs) hs cs q n)) (λ _. same _ _)
      (λ u _. cond_both (eqb x u.exception.serial) _ _ (Leaves (mk (f ∷ fs) hs cs q n)) (λ _. accepted _ (walk _ _ _ _) (walks _ _ _ _)) (λ _. same _ _)),
)

catches_leave : (v : Verdicts) (fs : List Activation) (hs : List HeldException) (cs : List Catch) (q : List ℕ) (n x : ℕ)
    → (Leaves (mk fs hs cs q n) (rethrow v (mk fs hs cs q n))) × (Leaves (mk fs hs cs q n) (begin x (mk fs hs cs q n))) × (Leaves (mk fs hs cs q n) (end (mk fs hs cs q n)))
catches_leave v fs hs [] q n x = (same _ _, same _ _, same _ _)
catches_leave v fs hs (c ∷ cs) q n x = (
  cond_both c.begun _ _ (Leaves (mk fs hs (c ∷ cs) q n))
      (λ _. cond_both (has c.exception.serial (unwinding fs)) _ _ (Leaves (mk fs hs (c ∷ cs) q n)) (λ _. same _ _) (λ _. set_off_leaves v c.exception (handler_for v c.exception (mk fs hs (c ∷ cs) q n)) _))
      (λ _. same _ _),
  cond_both (eqb x c.exception.serial && not c.begun) _ _ (Leaves (mk fs hs (c ∷ cs) q n)) (λ _. accepted _ _ refl) (λ _. same _ _),
  cond_both c.begun _ _ (Leaves (mk fs hs (c ∷ cs) q n))
      (λ _. cond_both (eqb (suc c.frame) (length fs)) _ _ (Leaves (mk fs hs (c ∷ cs) q n)) (λ _. accepted _ _ refl) (λ _. same _ _))
      (λ _. same _ _),
)

collect_leaves : (fs : List Activation) (hs : List HeldException) (cs : List Catch) (q : List ℕ) (n : ℕ) → Leaves (mk fs hs cs q n) (collect (mk fs hs cs q n))
collect_leaves fs hs cs [] n = same _ _
collect_leaves fs hs cs (x ∷ q) n = accepted _ _ refl

pub refusals_leave : RefusalsLeave
unfolding step
refusals_leave v (Enter unit place) s = cond_both (ltb (length s.frames) 64) _ _ (Leaves s) (λ _. accepted s _ refl) (λ _. same s _)
refusals_leave v (Move place) s = (frames_leave v s.frames s.held s.catches s.waiting s.last place 0).0
refusals_leave v Leave s = (frames_leave v s.frames s.held s.catches s.waiting s.last 0 0).1
refusals_leave v (Make class thrown) s =
    cond_both (ltb (length s.held + length s.waiting) 16) _ _ (Leaves s)
    (λ _. cond_both (ltb s.last 4294967295) _ _ (Leaves s) (λ _. accepted s _ refl) (λ _. same s _))
    (λ _. same s _)
refusals_leave v (Raise x) s = raiser_leaves s x _ (λ e. set_off_leaves v e (handler_for v e s) s)
refusals_leave v (Resume x) s = (frames_leave v s.frames s.held s.catches s.waiting s.last 0 x).2
refusals_leave v Rethrow s = (catches_leave v s.frames s.held s.catches s.waiting s.last 0).0
refusals_leave v (Force x keep) s = raiser_leaves s x _ (λ e. set_off_leaves v e (stop_for v e keep s) s)
refusals_leave v (Begin x) s = (catches_leave v s.frames s.held s.catches s.waiting s.last x).1
refusals_leave v End s = (catches_leave v s.frames s.held s.catches s.waiting s.last 0).2
refusals_leave v (Delete x) s = raiser_leaves s x _ (λ e. accepted s _ refl)
refusals_leave v Collect s = collect_leaves s.frames s.held s.catches s.waiting s.last

-- the handler count

tally : (x : ℕ) (cs : List Catch) → Tally x cs (begun_catches x cs)
unfolding begun_catches
tally x [] = none
tally x (c ∷ cs) = go (eqb x c.exception.serial) refl c.begun refl (tally x cs)
  where
    go : (a : Bool) → eqb x c.exception.serial ≡ a → (b : Bool) → c.begun ≡ b → Tally x cs (begun_catches x cs) → Tally x (c ∷ cs) (cond (a && b) (suc (begun_catches x cs)) (begun_catches x cs))
    go true ea true eb t = one_more c cs _ (sym (eqb-true x c.exception.serial ea)) eb t
    go true ea false eb t = not_begun c cs _ eb t
    go false ea b eb t = another c cs _ (λ p. eqb-false x c.exception.serial ea (sym p)) t

-- membership as the rules test it, and as the law says it

pub unwinds_has : (x : ℕ) (f : Activation) (u : Unwinding) (fs : List Activation) → In f fs → f.cleanup ≡ Some u → u.exception.serial ≡ x → has x (unwinding fs) ≡ true
unfolding unwinding
unwinds_has x f u [] i ec es = absurd i
unwinds_has x f u (g ∷ fs) (inl p) ec es = rw (← p, ec, es) (has_here x (unwinding fs))
unwinds_has x f u (g ∷ fs) (inr i) ec es = later g.cleanup (unwinds_has x f u fs i ec es)
  where
    later : (o : Option Unwinding) → has x (unwinding fs) ≡ true → has x (given o (unwinding fs) (λ u. u.exception.serial ∷ unwinding fs)) ≡ true
    later None t = t
    later (Some w) t = has_later x w.exception.serial (unwinding fs) t

pub has_unwinds : (x : ℕ) (fs : List Activation) → has x (unwinding fs) ≡ true → (f : Activation) × (u : Unwinding) × In f fs × (f.cleanup ≡ Some u) × (u.exception.serial ≡ x)
unfolding unwinding has
has_unwinds x [] t = absurd (false≢true t)
has_unwinds x (g ∷ fs) t = go g.cleanup refl (has_unwinds x fs) t
  where
    further : ((f : Activation) × (u : Unwinding) × In f fs × (f.cleanup ≡ Some u) × (u.exception.serial ≡ x)) → (f : Activation) × (u : Unwinding) × In f (g ∷ fs) × (f.cleanup ≡ Some u) × (u.exception.serial ≡ x)
    further p = (p.0, p.1, inr p.2, p.3, p.4)

    go : (o : Option Unwinding) → g.cleanup ≡ o → (has x (unwinding fs) ≡ true → (f : Activation) × (u : Unwinding) × In f fs × (f.cleanup ≡ Some u) × (u.exception.serial ≡ x))
        → has x (given o (unwinding fs) (λ u. u.exception.serial ∷ unwinding fs)) ≡ true
        → (f : Activation) × (u : Unwinding) × In f (g ∷ fs) × (f.cleanup ≡ Some u) × (u.exception.serial ≡ x)
    go None eo ih t = further (ih t)
    go (Some w) eo ih t =
        elim (or_cases (eqb x w.exception.serial) (has x (unwinding fs)) t)
        [ inl e ↦ (g, w, inl refl, eo, sym (eqb-true x w.exception.serial e)) | inr e ↦ further (ih e) ]

unbegun_has : (x : ℕ) (c : Catch) (cs : List Catch) → In c cs → c.exception.serial ≡ x → c.begun ≡ false → has_unbegun x cs ≡ true
unfolding has_unbegun
unbegun_has x c [] i es eb = absurd i
unbegun_has x c (d ∷ cs) (inl p) es eb = rw (← p, es, eb, eq-eqb x x refl)
unbegun_has x c (d ∷ cs) (inr i) es eb = or_right (eqb x d.exception.serial && not d.begun) (has_unbegun x cs) (unbegun_has x c cs i es eb)

has_unbegun_in : (x : ℕ) (cs : List Catch) → has_unbegun x cs ≡ true → (c : Catch) × In c cs × (c.exception.serial ≡ x) × (c.begun ≡ false)
unfolding has_unbegun
has_unbegun_in x [] t = absurd (false≢true t)
has_unbegun_in x (c ∷ cs) t = go (or_cases (eqb x c.exception.serial && not c.begun) (has_unbegun x cs) t) (has_unbegun_in x cs)
  where
    go : ((eqb x c.exception.serial && not c.begun) ≡ true) ⊎ (has_unbegun x cs ≡ true) → (has_unbegun x cs ≡ true → (c : Catch) × In c cs × (c.exception.serial ≡ x) × (c.begun ≡ false))
        → (d : Catch) × In d (c ∷ cs) × (d.exception.serial ≡ x) × (d.begun ≡ false)
    go (inl e) ih = let es = and_parts (eqb x c.exception.serial) (not c.begun) e in (c, inl refl, sym (eqb-true x c.exception.serial es.0), not-true c.begun es.1)
    go (inr e) ih = let p = ih e in (p.0, inr p.1, p.2, p.3)

counts : (x : ℕ) (s : State) → Counts x s (handler_count x s)
counts x s =
    record {
      k = begun_catches x s.catches;
      tally = tally x s.catches;
      minus = λ p. rw (either p);
      plus = λ nu nb. rw (false_from_ne_true (has x (unwinding s.frames)) (λ t. nu (has_unwinds x s.frames t)), false_from_ne_true (has_unbegun x s.catches) (λ t. nb (has_unbegun_in x s.catches t)));
    }
  where
    either : Unwinds x s ⊎ Unbegun x s → (has x (unwinding s.frames) || has_unbegun x s.catches) ≡ true
    either (inl p) = or_left (has x (unwinding s.frames)) (has_unbegun x s.catches) (unwinds_has x p.0 p.1 s.frames p.2 p.3 p.4)
    either (inr p) = or_right (has x (unwinding s.frames)) (has_unbegun x s.catches) (unbegun_has x p.0 s.catches p.1 p.2 p.3)

-- an exception that goes to wait changes neither frames nor catches
counts_released : (x y : ℕ) (hs : List ℕ) (s : State) (n : ℤ) → Counts x s n → Counts x (release y hs s) n
unfolding release
counts_released x y hs s n c =
    cond_both (has y hs) _ _ (λ t. Counts x t n) (λ _. c) (λ _. record { k = c.k; tally = c.tally; minus = c.minus; plus = c.plus })

abbrev BegunRight : ℕ → Outcome → Type 0
BegunRight x o = (n : ℤ) → o.answer ≡ Begun n → Counts x o.after n

abbrev EndedRight : Outcome → Type 0
EndedRight o = (x : ℕ) (n : ℤ) (w : Bool) → o.answer ≡ Ended x n w → Counts x o.after n

not_begun_answer : (x : ℕ) (r : Refusal) (s : State) → BegunRight x (record { answer = Refused r; after = s })
not_begun_answer x r s n e = absurd cc

not_ended_answer : (r : Refusal) (s : State) → EndedRight (record { answer = Refused r; after = s })
not_ended_answer r s x n w e = absurd cc

begin_counts : (fs : List Activation) (hs : List HeldException) (cs : List Catch) (q : List ℕ) (n x : ℕ) → BegunRight x (begin x (mk fs hs cs q n))
begin_counts fs hs [] q n x = not_begun_answer x _ _
begin_counts fs hs (c ∷ cs) q n x =
    cond_both (eqb x c.exception.serial && not c.begun) _ _ (BegunRight x)
    (λ _ m e. let t : State = mk fs hs (record { exception = c.exception; frame = c.frame; begun = true } ∷ cs) q n in
    let p : handler_count x t ≡ m = cc in
    subst (Counts x t) p (counts x t))
    (λ _. not_begun_answer x _ _)

end_counts : (fs : List Activation) (hs : List HeldException) (cs : List Catch) (q : List ℕ) (n : ℕ) → EndedRight (end (mk fs hs cs q n))
end_counts fs hs [] q n = not_ended_answer _ _
end_counts fs hs (c ∷ cs) q n =
    cond_both c.begun _ _ EndedRight
    (λ _. cond_both (eqb (suc c.frame) (length fs)) _ _ EndedRight
    (λ _ x m w e. let t : State = mk fs hs cs q n in
    let p : c.exception.serial ≡ x = cc in
    let r : handler_count c.exception.serial t ≡ m = cc in
    counts_released x c.exception.serial (holdings t) t m (subst (λ y. Counts y t m) p (subst (Counts c.exception.serial t) r (counts c.exception.serial t))))
    (λ _. not_ended_answer _ _))
    (λ _. not_ended_answer _ _)

pub handler_counts_lem : HandlerCounts
unfolding step
handler_counts_lem v s =
    record {
      at_begin = λ x n e. begin_counts s.frames s.held s.catches s.waiting s.last x n e;
      at_end = λ x n w e. end_counts s.frames s.held s.catches s.waiting s.last x n w e;
    }

-- the order of catches

pub catches_ordered_lem : CatchesOrdered
catches_ordered_lem v n calls = (runs_good v n calls).1.ordered
