-- Catches close: that the state closes them from the newest on, and the book by what is left, comes to the same.
use Rattle.std.proofs.Common.{◌≡◌, ℕ, suc, ◌≤◌, Bool, true, false, cond, ◌||◌, eqb, ltb, List, [], ◌∷◌, ◌++◌, sym, refl, ap, ◌∙◌, append_assoc, append-nil, arith}
use mathlib.Core.List.{map-map, map-append}
use Rattle.std.proofs.Math.Bool.{or_assoc}
use Rattle.std.proofs.lemmas.Bool.{cond_both, eqb-true, ltb-true, ltb-false, lt-ltb, le-ltb, or_parts}
use Rattle.calls.specs.declared.exception.Catch.{Catch}
use Rattle.calls.specs.declared.exception.Exception.{Exception}
use Rattle.calls.specs.declared.exception.HeldException.{HeldException}
use Rattle.calls.specs.declared.frame.Activation.{Activation}
use Rattle.rules.specs.Book.{Caught, catchers, lost, below, above}
use Rattle.rules.specs.Laws.{Ordered}
use Rattle.rules.specs.Lists.{has, All}
use Rattle.rules.specs.State.{State, without, raisers, unwinding, caught, release}
use Rattle.rules.specs.Walk.{close}
use Rattle.rules.proofs.Held.{names, names_without, raisers_without, all_without}
use Rattle.rules.proofs.Inv.{mk, bare, bare_catches}
use Rattle.rules.proofs.Lists.{or_front, has_append, has_both, has_cons, has_here, has_skip, has_right}
use Rattle.rules.proofs.Waits.{W, w_same, w_release}

-- who loses the last holder

pub lost_same : (hs hs' xs : List ℕ) → ((y : ℕ) → has y hs ≡ has y hs') → lost hs xs ≡ lost hs' xs
unfolding lost
lost_same hs hs' [] e = refl
lost_same hs hs' (x ∷ xs) e = rw (e x, lost_same hs hs' xs e)

pub lost_append : (hs a b : List ℕ) → lost hs (a ++ b) ≡ lost (b ++ hs) a ++ lost hs b
unfolding lost
lost_append hs [] b = refl
lost_append hs (x ∷ a) b =
    rw (has_append x a b, has_append x b hs, or_assoc (has x a) (has x b) (has x hs), lost_append hs a b) (go (has x a || (has x b || has x hs)))
  where
    go : (t : Bool) → cond t (lost (b ++ hs) a ++ lost hs b) (x ∷ (lost (b ++ hs) a ++ lost hs b)) ≡ cond t (lost (b ++ hs) a) (x ∷ lost (b ++ hs) a) ++ lost hs b
    go true = refl
    go false = refl

-- the catches that are left and the waiting line, once the catches but those of the n lowest frames have closed; O are the
-- exceptions that have another holder than a catch
abbrev pub cut : List ℕ → ℕ → List Caught → List ℕ → List Caught × List ℕ
cut O n cs q = (below n cs, q ++ lost (O ++ catchers (below n cs)) (catchers (above n cs)))

pub cut_same : (O O' : List ℕ) (n : ℕ) (cs : List Caught) (q : List ℕ) → ((y : ℕ) → has y O ≡ has y O') → cut O n cs q ≡ cut O' n cs q
cut_same O O' n cs q e =
    ap (λ l. (below n cs, q ++ l)) (lost_same (O ++ catchers (below n cs)) (O' ++ catchers (below n cs)) (catchers (above n cs)) (λ y. has_both y O O' (catchers (below n cs)) (catchers (below n cs)) (e y) refl))

-- each catch is on one side
pub has_split : (y n : ℕ) (cs : List Caught) → (has y (catchers (above n cs)) || has y (catchers (below n cs))) ≡ has y (catchers cs)
unfolding above below has
has_split y n [] = refl
has_split y n (c ∷ cs) = go (ltb c.frame n) (eqb y c.serial) (has y (catchers (above n cs))) (has y (catchers (below n cs))) (has_split y n cs) refl refl
  where
    go : (t e p q : Bool) → (p || q) ≡ has y (catchers cs) → has y (catchers (above n cs)) ≡ p → has y (catchers (below n cs)) ≡ q
        → (has y (catchers (cond t (above n cs) (c ∷ above n cs))) || has y (catchers (cond t (c ∷ below n cs) (below n cs)))) ≡ (eqb y c.serial || has y (catchers cs))
    go true e p q ih ep eq = rw (ep, eq, ← ih) (or_front p (eqb y c.serial) q)
    go false e p q ih ep eq = rw (ep, eq, ← ih) (or_assoc (eqb y c.serial) p q)

-- of ordered catches

pub ordered_widen : (m n : ℕ) (cs : List Catch) → m ≤ n → Ordered m cs → Ordered n cs
ordered_widen m n [] le o = tt
ordered_widen m n (c ∷ cs) le o = (let l = o.0 in omega arith, o.1)

pub below_all : (n : ℕ) (cs : List Catch) → Ordered n cs → below n (bare_catches cs) ≡ bare_catches cs
unfolding below
below_all n [] o = refl
below_all n (c ∷ cs) o = rw (lt-ltb c.frame n o.0) (ap (λ r. bare c ∷ r) (below_all n cs (ordered_widen (suc c.frame) n cs o.0 o.1)))

pub above_none : (n : ℕ) (cs : List Catch) → Ordered n cs → above n (bare_catches cs) ≡ []
unfolding above
above_none n [] o = refl
above_none n (c ∷ cs) o = rw (lt-ltb c.frame n o.0) (above_none n cs (ordered_widen (suc c.frame) n cs o.0 o.1))

pub cut_fixed : (O : List ℕ) (n : ℕ) (cs : List Catch) (q : List ℕ) → Ordered n cs → cut O n (bare_catches cs) q ≡ (bare_catches cs, q)
unfolding lost
cut_fixed O n cs q o = rw (above_none n cs o, below_all n cs o) (ap (λ l. (bare_catches cs, l)) (append-nil q))

-- to close down to n and then down to m is to close down to m

below_twice : (m n : ℕ) (cs : List Caught) → m ≤ n → below m (below n cs) ≡ below m cs
unfolding below
below_twice m n [] le = refl
below_twice m n (c ∷ cs) le =
    cond_both (ltb c.frame n) _ _ (λ r. below m r ≡ cond (ltb c.frame m) (c ∷ below m cs) (below m cs))
    (λ _. rw (below_twice m n cs le))
    (λ e. let far = ltb-false c.frame n e in rw (le-ltb c.frame m (omega arith)) (below_twice m n cs le))

above_twice : (k m n : ℕ) (cs : List Catch) → m ≤ n → Ordered k cs → above m (bare_catches cs) ≡ above n (bare_catches cs) ++ above m (below n (bare_catches cs))
unfolding above below
above_twice k m n [] le o = refl
above_twice k m n (c ∷ cs) le o = go (ltb c.frame n) refl (above_twice (suc c.frame) m n cs le o.1)
  where
    go : (t : Bool) → ltb c.frame n ≡ t → above m (bare_catches cs) ≡ above n (bare_catches cs) ++ above m (below n (bare_catches cs))
        → above m (bare_catches (c ∷ cs)) ≡ cond t (above n (bare_catches cs)) (bare c ∷ above n (bare_catches cs)) ++ above m (cond t (bare c ∷ below n (bare_catches cs)) (below n (bare_catches cs)))
    go true e ih =
        let o' : Ordered n cs = ordered_widen (suc c.frame) n cs (ltb-true c.frame n e) o.1 in
        rw (above_none n cs o', below_all n cs o')
    go false e ih = let far = ltb-false c.frame n e in rw (le-ltb c.frame m (omega arith), ih)

pub cut_twice : (O : List ℕ) (k m n : ℕ) (cs : List Catch) (q : List ℕ) → m ≤ n → Ordered k cs
    → cut O m (cut O n (bare_catches cs) q).0 (cut O n (bare_catches cs) q).1 ≡ cut O m (bare_catches cs) q
cut_twice O k m n cs q le o =
    let C : List Caught = bare_catches cs in
    rw (
      below_twice m n C le,
      above_twice k m n cs le o,
      map-append (λ (c : Caught). c.serial) (above n C) (above m (below n C)),
      lost_append (O ++ catchers (below m C)) (catchers (above n C)) (catchers (above m (below n C))),
      lost_same (catchers (above m (below n C)) ++ (O ++ catchers (below m C))) (O ++ catchers (below n C)) (catchers (above n C)) same,
    )
    (ap (λ l. (below m C, l)) (append_assoc q _ _))
  where
    shift : (y : ℕ) (a b c : List ℕ) → has y (a ++ (b ++ c)) ≡ (has y b || (has y a || has y c))
    shift y a b c = rw (has_append y a (b ++ c), has_append y b c) (or_front (has y a) (has y b) (has y c))

    same : (y : ℕ) → has y (catchers (above m (below n (bare_catches cs))) ++ (O ++ catchers (below m (bare_catches cs)))) ≡ has y (O ++ catchers (below n (bare_catches cs)))
    same y =
        shift y (catchers (above m (below n (bare_catches cs)))) O (catchers (below m (bare_catches cs)))
        ∙ rw (← (below_twice m n (bare_catches cs) le), has_split y m (below n (bare_catches cs)), has_append y O (catchers (below n (bare_catches cs))))

-- the state's closing

-- the exceptions that have another holder than a catch, while x unwinds
abbrev pub besides : ℕ → List HeldException → List Activation → List ℕ
besides x hs fs = x ∷ (raisers hs ++ unwinding fs)

-- what closing makes of the state with the frames fs, held exceptions hs, catches cs, waiting line q and last serial n, while x
-- unwinds; P is something that is known of the exceptions
pub record Closed (all col : List ℕ) (P : Exception → Type 0) (x m : ℕ) (fs : List Activation) (hs : List HeldException) (cs : List Catch) (q : List ℕ) (n : ℕ) (t : State) : Type 0 where
  pub shape : t ≡ mk fs t.held t.catches t.waiting n
  pub owners : raisers t.held ≡ raisers hs
  pub cuts : ◌≡◌ {A = List Caught × List ℕ} (bare_catches t.catches, t.waiting) (cut (besides x hs fs) m (bare_catches cs) q)
  pub ordered : Ordered m t.catches
  pub waits : W all (names t.held) (besides x hs fs ++ caught t.catches) t.waiting col n
  pub known_held : All (λ r. P r.exception) t.held
  pub known_caught : All (λ c. P c.exception) t.catches

-- x loses its last holder where it loses none later, and nobody holds it at the end
test : (y m : ℕ) (O : List ℕ) (cs : List Catch)
    → (has y (catchers (above m (bare_catches cs))) || has y (O ++ catchers (below m (bare_catches cs)))) ≡ has y (O ++ caught cs)
test y m O cs =
    rw (has_append y O (catchers (below m (bare_catches cs))), has_append y O (caught cs), ← (map-map (λ (c : Caught). c.serial) bare cs), ← (has_split y m (bare_catches cs)))
    (or_front (has y (catchers (above m (bare_catches cs)))) (has y O) (has y (catchers (below m (bare_catches cs)))))

module _ (all col : List ℕ) (P : Exception → Type 0) (x m : ℕ) (fs : List Activation) (n : ℕ) where
  -- what is known of a state whose catches are to close
  pub record Closing (hs : List HeldException) (cs : List Catch) (q : List ℕ) : Type 0 where
    pub waits : W all (names hs) (besides x hs fs ++ caught cs) q col n
    pub known_held : All (λ r. P r.exception) hs
    pub known_caught : All (λ c. P c.exception) cs

  closed_none : (hs : List HeldException) (cs : List Catch) (q : List ℕ) → Ordered m cs → Closing hs cs q → Closed all col P x m fs hs cs q n (mk fs hs cs q n)
  closed_none hs cs q o g =
      record { shape = refl; owners = refl; cuts = sym (cut_fixed (besides x hs fs) m cs q o); ordered = o; waits = g.waits; known_held = g.known_held; known_caught = g.known_caught }

  -- the newest catch, in a frame that goes, closes
  closed_one : (hs : List HeldException) (c : Catch) (cs : List Catch) (q : List ℕ) (t : Bool) → ltb c.frame m ≡ false
      → has c.exception.serial (besides x hs fs ++ caught cs) ≡ t
      → Closing hs (c ∷ cs) q
      → ((hs : List HeldException) (q : List ℕ) → Closing hs cs q → Closed all col P x m fs hs cs q n (close x m cs (mk fs hs cs q n)))
      → Closed all col P x m fs hs (c ∷ cs) q n (close x m cs (cond t (mk fs hs cs q n) (mk fs (without c.exception.serial hs) cs (q ++ (c.exception.serial ∷ [])) n)))
  unfolding below above lost
  closed_one hs c cs q true far e g ih =
      let y = c.exception.serial in
      let O : List ℕ = besides x hs fs in
      let r = ih hs q (record {
        waits = w_same all (names hs) (O ++ (y ∷ caught cs)) (O ++ caught cs) q col n (λ z. kept z (eqb z y) refl) g.waits;
        known_held = g.known_held;
        known_caught = g.known_caught.1;
      }) in
      record { shape = r.shape; owners = r.owners; cuts = r.cuts ∙ rw (far, test y m O cs, e); ordered = r.ordered; waits = r.waits; known_held = r.known_held; known_caught = r.known_caught }
    where
      kept : (z : ℕ) (b : Bool) → eqb z c.exception.serial ≡ b → has z (besides x hs fs ++ caught cs) ≡ has z (besides x hs fs ++ (c.exception.serial ∷ caught cs))
      kept z true eb =
          rw (eqb-true z c.exception.serial eb)
          (e ∙ sym (has_right c.exception.serial (besides x hs fs) (c.exception.serial ∷ caught cs) (has_here c.exception.serial (caught cs))))
      kept z false eb = has_both z (besides x hs fs) (besides x hs fs) (caught cs) (c.exception.serial ∷ caught cs) refl (sym (has_skip z c.exception.serial (caught cs) eb))
  closed_one hs c cs q false far e g ih =
      let y = c.exception.serial in
      let O : List ℕ = besides x hs fs in
      let r = ih (without y hs) (q ++ (y ∷ []))
      (record {
        waits = rw (names_without y hs, same) (w_release all (names hs) (O ++ (y ∷ caught cs)) (O ++ caught cs) q col n y
            (λ z ne. has_both z O O (caught cs) (y ∷ caught cs) refl (sym (has_skip z y (caught cs) ne)))
            (has_right y O (y ∷ caught cs) (has_here y (caught cs))) e g.waits);
        known_held = all_without (λ r. P r.exception) y hs g.known_held;
        known_caught = g.known_caught.1;
      }) in
      record {
        shape = r.shape;
        owners = r.owners ∙ same;
        cuts = r.cuts ∙ rw (same, far, test y m O cs, e) (ap (λ l. (below m (bare_catches cs), l)) (append_assoc q (y ∷ []) _));
        ordered = r.ordered;
        waits = rw same at r.waits;
        known_held = r.known_held;
        known_caught = r.known_caught;
      }
    where
      same : raisers (without c.exception.serial hs) ≡ raisers hs
      same =
          raisers_without c.exception.serial hs
          (or_parts (has c.exception.serial (raisers hs)) (has c.exception.serial (unwinding fs))
          (sym (has_append c.exception.serial (raisers hs) (unwinding fs)) ∙ unheld)).0
        where
          unheld : has c.exception.serial (raisers hs ++ unwinding fs) ≡ false
          unheld =
              (or_parts (eqb c.exception.serial x) (has c.exception.serial (raisers hs ++ unwinding fs))
              (sym (has_cons c.exception.serial x (raisers hs ++ unwinding fs))
              ∙ (or_parts (has c.exception.serial (besides x hs fs)) (has c.exception.serial (caught cs)) (sym (has_append c.exception.serial (besides x hs fs) (caught cs)) ∙ e)).0)
              ).1

  pub closed : (k : ℕ) (cs : List Catch) → Ordered k cs → (hs : List HeldException) (q : List ℕ) → Closing hs cs q → Closed all col P x m fs hs cs q n (close x m cs (mk fs hs cs q n))
  unfolding close release
  closed k [] o hs q g = closed_none hs [] q tt g
  closed k (c ∷ cs) o hs q g =
      cond_both (ltb c.frame m) _ _ (Closed all col P x m fs hs (c ∷ cs) q n)
      (λ e. closed_none hs (c ∷ cs) q (ltb-true c.frame m e, o.1) g)
      (λ e. closed_one hs c cs q _ e refl g (closed (suc c.frame) cs o.1))
