-- Who waits, over lists of serials: all made, K in the table of held ones, H held by somebody, q waiting, col collected;
-- n is the last serial.
use Rattle.std.proofs.Common.{◌≡◌, ℕ, suc, ◌+◌, ◌<◌, ◌≤◌, Bool, true, false, not, ◌&&◌, ◌||◌, eqb, List, [], ◌∷◌, ◌++◌, length, sym, refl, ap, ◌∙◌, arith, length-append}
use Rattle.std.proofs.Math.Bool.{or-true, or-false, and-true, and-false}
use Rattle.std.proofs.lemmas.Bool.{false_from_ne_true, eqb-true, eq-eqb, ne_eqb, both_ways, or_right, or_left}
use Rattle.rules.specs.Lists.{has, Distinct}
use Rattle.rules.proofs.Lists.{has_append, has_none, has_later, has_here, has_skip, distinct_push}
use Rattle.rules.proofs.Held.{less, has_less, length_less, distinct_less}

pub record W (all K H q col : List ℕ) (n : ℕ) : Type 0 where
  -- in the table is who is held
  pub held : (y : ℕ) → has y K ≡ has y H
  -- each made is held, waits or was collected
  pub every : (y : ℕ) → has y all ≡ (has y K || (has y q || has y col))
  -- and no two of these
  pub unheld : (y : ℕ) → has y q ≡ true → has y K ≡ false
  pub gone : (y : ℕ) → has y col ≡ true → (has y K ≡ false) × (has y q ≡ false)
  -- none is above the last serial
  pub low : (y : ℕ) → has y all ≡ true → y ≤ n
  -- none stands twice in a list
  pub once : Distinct K
  pub queue_once : Distinct q
  pub gone_once : Distinct col
  -- at most 16 are uncollected
  pub few : length K + length q ≤ 16

pub w_same : (all K H H' q col : List ℕ) (n : ℕ) → ((y : ℕ) → has y H' ≡ has y H) → W all K H q col n → W all K H' q col n
w_same all K H H' q col n e w =
    record { held = λ y. w.held y ∙ sym (e y); every = w.every; unheld = w.unheld; gone = w.gone; low = w.low; once = w.once; queue_once = w.queue_once; gone_once = w.gone_once; few = w.few }

-- x loses its last holder, and waits
pub w_release : (all K H H' q col : List ℕ) (n x : ℕ) → ((y : ℕ) → eqb y x ≡ false → has y H' ≡ has y H) → has x H ≡ true → has x H' ≡ false
    → W all K H q col n → W all (less x K) H' (q ++ (x ∷ [])) col n
w_release all K H H' q col n x e t f w =
    record {
      held = λ y. has_less x y K w.once ∙ kept y (eqb y x) refl;
      every = λ y. w.every y ∙ rw (has_less x y K w.once, has_append y q (x ∷ [])) (each y (eqb y x) refl);
      unheld = λ y h. has_less x y K w.once ∙ away y (eqb y x) refl h;
      gone = λ y h. (has_less x y K w.once ∙ rw (w.gone y h).0, rw (has_append y q (x ∷ []), (w.gone y h).1) (has_skip y x [] (other y h) ∙ has_none y));
      low = w.low;
      once = distinct_less x K w.once;
      queue_once = distinct_push x q off_queue w.queue_once;
      gone_once = w.gone_once;
      few = let l = length_less x K inside in let m = w.few in let a = length-append q (x ∷ []) in omega arith;
    }
  where
    inside : has x K ≡ true
    inside = w.held x ∙ t

    off_queue : has x q ≡ false
    off_queue = false_from_ne_true (has x q) (λ h. both_ways (has x K) (w.unheld x h) inside)

    other : (y : ℕ) → has y col ≡ true → eqb y x ≡ false
    other y h = false_from_ne_true (eqb y x) (λ p. both_ways (has x K) (w.gone x (rw (eqb-true y x p) at h)).0 inside)

    kept : (y : ℕ) (c : Bool) → eqb y x ≡ c → (has y K && not c) ≡ has y H'
    kept y true ec = and-false (has y K) ∙ sym (rw (eqb-true y x ec) f)
    kept y false ec = and-true (has y K) ∙ (w.held y ∙ sym (e y ec))

    each : (y : ℕ) (c : Bool) → eqb y x ≡ c → (has y K || (has y q || has y col)) ≡ ((has y K && not c) || ((has y q || has y (x ∷ [])) || has y col))
    each y true ec = rw (eqb-true y x ec, inside, has_here x [], or-true (has x q))
    each y false ec = rw (has_skip y x [] ec, has_none y, or-false (has y q), and-true (has y K))

    away : (y : ℕ) (c : Bool) → eqb y x ≡ c → has y (q ++ (x ∷ [])) ≡ true → (has y K && not c) ≡ false
    away y true ec h = and-false (has y K)
    away y false ec h = and-true (has y K) ∙ w.unheld y (sym (or-false (has y q)) ∙ rw (← (has_none y), ← (has_skip y x [] ec)) (sym (has_append y q (x ∷ [])) ∙ h))

-- a new serial
pub w_make : (all K H q col : List ℕ) (n : ℕ) → length K + length q < 16 → W all K H q col n → W (suc n ∷ all) (K ++ (suc n ∷ [])) (H ++ (suc n ∷ [])) q col (suc n)
w_make all K H q col n room w =
    record {
      held = λ y. has_append y K (suc n ∷ []) ∙ ap (λ b. b || has y (suc n ∷ [])) (w.held y) ∙ sym (has_append y H (suc n ∷ []));
      every = λ y. rw (has_append y K (suc n ∷ [])) (each y (eqb y (suc n)) refl);
      unheld = λ y h. rw (has_append y K (suc n ∷ []), w.unheld y h) (has_skip y (suc n) [] (small y (or_right (has y K) _ (or_left (has y q) (has y col) h))) ∙ has_none y);
      gone = λ y h. (rw (has_append y K (suc n ∷ []), (w.gone y h).0) (has_skip y (suc n) [] (small y (or_right (has y K) _ (or_right (has y q) (has y col) h))) ∙ has_none y), (w.gone y h).1);
      low = λ y h. bound y (eqb y (suc n)) refl h;
      once = distinct_push (suc n) K (false_from_ne_true (has (suc n) K) (λ h. both_ways (eqb (suc n) (suc n)) (small (suc n) (or_left (has (suc n) K) _ h)) (eq-eqb (suc n) (suc n) refl))) w.once;
      queue_once = w.queue_once;
      gone_once = w.gone_once;
      few = let a = length-append K (suc n ∷ []) in omega arith;
    }
  where
    small : (y : ℕ) → (has y K || (has y q || has y col)) ≡ true → eqb y (suc n) ≡ false
    small y h = let l = w.low y (w.every y ∙ h) in ne_eqb y (suc n) (λ p. omega arith)

    each : (y : ℕ) (c : Bool) → eqb y (suc n) ≡ c → has y (suc n ∷ all) ≡ ((has y K || has y (suc n ∷ [])) || (has y q || has y col))
    each y true ec = rw (eqb-true y (suc n) ec, has_here (suc n) all, has_here (suc n) [], or-true (has (suc n) K))
    each y false ec = rw (has_skip y (suc n) all ec, has_skip y (suc n) [] ec, has_none y, or-false (has y K)) (w.every y)

    bound : (y : ℕ) (c : Bool) → eqb y (suc n) ≡ c → has y (suc n ∷ all) ≡ true → y ≤ suc n
    bound y true ec h = let p = eqb-true y (suc n) ec in omega arith
    bound y false ec h = let l = w.low y (sym (has_skip y (suc n) all ec) ∙ h) in omega arith

-- the one that has waited longest is collected
pub w_collect : (all K H q col : List ℕ) (n x : ℕ) → W all K H (x ∷ q) col n → W all K H q (x ∷ col) n
w_collect all K H q col n x w =
    record {
      held = w.held;
      every = λ y. w.every y ∙ each y (eqb y x) refl;
      unheld = λ y h. w.unheld y (has_later y x q h);
      gone = λ y h. gone' y (eqb y x) refl h;
      low = w.low;
      once = w.once;
      queue_once = w.queue_once.1;
      gone_once = (false_from_ne_true (has x col) (λ h. both_ways (has x (x ∷ q)) (w.gone x h).1 (has_here x q)), w.gone_once);
      few = let m = w.few in omega arith;
    }
  where
    each : (y : ℕ) (c : Bool) → eqb y x ≡ c → (has y K || (has y (x ∷ q) || has y col)) ≡ (has y K || (has y q || has y (x ∷ col)))
    each y true ec = rw (eqb-true y x ec, has_here x q, has_here x col, or-true (has x q))
    each y false ec = rw (has_skip y x q ec, has_skip y x col ec)

    gone' : (y : ℕ) (c : Bool) → eqb y x ≡ c → has y (x ∷ col) ≡ true → (has y K ≡ false) × (has y q ≡ false)
    gone' y true ec h = let p = eqb-true y x ec in (rw p (w.unheld x (has_here x q)), rw p w.queue_once.0)
    gone' y false ec h = let g = w.gone y (sym (has_skip y x col ec) ∙ h) in (g.0, sym (has_skip y x q ec) ∙ g.1)
