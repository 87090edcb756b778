-- What the landing lists contain, and in what order.
use Rattle.std.proofs.Common.{◌≡◌, ℕ, suc, ◌<◌, ◌≤◌, Bool, true, false, leb, List, [], ◌∷◌, length, ℤ, sym, refl, ap, ◌∙◌, subst, inl, inr, arith}
use Rattle.std.proofs.lemmas.Bool.{leb-true, leb-false, le-leb, lt-leb, true≢false}
use Rattle.personality.specs.declared.verdict.Verdict.{Verdict}
use Rattle.personality.specs.declared.verdict.Verdict.TheVariants.{Nothing, Cleanup, Handler, Terminate, Broken}
use Rattle.calls.specs.declared.answer.Answer.{Answer}
use Rattle.calls.specs.declared.answer.Answer.TheVariants.{Done, Made, Landed, Stopped, Begun, Ended, Collected, Refused}
use Rattle.calls.specs.declared.answer.Kind.TheVariants as kind
use Rattle.calls.specs.declared.answer.Landing.{Landing}
use Rattle.calls.specs.declared.frame.Frame.{Frame}
use Rattle.rules.specs.Landings.{asked, cleanups, handlers, above_handler, above_kept, is_handler, raise_list, force_list, FrameAt, NoHandlerAbove, OfRaise, OfForce, Before, Downward, LandingLists}
use Rattle.rules.specs.Lists.{In, All}

-- a frame's number is below their count
frame_low : (n : ℕ) (f : Frame) (fs : List Frame) → FrameAt n f fs → n < length fs
frame_low n f [] p = absurd p
frame_low n f (g ∷ fs) (inl p) = let e = p.0 in omega arith
frame_low n f (g ∷ fs) (inr p) = let l = frame_low n f fs p in omega arith

module _ (ask : Frame → Verdict) (x : ℕ) where
  -- a raise's list at the top frame
  raise_top : (f : Frame) (fs : List Frame) (vd : Verdict) → ask f ≡ vd → List Answer
  raise_top f fs Nothing e = raise_list ask x fs
  raise_top f fs (Cleanup pad) e = Landed (record { serial = x; frame = length fs; pad = pad; kind = kind.Cleanup }) ∷ raise_list ask x fs
  raise_top f fs (Handler pad selector) e = Landed (record { serial = x; frame = length fs; pad = pad; kind = kind.Handler selector }) ∷ []
  raise_top f fs Terminate e = raise_list ask x fs
  raise_top f fs (Broken t) e = raise_list ask x fs

  raise_at : (f : Frame) (fs : List Frame) (vd : Verdict) (e : ask f ≡ vd) → raise_list ask x (f ∷ fs) ≡ raise_top f fs vd e
  unfolding asked cleanups handlers above_handler raise_top
  raise_at f fs Nothing e = rw e
  raise_at f fs (Cleanup pad) e = rw e
  raise_at f fs (Handler pad selector) e = rw e
  raise_at f fs Terminate e = rw e
  raise_at f fs (Broken t) e = rw e

  -- an entry of the lower frames, where the top one has no Handler
  lower : (f : Frame) (fs : List Frame) (a : Answer) → is_handler (ask f) ≡ false → OfRaise ask x fs a → OfRaise ask x (f ∷ fs) a
  lower f fs a e (inl c) = inl (record { n = c.0.n; frame = c.0.frame; pad = c.0.pad; there = inr c.0.there; verdict = c.0.verdict; is = c.0.is }, none)
    where
      none : NoHandlerAbove ask c.0.n (f ∷ fs)
      none m g (inl p) lt = rw p.1 e
      none m g (inr p) lt = c.1 m g p lt
  lower f fs a e (inr h) =
      inr (record { n = h.0.n; frame = h.0.frame; pad = h.0.pad; selector = h.0.selector; there = inr h.0.there; verdict = h.0.verdict; is = h.0.is }, none)
    where
      none : NoHandlerAbove ask h.0.n (f ∷ fs)
      none m g (inl p) lt = rw p.1 e
      none m g (inr p) lt = h.1 m g p lt

  -- nothing is above the top
  top_clear : (f : Frame) (fs : List Frame) → NoHandlerAbove ask (length fs) (f ∷ fs)
  top_clear f fs m g (inl p) lt = let e = p.0 in absurd (omega arith)
  top_clear f fs m g (inr p) lt = let l = frame_low m g fs p in absurd (omega arith)

  raise_in : (fs : List Frame) (a : Answer) → In a (raise_list ask x fs) → OfRaise ask x fs a
  unfolding asked cleanups handlers above_handler raise_top
  raise_in [] a i = absurd i
  raise_in (f ∷ fs) a i = go (ask f) refl (raise_in fs a) (subst (In a) (raise_at f fs (ask f) refl) i)
    where
      go : (vd : Verdict) (e : ask f ≡ vd) → (In a (raise_list ask x fs) → OfRaise ask x fs a) → In a (raise_top f fs vd e) → OfRaise ask x (f ∷ fs) a
      go Nothing e ih i = lower f fs a (rw e) (ih i)
      go (Cleanup pad) e ih (inl p) = inl (record { n = length fs; frame = f; pad = pad; there = inl (refl, refl); verdict = e; is = p }, top_clear f fs)
      go (Cleanup pad) e ih (inr i) = lower f fs a (rw e) (ih i)
      go (Handler pad selector) e ih (inl p) = inr (record { n = length fs; frame = f; pad = pad; selector = selector; there = inl (refl, refl); verdict = e; is = p }, top_clear f fs)
      go (Handler pad selector) e ih (inr i) = absurd i
      go Terminate e ih i = lower f fs a (rw e) (ih i)
      go (Broken t) e ih i = lower f fs a (rw e) (ih i)

  -- a list that goes on after the top frame has the entries of the lower frames
  raise_later : (f : Frame) (fs : List Frame) (a : Answer) → is_handler (ask f) ≡ false → In a (raise_list ask x fs) → In a (raise_list ask x (f ∷ fs))
  unfolding raise_top
  raise_later f fs a n i = go (ask f) refl
    where
      go : (vd : Verdict) (e : ask f ≡ vd) → In a (raise_list ask x (f ∷ fs))
      go Nothing e = rw (raise_at f fs Nothing e) i
      go (Cleanup pad) e = rw (raise_at f fs (Cleanup pad) e) (inr i)
      go (Handler pad selector) e = absurd (true≢false (sym (ap is_handler e) ∙ n))
      go Terminate e = rw (raise_at f fs Terminate e) i
      go (Broken t) e = rw (raise_at f fs (Broken t) e) i

  cleans_in : (fs : List Frame) (a : Answer) (n : ℕ) (g : Frame) (pad : ℕ) → FrameAt n g fs → ask g ≡ Cleanup pad → NoHandlerAbove ask n fs
      → a ≡ Landed (record { serial = x; frame = n; pad = pad; kind = kind.Cleanup }) → In a (raise_list ask x fs)
  unfolding raise_top
  cleans_in [] a n g pad p e none is = absurd p
  cleans_in (f ∷ fs) a n g pad (inl p) e none is = rw (raise_at f fs (Cleanup pad) (rw (← p.1) e)) (inl (is ∙ rw p.0))
  cleans_in (f ∷ fs) a n g pad (inr p) e none is =
      raise_later f fs a (none (length fs) f (inl (refl, refl)) (frame_low n g fs p)) (cleans_in fs a n g pad p e (λ m h q lt. none m h (inr q) lt) is)

  handles_in : (fs : List Frame) (a : Answer) (n : ℕ) (g : Frame) (pad : ℕ) (selector : ℤ) → FrameAt n g fs → ask g ≡ Handler pad selector → NoHandlerAbove ask n fs
      → a ≡ Landed (record { serial = x; frame = n; pad = pad; kind = kind.Handler selector }) → In a (raise_list ask x fs)
  unfolding raise_top
  handles_in [] a n g pad selector p e none is = absurd p
  handles_in (f ∷ fs) a n g pad selector (inl p) e none is = rw (raise_at f fs (Handler pad selector) (rw (← p.1) e)) (inl (is ∙ rw p.0))
  handles_in (f ∷ fs) a n g pad selector (inr p) e none is =
      raise_later f fs a (none (length fs) f (inl (refl, refl)) (frame_low n g fs p)) (handles_in fs a n g pad selector p e (λ m h q lt. none m h (inr q) lt) is)

  raise_of : (fs : List Frame) (a : Answer) → OfRaise ask x fs a → In a (raise_list ask x fs)
  raise_of fs a (inl c) = cleans_in fs a c.0.n c.0.frame c.0.pad c.0.there c.0.verdict c.1 c.0.is
  raise_of fs a (inr h) = handles_in fs a h.0.n h.0.frame h.0.pad h.0.selector h.0.there h.0.verdict h.1 h.0.is

-- the order

-- a landing, below frame k, or stopped
abbrev Below : ℕ → Answer → Type 0
Below k (Landed l) = l.frame < k
Below k (Stopped x) = Unit {0}
Below k Done = ⊥
Below k (Made x) = ⊥
Below k (Begun n) = ⊥
Below k (Ended x n w) = ⊥
Below k (Collected x) = ⊥
Below k (Refused r) = ⊥

-- a list of such, from the top down
record Down (k : ℕ) (as' : List Answer) : Type 0 where
  low : All (Below k) as'
  down : Downward as'

low_widen : (k m : ℕ) (as' : List Answer) → k ≤ m → All (Below k) as' → All (Below m) as'
low_widen k m [] le p = tt
low_widen k m (a ∷ as') le p = (one a p.0, low_widen k m as' le p.1)
  where
    one : (a : Answer) → Below k a → Below m a
    one (Landed l) q = omega arith
    one (Stopped x) q = tt
    one Done q = q
    one (Made x) q = q
    one (Begun n) q = q
    one (Ended x n w) q = q
    one (Collected x) q = q
    one (Refused r) q = q

down_more : (k : ℕ) (as' : List Answer) → Down k as' → Down (suc k) as'
down_more k as' d = record { low = low_widen k (suc k) as' (omega arith) d.low; down = d.down }

-- one landing more, in frame k
down_cons : (k : ℕ) (a : Answer) (as' : List Answer) → ((b : Answer) → Below k b → Before a b) → Below (suc k) a → Down k as' → Down (suc k) (a ∷ as')
down_cons k a as' f b d = record { low = (b, low_widen k (suc k) as' (omega arith) d.low); down = (before as' d.low, d.down) }
  where
    before : (as' : List Answer) → All (Below k) as' → All (Before a) as'
    before [] p = tt
    before (c ∷ as') p = (f c p.0, before as' p.1)

landed_before : (l : Landing) (k : ℕ) → l.frame ≡ k → (b : Answer) → Below k b → Before (Landed l) b
landed_before l k e (Landed m) q = omega arith
landed_before l k e (Stopped x) q = tt
landed_before l k e Done q = q
landed_before l k e (Made x) q = q
landed_before l k e (Begun n) q = q
landed_before l k e (Ended x n w) q = q
landed_before l k e (Collected x) q = q
landed_before l k e (Refused r) q = q

raise_down : (ask : Frame → Verdict) (x : ℕ) (fs : List Frame) → Down (length fs) (raise_list ask x fs)
unfolding asked cleanups handlers above_handler raise_top
raise_down ask x [] = record { low = tt; down = tt }
raise_down ask x (f ∷ fs) = subst (Down (suc (length fs))) (sym (raise_at ask x f fs (ask f) refl)) (go (ask f) refl (raise_down ask x fs))
  where
    go : (vd : Verdict) (e : ask f ≡ vd) → Down (length fs) (raise_list ask x fs) → Down (suc (length fs)) (raise_top ask x f fs vd e)
    go Nothing e d = down_more _ _ d
    go (Cleanup pad) e d = down_cons (length fs) _ _ (landed_before (record { serial = x; frame = length fs; pad = pad; kind = kind.Cleanup }) (length fs) refl) (omega arith) d
    go (Handler pad selector) e d = record { low = (omega arith, tt); down = (tt, tt) }
    go Terminate e d = down_more _ _ d
    go (Broken t) e d = down_more _ _ d

-- a force's list

module _ (ask : Frame → Verdict) (x keep : ℕ) where
  -- the frames from the kept ones up: what the top frame adds
  force_top : (fs : List Frame) (vd : Verdict) → List Answer
  force_top fs Nothing = force_list ask x keep fs
  force_top fs (Cleanup pad) = Landed (record { serial = x; frame = length fs; pad = pad; kind = kind.Cleanup }) ∷ force_list ask x keep fs
  force_top fs (Handler pad selector) = force_list ask x keep fs
  force_top fs Terminate = force_list ask x keep fs
  force_top fs (Broken t) = force_list ask x keep fs

  force_at : (f : Frame) (fs : List Frame) (vd : Verdict) → ask f ≡ vd → keep ≤ length fs → force_list ask x keep (f ∷ fs) ≡ force_top fs vd
  unfolding asked cleanups above_kept force_top
  force_at f fs Nothing e le = rw (e, le-leb keep (length fs) le)
  force_at f fs (Cleanup pad) e le = rw (e, le-leb keep (length fs) le)
  force_at f fs (Handler pad selector) e le = rw (e, le-leb keep (length fs) le)
  force_at f fs Terminate e le = rw (e, le-leb keep (length fs) le)
  force_at f fs (Broken t) e le = rw (e, le-leb keep (length fs) le)

  force_kept : (f : Frame) (fs : List Frame) → length fs < keep → force_list ask x keep (f ∷ fs) ≡ force_list ask x keep fs
  unfolding asked above_kept
  force_kept f fs lt = rw (lt-leb keep (length fs) lt)

  force_lower : (f : Frame) (fs : List Frame) (a : Answer) → OfForce ask x keep fs a → OfForce ask x keep (f ∷ fs) a
  force_lower f fs a (inl c) = inl (record { n = c.0.n; frame = c.0.frame; pad = c.0.pad; there = inr c.0.there; verdict = c.0.verdict; is = c.0.is }, c.1)
  force_lower f fs a (inr p) = inr p

  force_in : (fs : List Frame) (a : Answer) → In a (force_list ask x keep fs) → OfForce ask x keep fs a
  unfolding asked cleanups above_kept force_top
  force_in [] a (inl p) = inr p
  force_in [] a (inr i) = absurd i
  force_in (f ∷ fs) a i = go (leb keep (length fs)) refl (force_in fs a) i
    where
      at_top : (vd : Verdict) → ask f ≡ vd → keep ≤ length fs → (In a (force_list ask x keep fs) → OfForce ask x keep fs a) → In a (force_top fs vd) → OfForce ask x keep (f ∷ fs) a
      at_top Nothing e le ih i = force_lower f fs a (ih i)
      at_top (Cleanup pad) e le ih (inl p) = inl (record { n = length fs; frame = f; pad = pad; there = inl (refl, refl); verdict = e; is = p }, le)
      at_top (Cleanup pad) e le ih (inr i) = force_lower f fs a (ih i)
      at_top (Handler pad selector) e le ih i = force_lower f fs a (ih i)
      at_top Terminate e le ih i = force_lower f fs a (ih i)
      at_top (Broken t) e le ih i = force_lower f fs a (ih i)

      go : (b : Bool) → leb keep (length fs) ≡ b → (In a (force_list ask x keep fs) → OfForce ask x keep fs a) → In a (force_list ask x keep (f ∷ fs)) → OfForce ask x keep (f ∷ fs) a
      go true e ih i = let le = leb-true keep (length fs) e in at_top (ask f) refl le ih (subst (In a) (force_at f fs (ask f) refl le) i)
      go false e ih i = force_lower f fs a (ih (subst (In a) (force_kept f fs (leb-false keep (length fs) e)) i))

  -- a list that goes on after the top frame has the entries of the lower frames
  force_later : (f : Frame) (fs : List Frame) (a : Answer) → In a (force_list ask x keep fs) → In a (force_list ask x keep (f ∷ fs))
  unfolding force_top
  force_later f fs a i = go (leb keep (length fs)) refl
    where
      at_top : (vd : Verdict) → In a (force_top fs vd)
      at_top Nothing = i
      at_top (Cleanup pad) = inr i
      at_top (Handler pad selector) = i
      at_top Terminate = i
      at_top (Broken t) = i

      go : (b : Bool) → leb keep (length fs) ≡ b → In a (force_list ask x keep (f ∷ fs))
      go true e = subst (In a) (sym (force_at f fs (ask f) refl (leb-true keep (length fs) e))) (at_top (ask f))
      go false e = subst (In a) (sym (force_kept f fs (leb-false keep (length fs) e))) i

  force_cleans : (fs : List Frame) (a : Answer) (n : ℕ) (g : Frame) (pad : ℕ) → FrameAt n g fs → ask g ≡ Cleanup pad → keep ≤ n
      → a ≡ Landed (record { serial = x; frame = n; pad = pad; kind = kind.Cleanup }) → In a (force_list ask x keep fs)
  unfolding force_top
  force_cleans [] a n g pad p e le is = absurd p
  force_cleans (f ∷ fs) a n g pad (inl p) e le is =
      let q = p.0 in rw (force_at f fs (Cleanup pad) (rw (← p.1) e) (omega arith)) (inl (is ∙ rw q))
  force_cleans (f ∷ fs) a n g pad (inr p) e le is = force_later f fs a (force_cleans fs a n g pad p e le is)

  force_stopped : (fs : List Frame) → In (Stopped x) (force_list ask x keep fs)
  unfolding asked cleanups above_kept
  force_stopped [] = inl refl
  force_stopped (f ∷ fs) = force_later f fs (Stopped x) (force_stopped fs)

  force_of : (fs : List Frame) (a : Answer) → OfForce ask x keep fs a → In a (force_list ask x keep fs)
  force_of fs a (inl c) = force_cleans fs a c.0.n c.0.frame c.0.pad c.0.there c.0.verdict c.1 c.0.is
  force_of fs a (inr p) = rw p (force_stopped fs)

  force_down : (fs : List Frame) → Down (length fs) (force_list ask x keep fs)
  unfolding asked cleanups above_kept force_top
  force_down [] = record { low = (tt, tt); down = (tt, tt) }
  force_down (f ∷ fs) = go (leb keep (length fs)) refl (force_down fs)
    where
      at_top : (vd : Verdict) → Down (length fs) (force_list ask x keep fs) → Down (suc (length fs)) (force_top fs vd)
      at_top Nothing d = down_more _ _ d
      at_top (Cleanup pad) d = down_cons (length fs) _ _ (landed_before (record { serial = x; frame = length fs; pad = pad; kind = kind.Cleanup }) (length fs) refl) (omega arith) d
      at_top (Handler pad selector) d = down_more _ _ d
      at_top Terminate d = down_more _ _ d
      at_top (Broken t) d = down_more _ _ d

      go : (b : Bool) → leb keep (length fs) ≡ b → Down (length fs) (force_list ask x keep fs) → Down (suc (length fs)) (force_list ask x keep (f ∷ fs))
      go true e d = subst (Down (suc (length fs))) (sym (force_at f fs (ask f) refl (leb-true keep (length fs) e))) (at_top (ask f) d)
      go false e d = subst (Down (suc (length fs))) (sym (force_kept f fs (leb-false keep (length fs) e))) (down_more _ _ d)

pub landing_lists_lem : LandingLists
landing_lists_lem ask x fs =
    record {
      raise = λ a. (raise_in ask x fs a, raise_of ask x fs a);
      raise_down = (raise_down ask x fs).down;
      force = λ keep a. (force_in ask x keep fs a, force_of ask x keep fs a);
      force_down = λ keep. (force_down ask x keep fs).down;
    }
