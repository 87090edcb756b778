-- The table of held exceptions: serials, raisers, and the record of one exception.
use Rattle.std.proofs.Common.{◌≡◌, ℕ, suc, Bool, true, false, cond, not, ◌&&◌, ◌||◌, eqb, List, [], ◌∷◌, ◌++◌, map, length, Some, sym, refl, ap, ◌∙◌, subst}
use Rattle.std.proofs.Math.Bool.{or-false, and-true, and-false}
use Rattle.std.proofs.lemmas.Bool.{cond_both, eqb-true, eqb-false, eq-eqb, or_parts, or_right, false≢true}
use Rattle.calls.specs.declared.exception.HeldException.{HeldException}
use Rattle.rules.specs.Book.{drop_all}
use Rattle.rules.specs.Lists.{has, Distinct, All}
use Rattle.rules.specs.State.{find, without, own, raisers}
use Rattle.rules.proofs.Lists.{has_append, has_here, has_skip, tell_apart, distinct_drop, distinct_out, distinct_in}

-- the serials of all records
abbrev pub names : List HeldException → List ℕ
names = map (λ h. h.exception.serial)

-- a list of numbers without its first x
unfoldable pub less : ℕ → List ℕ → List ℕ
less x [] = []
less x (y ∷ ys) = cond (eqb x y) ys (y ∷ less x ys)

pub has_less : (x y : ℕ) (K : List ℕ) → Distinct K → has y (less x K) ≡ (has y K && not (eqb y x))
unfolding has less
has_less x y [] d = refl
has_less x y (z ∷ K) d = go (eqb x z) refl (has_less x y K d.1)
  where
    here : (c : Bool) → eqb y z ≡ c → has y K ≡ ((c || has y K) && not c)
    here true ec = rw (eqb-true y z ec) d.0
    here false ec = sym (and-true (has y K))

    there : (c e : Bool) → eqb y z ≡ c → eqb y x ≡ e → (x ≡ z → ⊥) → has y (less x K) ≡ (has y K && not e) → (c || has y (less x K)) ≡ ((c || has y K) && not e)
    there true true ec ee ne ih = absurd (ne (sym (eqb-true y x ee) ∙ eqb-true y z ec))
    there true false ec ee ne ih = refl
    there false e ec ee ne ih = ih

    go : (b : Bool) → eqb x z ≡ b → has y (less x K) ≡ (has y K && not (eqb y x)) → has y (cond b K (z ∷ less x K)) ≡ ((eqb y z || has y K) && not (eqb y x))
    go true eb ih = rw (eqb-true x z eb) (here (eqb y z) refl)
    go false eb ih = there (eqb y z) (eqb y x) refl refl (eqb-false x z eb) ih

pub distinct_less : (x : ℕ) (K : List ℕ) → Distinct K → Distinct (less x K)
unfolding less
distinct_less x [] d = tt
distinct_less x (z ∷ K) d =
    cond_both (eqb x z) _ _ Distinct (λ _. d.1) (λ _. (rw (has_less x z K d.1, d.0), distinct_less x K d.1))

pub length_less : (x : ℕ) (K : List ℕ) → has x K ≡ true → suc (length (less x K)) ≡ length K
unfolding has less
length_less x [] e = absurd (false≢true e)
length_less x (z ∷ K) e = go (eqb x z) (length_less x K) e
  where
    go : (b : Bool) → (has x K ≡ true → suc (length (less x K)) ≡ length K) → (b || has x K) ≡ true → suc (length (cond b K (z ∷ less x K))) ≡ suc (length K)
    go true ih e = refl
    go false ih e = ap suc (ih e)

-- of two lists that have no element twice

has_other : (y x : ℕ) (a : List ℕ) → eqb y x ≡ false → has y (less x a) ≡ has y a
unfolding has less
has_other y x [] e = refl
has_other y x (z ∷ a) e = go (eqb x z) refl (has_other y x a e)
  where
    go : (b : Bool) → eqb x z ≡ b → has y (less x a) ≡ has y a → has y (cond b a (z ∷ less x a)) ≡ (eqb y z || has y a)
    go true eb ih = rw (← (eqb-true x z eb), e)
    go false eb ih = rw ih

distinct_front : (a b : List ℕ) → Distinct (a ++ b) → Distinct a
distinct_front [] b d = tt
distinct_front (z ∷ a) b d = ((or_parts (has z a) (has z b) (sym (has_append z a b) ∙ d.0)).0, distinct_front a b d.1)

pub distinct_less_left : (x : ℕ) (a b : List ℕ) → Distinct (a ++ b) → Distinct (less x a ++ b)
unfolding less
distinct_less_left x [] b d = d
distinct_less_left x (z ∷ a) b d =
    cond_both (eqb x z) _ _ (λ r. Distinct (r ++ b)) (λ _. d.1)
    (λ e. (rw (has_append z (less x a) b, has_other z x a (tell_apart z x e)) (sym (has_append z a b) ∙ d.0), distinct_less_left x a b d.1))

-- x goes over from the one to the other
pub distinct_turn : (x : ℕ) (a b : List ℕ) → Distinct (a ++ b) → has x b ≡ false → Distinct (less x a ++ (x ∷ b))
distinct_turn x a b d e =
    distinct_in x (less x a) b (rw (has_append x (less x a) b, has_less x x a (distinct_front a b d), eq-eqb x x refl, e) (or-false (has x a && false) ∙ and-false (has x a))) (distinct_less_left x a b d)

-- without

pub names_without : (x : ℕ) (hs : List HeldException) → names (without x hs) ≡ less x (names hs)
unfolding without less
names_without x [] = refl
names_without x (h ∷ hs) = go (eqb x h.exception.serial) (names_without x hs)
  where
    go : (b : Bool) → names (without x hs) ≡ less x (names hs) → names (cond b hs (h ∷ without x hs)) ≡ cond b (names hs) (h.exception.serial ∷ less x (names hs))
    go true ih = refl
    go false ih = ap (λ r. h.exception.serial ∷ r) ih

-- the exception that goes was with no raiser
pub raisers_without : (x : ℕ) (hs : List HeldException) → has x (raisers hs) ≡ false → raisers (without x hs) ≡ raisers hs
unfolding without raisers has
raisers_without x [] e = refl
raisers_without x (h ∷ hs) e = go (eqb x h.exception.serial) refl h.owned (raisers_without x hs) e
  where
    go : (t : Bool) → eqb x h.exception.serial ≡ t → (r : Bool) → (has x (raisers hs) ≡ false → raisers (without x hs) ≡ raisers hs)
        → has x (cond r (h.exception.serial ∷ raisers hs) (raisers hs)) ≡ false
        → raisers (cond t hs (record { exception = h.exception; owned = r } ∷ without x hs)) ≡ cond r (h.exception.serial ∷ raisers hs) (raisers hs)
    go true et true ih e = absurd (false≢true (sym e ∙ rw et))
    go true et false ih e = refl
    go false et true ih e = ap (λ r. h.exception.serial ∷ r) (ih (or_parts (eqb x h.exception.serial) (has x (raisers hs)) e).1)
    go false et false ih e = ih e

pub all_without : (P : HeldException → Type 0) (x : ℕ) (hs : List HeldException) → All P hs → All P (without x hs)
unfolding without
all_without P x [] a = tt
all_without P x (h ∷ hs) a = cond_both (eqb x h.exception.serial) _ _ (All P) (λ _. a.1) (λ _. (a.0, all_without P x hs a.1))

-- own

pub names_own : (b : Bool) (x : ℕ) (hs : List HeldException) → names (own b x hs) ≡ names hs
unfolding own
names_own b x [] = refl
names_own b x (h ∷ hs) = cond_both (eqb x h.exception.serial) _ _ (λ r. names r ≡ names (h ∷ hs)) (λ _. refl) (λ _. ap (λ r. h.exception.serial ∷ r) (names_own b x hs))

-- what is said of others stays
pub raisers_own : (y : ℕ) (b : Bool) (x : ℕ) (hs : List HeldException) → eqb y x ≡ false → has y (raisers (own b x hs)) ≡ has y (raisers hs)
unfolding own raisers has
raisers_own y b x [] ne = refl
raisers_own y b x (h ∷ hs) ne = go (eqb x h.exception.serial) refl h.owned b (raisers_own y b x hs ne)
  where
    go : (t : Bool) → eqb x h.exception.serial ≡ t → (r b : Bool) → has y (raisers (own b x hs)) ≡ has y (raisers hs)
        → has y (raisers (cond t (record { exception = h.exception; owned = b } ∷ hs) (record { exception = h.exception; owned = r } ∷ own b x hs)))
        ≡ has y (cond r (h.exception.serial ∷ raisers hs) (raisers hs))
    go true et true true ih = refl
    go true et true false ih = rw (← (eqb-true x h.exception.serial et), ne)
    go true et false true ih = rw (← (eqb-true x h.exception.serial et), ne)
    go true et false false ih = refl
    go false et true b ih = rw ih
    go false et false b ih = ih

pub raised_own : (x : ℕ) (hs : List HeldException) → has x (names hs) ≡ true → has x (raisers (own true x hs)) ≡ true
unfolding own raisers has
raised_own x [] e = e
raised_own x (h ∷ hs) e = go (eqb x h.exception.serial) refl h.owned (raised_own x hs) e
  where
    go : (t : Bool) → eqb x h.exception.serial ≡ t → (r : Bool) → (has x (names hs) ≡ true → has x (raisers (own true x hs)) ≡ true) → (t || has x (names hs)) ≡ true
        → has x (raisers (cond t (record { exception = h.exception; owned = true } ∷ hs) (record { exception = h.exception; owned = r } ∷ own true x hs))) ≡ true
    go true et r ih e = rw et
    go false et true ih e = or_right (eqb x h.exception.serial) _ (ih e)
    go false et false ih e = ih e

-- a raiser's exception is in the table
pub raisers_names : (x : ℕ) (hs : List HeldException) → has x (names hs) ≡ false → has x (raisers hs) ≡ false
unfolding has raisers
raisers_names x [] e = refl
raisers_names x (h ∷ hs) e =
    let es = or_parts (eqb x h.exception.serial) (has x (names hs)) e in
    cond_both h.owned _ _ (λ r. has x r ≡ false) (λ _. rw es.0 (raisers_names x hs es.1)) (λ _. raisers_names x hs es.1)

pub raisers_disown : (x : ℕ) (hs : List HeldException) → Distinct (names hs) → raisers (own false x hs) ≡ less x (raisers hs)
unfolding own raisers less
raisers_disown x [] d = refl
raisers_disown x (h ∷ hs) d = go (eqb x h.exception.serial) refl h.owned (raisers_disown x hs d.1)
  where
    none : (l : List ℕ) → has x l ≡ false → l ≡ less x l
    none [] e = refl
    none (y ∷ l) e = let es = or_parts (eqb x y) (has x l) (unfold has in e) in rw es.0 (ap (λ r. y ∷ r) (none l es.1))

    go : (t : Bool) → eqb x h.exception.serial ≡ t → (r : Bool) → raisers (own false x hs) ≡ less x (raisers hs)
        → raisers (cond t (record { exception = h.exception; owned = false } ∷ hs) (record { exception = h.exception; owned = r } ∷ own false x hs))
        ≡ less x (cond r (h.exception.serial ∷ raisers hs) (raisers hs))
    go true et true ih = rw et
    go true et false ih = none (raisers hs) (raisers_names x hs (rw (eqb-true x h.exception.serial et) d.0))
    go false et true ih = rw (et, ih)
    go false et false ih = ih

pub unraised_own : (x : ℕ) (hs : List HeldException) → Distinct (names hs) → has x (raisers (own false x hs)) ≡ false
unfolding own raisers has
unraised_own x [] d = refl
unraised_own x (h ∷ hs) d = go (eqb x h.exception.serial) refl h.owned (unraised_own x hs d.1)
  where
    go : (t : Bool) → eqb x h.exception.serial ≡ t → (r : Bool) → has x (raisers (own false x hs)) ≡ false
        → has x (raisers (cond t (record { exception = h.exception; owned = false } ∷ hs) (record { exception = h.exception; owned = r } ∷ own false x hs))) ≡ false
    go true et r ih = raisers_names x hs (rw (eqb-true x h.exception.serial et) d.0)
    go false et true ih = rw (et, ih)
    go false et false ih = ih

distinct_own : (x : ℕ) (u : List ℕ) (hs : List HeldException) → has x (raisers hs ++ u) ≡ false → Distinct (raisers hs ++ u) → Distinct (raisers (own true x hs) ++ u)
unfolding own raisers has
distinct_own x u [] e d = d
distinct_own x u (h ∷ hs) e d = go (eqb x h.exception.serial) refl h.owned (distinct_own x u hs) e d
  where
    go : (t : Bool) → eqb x h.exception.serial ≡ t → (r : Bool) → (has x (raisers hs ++ u) ≡ false → Distinct (raisers hs ++ u) → Distinct (raisers (own true x hs) ++ u))
        → has x (cond r (h.exception.serial ∷ raisers hs) (raisers hs) ++ u) ≡ false → Distinct (cond r (h.exception.serial ∷ raisers hs) (raisers hs) ++ u)
        → Distinct (raisers (cond t (record { exception = h.exception; owned = true } ∷ hs) (record { exception = h.exception; owned = r } ∷ own true x hs)) ++ u)
    go true et true ih e d = d
    go true et false ih e d = (rw (← (eqb-true x h.exception.serial et)) e, d)
    go false et true ih e d = (
      rw (has_append h.exception.serial (raisers (own true x hs)) u, raisers_own h.exception.serial true x hs (tell_apart h.exception.serial x et))
          (sym (has_append h.exception.serial (raisers hs) u) ∙ d.0),
      ih (or_parts (eqb x h.exception.serial) (has x (raisers hs ++ u)) e).1 d.1,
    )
    go false et false ih e d = ih e d

-- x comes back from an unwinding
pub distinct_back : (x : ℕ) (u : List ℕ) (hs : List HeldException) → Distinct (raisers hs ++ (x ∷ u)) → Distinct (raisers (own true x hs) ++ u)
distinct_back x u hs d = distinct_own x u hs (distinct_out x (raisers hs) u d) (distinct_drop x (raisers hs) u d)

-- the book's raisers

has_drop_all : (y x : ℕ) (R : List ℕ) → has y (drop_all x R) ≡ (has y R && not (eqb y x))
unfolding has drop_all
has_drop_all y x [] = refl
has_drop_all y x (z ∷ R) = go (eqb x z) refl (has_drop_all y x R)
  where
    here : (c : Bool) → eqb y z ≡ c → (has y R && not c) ≡ ((c || has y R) && not c)
    here true ec = and-false (has y R)
    here false ec = refl

    there : (c e : Bool) → eqb y z ≡ c → eqb y x ≡ e → (x ≡ z → ⊥) → (c || (has y R && not e)) ≡ ((c || has y R) && not e)
    there true true ec ee ne = absurd (ne (sym (eqb-true y x ee) ∙ eqb-true y z ec))
    there true false ec ee ne = refl
    there false e ec ee ne = refl

    go : (b : Bool) → eqb x z ≡ b → has y (drop_all x R) ≡ (has y R && not (eqb y x)) → has y (cond b (drop_all x R) (z ∷ drop_all x R)) ≡ ((eqb y z || has y R) && not (eqb y x))
    go true eb ih = ih ∙ rw (eqb-true x z eb) (here (eqb y z) refl)
    go false eb ih = rw ih (there (eqb y z) (eqb y x) refl refl (eqb-false x z eb))

pub drop_all_none : (x : ℕ) (R : List ℕ) → has x R ≡ false → drop_all x R ≡ R
unfolding has drop_all
drop_all_none x [] e = refl
drop_all_none x (y ∷ R) e = let es = or_parts (eqb x y) (has x R) e in rw es.0 (ap (λ r. y ∷ r) (drop_all_none x R es.1))

pub owners_disown : (R : List ℕ) (x : ℕ) (hs : List HeldException) → ((y : ℕ) → has y R ≡ has y (raisers hs)) → Distinct (names hs)
    → (y : ℕ) → has y (drop_all x R) ≡ has y (raisers (own false x hs))
owners_disown R x hs e d y = has_drop_all y x R ∙ go (eqb y x) refl
  where
    go : (c : Bool) → eqb y x ≡ c → (has y R && not c) ≡ has y (raisers (own false x hs))
    go true ec = and-false (has y R) ∙ sym (rw (eqb-true y x ec) (unraised_own x hs d))
    go false ec = and-true (has y R) ∙ (e y ∙ sym (raisers_own y false x hs ec))

pub owners_own : (R : List ℕ) (x : ℕ) (hs : List HeldException) → ((y : ℕ) → has y R ≡ has y (raisers hs)) → has x (names hs) ≡ true
    → (y : ℕ) → has y (x ∷ R) ≡ has y (raisers (own true x hs))
owners_own R x hs e t y = go (eqb y x) refl
  where
    go : (c : Bool) → eqb y x ≡ c → has y (x ∷ R) ≡ has y (raisers (own true x hs))
    go true ec = rw (eqb-true y x ec) (has_here x R ∙ sym (raised_own x hs t))
    go false ec = has_skip y x R ec ∙ (e y ∙ sym (raisers_own y true x hs ec))

pub all_own : (P : HeldException → Type 0) → ((h : HeldException) (b : Bool) → P h → P (record { exception = h.exception; owned = b })) → (b : Bool) (x : ℕ) (hs : List HeldException) → All P hs → All P (own b x hs)
unfolding own
all_own P keep b x [] a = tt
all_own P keep b x (h ∷ hs) a =
    cond_both (eqb x h.exception.serial) _ _ (All P) (λ _. (keep h b a.0, a.1)) (λ _. (a.0, all_own P keep b x hs a.1))

-- find

pub find_serial : (x : ℕ) (hs : List HeldException) (h : HeldException) → find x hs ≡ Some h → h.exception.serial ≡ x
unfolding find
find_serial x [] h f = absurd cc
find_serial x (d ∷ hs) h f = go (eqb x d.exception.serial) refl (find_serial x hs h) f
  where
    go : (b : Bool) → eqb x d.exception.serial ≡ b → (find x hs ≡ Some h → h.exception.serial ≡ x) → cond b (Some d) (find x hs) ≡ Some h → h.exception.serial ≡ x
    go true eb ih f = let p = eqb-true x d.exception.serial eb in let q : d ≡ h = cc in sym (p ∙ ap (λ (h : HeldException). h.exception.serial) q)
    go false eb ih f = ih f

pub find_owned : (x : ℕ) (hs : List HeldException) (h : HeldException) → find x hs ≡ Some h → h.owned ≡ true → has h.exception.serial (raisers hs) ≡ true
unfolding find raisers has
find_owned x [] h f r = absurd cc
find_owned x (d ∷ hs) h f r = go (eqb x d.exception.serial) (find_owned x hs h) f
  where
    later : (b : Bool) → has h.exception.serial (raisers hs) ≡ true → has h.exception.serial (cond b (d.exception.serial ∷ raisers hs) (raisers hs)) ≡ true
    later true e = or_right (eqb h.exception.serial d.exception.serial) _ e
    later false e = e

    go : (b : Bool) → (find x hs ≡ Some h → h.owned ≡ true → has h.exception.serial (raisers hs) ≡ true) → cond b (Some d) (find x hs) ≡ Some h
        → has h.exception.serial (cond d.owned (d.exception.serial ∷ raisers hs) (raisers hs)) ≡ true
    go true ih f = let q : d ≡ h = cc in rw (q, r, eq-eqb h.exception.serial h.exception.serial refl)
    go false ih f = later d.owned (ih f r)

pub find_all : (P : HeldException → Type 0) (x : ℕ) (hs : List HeldException) (h : HeldException) → find x hs ≡ Some h → All P hs → P h
unfolding find
find_all P x [] h f a = absurd cc
find_all P x (d ∷ hs) h f a = go (eqb x d.exception.serial) (λ e. find_all P x hs h e a.1) f
  where
    go : (b : Bool) → (find x hs ≡ Some h → P h) → cond b (Some d) (find x hs) ≡ Some h → P h
    go true ih f = let q : d ≡ h = cc in subst P q a.0
    go false ih f = ih f

-- a new record at the end
pub raisers_push : (hs : List HeldException) (h : HeldException) → h.owned ≡ true → raisers (hs ++ (h ∷ [])) ≡ raisers hs ++ (h.exception.serial ∷ [])
unfolding raisers
raisers_push [] h e = rw e
raisers_push (d ∷ hs) h e = go d.owned (raisers_push hs h e)
  where
    go : (b : Bool) → raisers (hs ++ (h ∷ [])) ≡ raisers hs ++ (h.exception.serial ∷ [])
        → cond b (d.exception.serial ∷ raisers (hs ++ (h ∷ []))) (raisers (hs ++ (h ∷ []))) ≡ cond b (d.exception.serial ∷ raisers hs) (raisers hs) ++ (h.exception.serial ∷ [])
    go true ih = ap (λ r. d.exception.serial ∷ r) ih
    go false ih = ih

pub names_push : (hs : List HeldException) (h : HeldException) → names (hs ++ (h ∷ [])) ≡ names hs ++ (h.exception.serial ∷ [])
names_push [] h = refl
names_push (d ∷ hs) h = ap (λ r. d.exception.serial ∷ r) (names_push hs h)
