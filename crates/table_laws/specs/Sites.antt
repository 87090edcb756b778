-- Which call site a place finds, over whole lists of records.
use Rattle.std.specs.Prelude.{◌≡◌, ℕ, ◌-◌, ◌<◌, ◌≤◌, Bool, true, false, List, [], ◌∷◌, length, take, Some, None, Ok, Option, ◌==◌}
use Rattle.personality.specs.declared.verdict.Question.{Question}
use Rattle.personality.specs.declared.verdict.Verdict.{Verdict}
use Rattle.personality.specs.declared.verdict.Verdict.TheVariants.{Terminate}
use Rattle.numbers.specs.declared.number.Read.{Read}
use Rattle.lsda.specs.Chain.{matching}
use Rattle.lsda.specs.Header.{header_at}
use Rattle.lsda.specs.Site.{ranged_at, numbered_at}
use Rattle.lsda.specs.Verdict.{table_bytes, unlisted, landed, verdict_of}
use Rattle.lsda.specs.declared.header.Header.{Header}
use Rattle.lsda.specs.declared.header.Layout.TheVariants.{Lsda, Sjlj}
use Rattle.lsda.specs.declared.leaf.Table.{Table}
use Rattle.lsda.specs.declared.site.Ranged.{Ranged}
use Rattle.lsda.specs.declared.site.Site.{Site}

-- x stands in a list
pub data In {A : Type 0} (x : A) : List A → Type 0 where
  here : {xs : List A} → In x (x ∷ xs)
  there : {y : A} {xs : List A} → In x xs → In x (y ∷ xs)

-- all records of a call-site table from an offset on, each of them read soundly; bs end where the call-site table does
pub data Records (bs : List ℕ) (h : Header) (function : ℕ) : ℕ → List (Read Ranged) → Type 0 where
  none : (at : ℕ) → length bs ≤ at → Records bs h function at []
  more : (at : ℕ) (r : Read Ranged) (rs : List (Read Ranged)) → at < length bs → ranged_at bs h function at ≡ Ok r → Records bs h function r.next rs → Records bs h function at (r ∷ rs)

-- each record begins where the one before ends, or later
pub data Rising : List (Read Ranged) → Type 0 where
  none : Rising []
  one : (r : Read Ranged) → Rising (r ∷ [])
  more : (r s : Read Ranged) (rs : List (Read Ranged)) → r.value.to ≤ s.value.from → Rising (s ∷ rs) → Rising (r ∷ (s ∷ rs))

-- a record's range holds a place
abbrev pub Holds : ℕ → Read Ranged → Type 0
Holds place r = (r.value.from ≤ place) × (place < r.value.to)

-- what the records say of the question's place, and the verdict r that the leaf gave
pub record Agrees {L : Type 0} (native : ℕ) (caught : ℕ → ℕ → Bool) (t : Table L) (q : Question) (bs : List ℕ) (h : Header) (rs : List (Read Ranged)) (r : Verdict) : Type 0 where
  -- the record that holds the place gives the verdict
  pub listed : (s : Read Ranged) → In s rs → Holds q.place s → r ≡ verdict_of (landed bs t.start h (matching native caught q) q.forced s.value.site)
  -- a place that no record holds is unlisted
  pub unlisted : ((s : Read Ranged) → In s rs → Holds q.place s → ⊥) → r ≡ unlisted q.forced
  -- and no other place is: it alone may get Terminate
  pub only : r ≡ Terminate → (s : Read Ranged) → In s rs → Holds q.place s → ⊥
  -- no two records hold it
  pub one : (s u : Read Ranged) → In s rs → In u rs → Holds q.place s → Holds q.place u → s ≡ u

-- the verdict r of a table of ranges on a question to its unit, whatever its bytes, its header and its records are
abbrev pub SitesLaw : {L : Type 0} → ℕ → (ℕ → ℕ → Bool) → Table L → List ℕ → Question → Verdict → Type 0
SitesLaw native caught t image q r =
    (bs : List ℕ) (h : Header) (rs : List (Read Ranged))
    → t.layout ≡ Lsda
    → q.unit ≡ 0
    → table_bytes image t.start t.length ≡ Ok bs
    → header_at bs Lsda t.start t.function ≡ Ok h
    → Records (take h.sites.end bs) h t.function h.sites.at rs
    → Rising rs
    → Agrees native caught t q bs h rs r

-- all records of a numbered call-site table from an offset on, each of them read soundly
pub data Numbers (bs : List ℕ) : ℕ → List (Read Site) → Type 0 where
  none : (at : ℕ) → length bs ≤ at → Numbers bs at []
  more : (at : ℕ) (r : Read Site) (rs : List (Read Site)) → at < length bs → numbered_at bs at ≡ Ok r → Numbers bs r.next rs → Numbers bs at (r ∷ rs)

-- the n-th call site, counted from 1
abbrev pub nth_site : ℕ → List (Read Site) → Option Site
nth_site n [] = None
nth_site n (s ∷ ss) = elim (n == 0) [ true ↦ None | false ↦ elim (n == 1) [ true ↦ Some s.value | false ↦ nth_site (n - 1) ss ] ]

-- the verdict r of a numbered table on a question to its unit: that of the n-th record, where the place is a number n that is
-- not negative; without such a record the place is unlisted
abbrev pub NumbersLaw : {L : Type 0} → ℕ → (ℕ → ℕ → Bool) → Table L → List ℕ → Question → Verdict → Type 0
NumbersLaw native caught t image q r =
    (bs : List ℕ) (h : Header) (rs : List (Read Site))
    → t.layout ≡ Sjlj
    → q.unit ≡ 0
    → q.place < 2147483648
    → table_bytes image t.start t.length ≡ Ok bs
    → header_at bs Sjlj t.start t.function ≡ Ok h
    → Numbers (take h.sites.end bs) h.sites.at rs
    → r ≡ elim (nth_site q.place rs) [ None ↦ unlisted q.forced | Some site ↦ verdict_of (landed bs t.start h (matching native caught q) q.forced site) ]
