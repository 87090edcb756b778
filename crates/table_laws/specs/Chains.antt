-- Which link of a chain gives the verdict.
use Rattle.std.specs.Prelude.{◌≡◌, ℕ, ◌<◌, ◌≤◌, Bool, true, false, ◌⊎◌, List, [], ◌∷◌, ◌++◌, length, take, ℤ, pos, ◌+ℤ◌, Some, Ok, Option, ◌≢◌}
use Rattle.personality.specs.declared.verdict.Question.{Question}
use Rattle.personality.specs.declared.verdict.Verdict.{Verdict}
use Rattle.personality.specs.declared.verdict.Verdict.TheVariants.{Cleanup, Handler}
use Rattle.numbers.specs.Numbers.{leb128_at}
use Rattle.numbers.specs.Reading.{Number}
use Rattle.lsda.specs.Chain.{entry_at, first_link_of, matching}
use Rattle.lsda.specs.Header.{header_at}
use Rattle.lsda.specs.Site.{find_site, wanted_of}
use Rattle.lsda.specs.Verdict.{table_bytes}
use Rattle.lsda.specs.declared.header.Header.{Header}
use Rattle.lsda.specs.declared.header.TypeTable.{TypeTable}
use Rattle.lsda.specs.declared.leaf.Table.{Table}
use Rattle.lsda.specs.declared.site.Site.{Site}
use Rattle.lsda.specs.declared.site.Wanted.{Wanted}
use Rattle.table_laws.specs.Sites.{In}

-- a link: where it starts, its filter and its displacement
pub record Link : Type 0 where
  pub at : ℕ
  pub filter : Number
  pub displacement : Number

-- the link stands in the bytes bs, and starts in the action table
pub record Stands (bs : List ℕ) (actions : ℕ) (l : Link) : Type 0 where
  pub first : actions ≤ l.at
  pub inside : l.at < length bs
  pub filter : leb128_at bs true l.at ≡ Ok l.filter
  pub displacement : leb128_at bs true l.filter.next ≡ Ok l.displacement

-- the links of a chain that starts at z, up to one of them: each of the earlier ones has a displacement other than 0,
-- which leads to the next from its own first byte on
pub data Leads (bs : List ℕ) (actions : ℕ) : ℤ → List Link → Link → Type 0 where
  at_once : (l : Link) → Stands bs actions l → Leads bs actions (pos l.at) [] l
  through : (e : Link) (es : List Link) (l : Link) → Stands bs actions e → (e.displacement.value ≢ pos 0) → Leads bs actions (pos e.filter.next +ℤ e.displacement.value) es l → Leads bs actions (pos e.at) (e ∷ es) l

-- a link matches: its filter names a type entry whose type matches, and the question is not forced
pub record Matches (bs : List ℕ) (start : ℕ) (types : Option TypeTable) (matches : ℕ → Bool) (forced : Bool) (l : Link) : Type 0 where
  pub n : ℕ
  pub type : ℕ
  pub plain : forced ≡ false
  pub positive : 0 < n
  pub filter : l.filter.value ≡ pos n
  pub entry : entry_at bs start types n l.at ≡ Ok type
  pub match : matches type ≡ true

-- a handler comes from the first link that matches, among at most so many from the first on
pub record FromLink (bs : List ℕ) (start : ℕ) (h : Header) (matches : ℕ → Bool) (forced : Bool) (most : ℕ) (first selector : ℤ) : Type 0 where
  pub earlier : List Link
  pub link : Link
  pub leads : Leads bs h.sites.end first earlier link
  pub few : length earlier < most
  pub selector_is : link.filter.value ≡ selector
  pub matching : Matches bs start h.types matches forced link
  pub first_match : (e : Link) → In e earlier → Matches bs start h.types matches forced e → ⊥

-- a cleanup comes from a whole chain, among whose links, at most so many, none matches and one has filter 0
pub record FromChain (bs : List ℕ) (start : ℕ) (h : Header) (matches : ℕ → Bool) (forced : Bool) (most : ℕ) (first : ℤ) : Type 0 where
  pub earlier : List Link
  pub last : Link
  pub leads : Leads bs h.sites.end first earlier last
  pub few : length earlier < most
  pub ends : last.displacement.value ≡ pos 0
  pub no_match : (e : Link) → In e (earlier ++ (last ∷ [])) → Matches bs start h.types matches forced e → ⊥
  pub cleanup : (e : Link) × In e (earlier ++ (last ∷ [])) × (e.filter.value ≡ pos 0)

-- where a call site's chain starts
abbrev pub start_of : Header → Site → ℤ
start_of h site = (first_link_of h.sites.end site.action).at

-- the call site that a leaf finds for a question, in its bytes bs and under its header h
pub record Found {L : Type 0} (t : Table L) (image : List ℕ) (q : Question) (bs : List ℕ) (h : Header) (site : Site) : Type 0 where
  pub wanted : Wanted
  pub bytes : table_bytes image t.start t.length ≡ Ok bs
  pub header : header_at bs t.layout t.start t.function ≡ Ok h
  pub asks : wanted_of t.layout q.place ≡ Some wanted
  pub finds : find_site (take h.sites.end bs) h t.function wanted ≡ Ok (Some site)

-- a leaf's handler: the call site's pad, and the filter of the first link of its chain that matches
pub record Handled {L : Type 0} (native : ℕ) (caught : ℕ → ℕ → Bool) (t : Table L) (image : List ℕ) (q : Question) (pad : ℕ) (selector : ℤ) : Type 0 where
  pub bs : List ℕ
  pub h : Header
  pub site : Site
  pub found : Found t image q bs h site
  pub pad_is : site.pad ≡ Some pad
  pub link : FromLink bs t.start h (matching native caught q) q.forced 64 (start_of h site) selector

-- a leaf's cleanup: the call site's pad, where the action is 0, or no link of its chain matches and one has filter 0
pub record Cleaned {L : Type 0} (native : ℕ) (caught : ℕ → ℕ → Bool) (t : Table L) (image : List ℕ) (q : Question) (pad : ℕ) : Type 0 where
  pub bs : List ℕ
  pub h : Header
  pub site : Site
  pub found : Found t image q bs h site
  pub pad_is : site.pad ≡ Some pad
  pub action : (site.action.value ≡ 0) ⊎ FromChain bs t.start h (matching native caught q) q.forced 64 (start_of h site)

-- of the verdict r of a leaf on a question
abbrev pub HandlerLaw : {L : Type 0} → ℕ → (ℕ → ℕ → Bool) → Table L → List ℕ → Question → Verdict → Type 0
HandlerLaw native caught t image q r = (pad : ℕ) (selector : ℤ) → r ≡ Handler pad selector → Handled native caught t image q pad selector

abbrev pub CleanupLaw : {L : Type 0} → ℕ → (ℕ → ℕ → Bool) → Table L → List ℕ → Question → Verdict → Type 0
CleanupLaw native caught t image q r = (pad : ℕ) → r ≡ Cleanup pad → Cleaned native caught t image q pad
