-- The verdict of a table.
use Rattle.std.specs.Prelude.{ℕ, ◌+◌, Bool, true, false, List, length, take, Some, None, Ok, Err, Result, ◌==◌, nat_le}
use Rattle.std.specs.Borrow.{Bor}
use Rattle.personality.specs.Layers.{in_unit_0}
use Rattle.personality.specs.declared.fault.Cause.TheVariants.{CutShort}
use Rattle.personality.specs.declared.fault.Fault.{Fault}
use Rattle.personality.specs.declared.verdict.Question.{Question}
use Rattle.personality.specs.declared.verdict.Verdict.{Verdict}
use Rattle.personality.specs.declared.verdict.Verdict.TheVariants.{Nothing, Cleanup, Terminate, Broken}
use Rattle.numbers.specs.Reading.{broken, then}
use Rattle.lsda.specs.Chain.{chain_at, first_link_of, matching}
use Rattle.lsda.specs.Header.{header_at}
use Rattle.lsda.specs.Site.{find_site, wanted_of}
use Rattle.lsda.specs.declared.header.Header.{Header}
use Rattle.lsda.specs.declared.leaf.Table.{Table}
use Rattle.lsda.specs.declared.site.Site.{Site}

-- the image up to the table's end; a table of which a byte lies outside the image is cut short
abbrev pub table_bytes : List ℕ → ℕ → ℕ → Result (List ℕ) Fault
table_bytes image start size = elim (nat_le (start + size) (length image)) [ true ↦ Ok (take (start + size) image) | false ↦ broken CutShort start ]

-- what a reference that was read points to
abbrev pub held : Result (Bor (List ℕ)) Fault → Result (List ℕ) Fault
held (Ok bytes) = Ok bytes.now
held (Err fault) = Err fault

-- a place without call site
abbrev pub unlisted : Bool → Verdict
unlisted forced = elim forced [ true ↦ Nothing | false ↦ Terminate ]

-- the verdict at a call site: without pad nothing is to be done, action 0 is a cleanup, another begins a chain
abbrev pub landed : List ℕ → ℕ → Header → (ℕ → Bool) → Bool → Site → Result Verdict Fault
landed bs start h matches forced site =
    elim site.pad [
      | None ↦ Ok Nothing
      | Some pad ↦ elim (site.action.value == 0) [ true ↦ Ok (Cleanup pad) | false ↦ chain_at bs start h matches forced pad (first_link_of h.sites.end site.action) ]
    ]

-- a place that asks for nothing gets nothing, once the header is read
abbrev pub judged_at : {L : Type 0} → ℕ → (ℕ → ℕ → Bool) → Table L → List ℕ → Question → Result Verdict Fault
judged_at native caught t image q =
    then (table_bytes image t.start t.length) (λ bs.
    then (header_at bs t.layout t.start t.function) (λ h.
    elim (wanted_of t.layout q.place) [
      | None ↦ Ok Nothing
      | Some wanted ↦ then (find_site (take h.sites.end bs) h t.function wanted) (λ found.
          elim found [
            | None ↦ Ok (unlisted q.forced)
            | Some site ↦ landed bs t.start h (matching native caught q) q.forced site
          ])
    ]))

-- a fault is a verdict too
abbrev pub verdict_of : Result Verdict Fault → Verdict
verdict_of (Ok verdict) = verdict
verdict_of (Err fault) = Broken fault

-- the verdict of a leaf: `native` is its language's class, and `caught` which types catch a thrown one
abbrev pub leaf_verdict : {L : Type 0} → ℕ → (ℕ → ℕ → Bool) → Table L → List ℕ → Question → Verdict
leaf_verdict native caught t image q = in_unit_0 q (verdict_of (judged_at native caught t image q))
