-- Which words say a plan, and which are left after them.
use Rattle.std.specs.Prelude.{◌≡◌, ℕ, ◌⊎◌, List, [], ◌∷◌, length, drop, vec_items, codes}
use Rattle.personality.specs.declared.layers.Release.{Release}
use Rattle.lsda.specs.declared.header.Layout.{Layout}
use Rattle.lsda.specs.declared.header.Layout.TheVariants.{Lsda, Sjlj}
use Rattle.lsda.specs.declared.leaf.Table.{Table}
use Rattle.languages.specs.declared.exact.Exact.{Exact}
use Rattle.languages.specs.declared.owned.OwnedTree.{OwnedTree}
use Rattle.composed.specs.declared.leaf.AnyLeaf.{AnyLeaf}
use Rattle.composed.specs.declared.leaf.AnyLeaf.TheVariants as leaf
use Rattle.composed.specs.declared.tree.Composed.{Composed}
use Rattle.composed.specs.declared.tree.Composed.TheVariants.{Leaf, Pair', Guest'}
use Rattle.scenario_text.specs.Words.{Words, Begins, Writes}
use Rattle.scenario_plan.specs.declared.read.Spoken.{Spoken}
use Rattle.scenario_plan.specs.declared.read.Spoken.TheVariants as language

-- the leaves of plans, which own their lists
abbrev pub OwnedLeaf : Type 0
OwnedLeaf = AnyLeaf (Table OwnedTree) (Table Exact)

-- the first words write these numbers, and then comes a closing bracket or nothing
abbrev pub Lists : List ℕ → Words → Words → Type 0
Lists [] ws rest = (rest ≡ ws) × ((length ws ≡ 0) ⊎ Begins ws (codes ")"))
Lists (n ∷ ns) ws rest = Writes 10 ws 0 n × Lists ns (drop 1 ws) rest

abbrev pub SaysLanguage : Spoken → Words → Words → Type 0
SaysLanguage (language.Tree tree) ws rest = Begins ws (codes "tree") × Lists (vec_items tree.parents) (drop 1 ws) rest
SaysLanguage (language.Exact exact) ws rest = Begins ws (codes "exact") × (rest ≡ drop 1 ws)

abbrev pub SaysRelease : Release → Words → Words → Type 0
SaysRelease r ws rest = Writes 10 ws 0 r.lo × Writes 10 ws 1 r.hi × Writes 10 ws 2 r.pad × (rest ≡ drop 3 ws)

-- the numbers of a table, and its language
abbrev pub SaysTable : {L : Type 0} → Table L → Spoken → Words → Words → Type 0
SaysTable t spoken ws rest =
    Writes 10 ws 0 t.start × Writes 10 ws 1 t.length × Writes 10 ws 2 t.function × SaysLanguage spoken (drop 3 ws) rest

abbrev pub layout_name : Layout → List ℕ
layout_name Lsda = codes "lsda"
layout_name Sjlj = codes "sjlj"

abbrev pub SaysLeaf : OwnedLeaf → Words → Words → Type 0
SaysLeaf (leaf.Release r) ws rest = Begins ws (codes "release") × SaysRelease r (drop 1 ws) rest
SaysLeaf (leaf.Tree t) ws rest = Begins ws (layout_name t.layout) × SaysTable t (language.Tree t.language) (drop 1 ws) rest
SaysLeaf (leaf.Exact t) ws rest = Begins ws (layout_name t.layout) × SaysTable t (language.Exact t.language) (drop 1 ws) rest

-- a table in another language, and the leaf of a table in one that was read
abbrev pub table_in : {L M : Type 0} → Table L → M → Table M
table_in t spoken = record { layout = t.layout; start = t.start; length = t.length; function = t.function; language = spoken }

abbrev pub leaf_of : {L : Type 0} → Table L → Spoken → OwnedLeaf
leaf_of t (language.Tree tree) = leaf.Tree (table_in t tree)
leaf_of t (language.Exact exact) = leaf.Exact (table_in t exact)

-- what is said in brackets
abbrev pub Enclosed : (Words → Words → Type 0) → Words → Words → Type 0
Enclosed Said ws rest = Begins ws (codes "(") × ((after : Words) × Said (drop 1 ws) after × Begins after (codes ")") × (rest ≡ drop 1 after))

abbrev pub Says : Composed OwnedLeaf → Words → Words → Type 0
Says (Leaf p) ws rest = SaysLeaf p ws rest
Says (Pair' _ first _ second) ws rest = Begins ws (codes "pair") × ((between : Words) × Enclosed (Says first) (drop 1 ws) between × Enclosed (Says second) between rest)
Says (Guest' _ below) ws rest = Begins ws (codes "guest") × Enclosed (Says below) (drop 1 ws) rest
