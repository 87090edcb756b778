-- The verdict of a plan's leaf.
use Rattle.std.specs.Prelude.{nat_eq, vec_items}
use Rattle.languages.specs.Types.{tree_class, caught_in, exact_class}
use Rattle.languages.specs.declared.exact.Exact.{Exact}
use Rattle.languages.specs.declared.owned.OwnedTree.{OwnedTree}
use Rattle.lsda.specs.Verdict as table
use Rattle.lsda.specs.declared.leaf.Table.{Table}
use Rattle.composed.specs.Leaf.{leaf_verdict}
use Rattle.composed.specs.Tree.{Meaning}
use Rattle.scenario_plan.specs.Says.{OwnedLeaf}

-- a table in the language of its list, and in the language of equal types
abbrev pub tree_verdict : Meaning (Table OwnedTree)
tree_verdict t image q = table.leaf_verdict tree_class (caught_in (vec_items t.language.parents)) t image q

abbrev pub exact_verdict : Meaning (Table Exact)
exact_verdict t image q = table.leaf_verdict exact_class (λ catch thrown. nat_eq catch thrown) t image q

abbrev pub planned_verdict : Meaning OwnedLeaf
planned_verdict = leaf_verdict tree_verdict exact_verdict
