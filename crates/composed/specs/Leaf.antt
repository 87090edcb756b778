-- The verdict of a leaf is that of the personality which it holds.
use Rattle.personality.specs.Layers.{release_verdict}
use Rattle.composed.specs.Tree.{Meaning}
use Rattle.composed.specs.declared.leaf.AnyLeaf.{AnyLeaf}
use Rattle.composed.specs.declared.leaf.AnyLeaf.TheVariants.{Release, Tree, Exact}

-- over what the two kinds of table mean
abbrev pub leaf_verdict : {T E : Type 0} → Meaning T → Meaning E → Meaning (AnyLeaf T E)
leaf_verdict tree exact (Release leaf) image q = release_verdict leaf q
leaf_verdict tree exact (Tree leaf) image q = tree leaf image q
leaf_verdict tree exact (Exact leaf) image q = exact leaf image q
