-- The verdict of a tree of personalities, and what a tree is made of.
use Rattle.std.specs.Prelude.{◌≡◌, ℕ, List}
use Rattle.personality.specs.Layers.{pair_verdict, guest_verdict}
use Rattle.personality.specs.declared.verdict.Question.{Question}
use Rattle.personality.specs.declared.verdict.Verdict.{Verdict}
use Rattle.composed.specs.declared.tree.Composed.{Composed}
use Rattle.composed.specs.declared.tree.Composed.TheVariants.{Leaf, Pair', Guest'}

-- what personalities of a type mean: a verdict for the bytes of an image and a question
abbrev pub Meaning : Type 0 → Type 0
Meaning P = P → List ℕ → Question → Verdict

-- over what a leaf means
abbrev pub composed_verdict : {P : Type 0} → Meaning P → Meaning (Composed P)
composed_verdict verdict (Leaf leaf) image q = verdict leaf image q
composed_verdict verdict (Pair' _ first _ second) image q = pair_verdict (composed_verdict verdict first image) (composed_verdict verdict second image) q
composed_verdict verdict (Guest' _ below) image q = guest_verdict (composed_verdict verdict below image) q

-- the tree is a pair of these two
abbrev pub PairOf : {P : Type 0} → Composed P → Composed P → Composed P → Type 0
PairOf (Leaf leaf) a b = ⊥
PairOf (Pair' _ first _ second) a b = (first ≡ a) × (second ≡ b)
PairOf (Guest' _ below) a b = ⊥

-- the tree is a guest over this one
abbrev pub GuestOf : {P : Type 0} → Composed P → Composed P → Type 0
GuestOf (Leaf leaf) a = ⊥
GuestOf (Pair' _ first _ second) a = ⊥
GuestOf (Guest' _ below) a = below ≡ a
