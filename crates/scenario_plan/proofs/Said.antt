-- Layers are said by their parts, and what is said leaves no more words than there were.
use Rattle.std.proofs.Common.{◌≡◌, ℕ, ◌<◌, ◌≤◌, List, [], ◌∷◌, length, drop, vec_items, codes, sym, ap, subst, arith, length-drop}
use Rattle.composed.specs.Tree.{PairOf}
use Rattle.composed.specs.declared.leaf.AnyLeaf.TheVariants as leaf
use Rattle.composed.specs.declared.tree.Composed.{Composed}
use Rattle.composed.specs.declared.tree.Composed.TheVariants.{Leaf, Pair', Guest'}
use Rattle.scenario_text.specs.Words.{Words, word, Begins}
use Rattle.scenario_plan.specs.declared.read.Spoken.{Spoken}
use Rattle.scenario_plan.specs.declared.read.Spoken.TheVariants as language
use Rattle.scenario_plan.specs.Says.{OwnedLeaf, Lists, SaysLanguage, SaysLeaf, Enclosed, Says}

pub says_pair : (x a b : Composed OwnedLeaf) (ws next mid rest : Words) → PairOf x a b → Begins ws (codes "pair") → next ≡ drop 1 ws → Enclosed (Says a) next mid → Enclosed (Says b) mid rest → Says x ws rest
says_pair (Leaf p) a b ws next mid rest made name e h k = absurd made
says_pair (Guest' _ below) a b ws next mid rest made name e h k = absurd made
says_pair (Pair' _ first _ second) a b ws next mid rest made name e h k =
    let h' = subst (λ (w : Words). Enclosed (Says a) w mid) e h in
    (name, (mid, subst (λ (y : Composed OwnedLeaf). Enclosed (Says y) (drop 1 ws) mid) (sym made.0) h', subst (λ (y : Composed OwnedLeaf). Enclosed (Says y) mid rest) (sym made.1) k))

lists_shorter : (ns : List ℕ) (ws rest : Words) → Lists ns ws rest → length rest ≤ length ws
lists_shorter [] ws rest h = omega (arith, ap length h.0)
lists_shorter (n ∷ ns) ws rest h = omega (arith, lists_shorter ns (drop 1 ws) rest h.1, length-drop 1 ws)

language_shorter : (p : Spoken) (ws rest : Words) → SaysLanguage p ws rest → length rest ≤ length ws
language_shorter (language.Tree tree) ws rest h = omega (arith, lists_shorter (vec_items tree.parents) (drop 1 ws) rest h.1, length-drop 1 ws)
language_shorter (language.Exact exact) ws rest h = omega (arith, ap length h.1, length-drop 1 ws)

leaf_shorter : (p : OwnedLeaf) (ws rest : Words) → SaysLeaf p ws rest → length rest ≤ length ws
leaf_shorter (leaf.Release r) ws rest h = omega (arith, ap length h.1.3, length-drop 3 (drop 1 ws), length-drop 1 ws)
leaf_shorter (leaf.Tree t) ws rest h = omega (arith, language_shorter (language.Tree t.language) (drop 3 (drop 1 ws)) rest h.1.3, length-drop 3 (drop 1 ws), length-drop 1 ws)
leaf_shorter (leaf.Exact t) ws rest h = omega (arith, language_shorter (language.Exact t.language) (drop 3 (drop 1 ws)) rest h.1.3, length-drop 3 (drop 1 ws), length-drop 1 ws)

enclosed_by : (Said : Words → Words → Type 0) → ((a b : Words) → Said a b → length b ≤ length a) → (ws rest : Words) → Enclosed Said ws rest → length rest ≤ length ws
enclosed_by Said short ws rest h = omega (arith, short (drop 1 ws) h.1.0 h.1.1, ap length h.1.3, length-drop 1 ws, length-drop 1 h.1.0)

says_shorter : (p : Composed OwnedLeaf) (ws rest : Words) → Says p ws rest → length rest ≤ length ws
says_shorter (Leaf p) ws rest h = leaf_shorter p ws rest h
says_shorter (Pair' _ first _ second) ws rest h =
    omega (arith, enclosed_by (Says first) (λ a b k. says_shorter first a b k) (drop 1 ws) h.1.0 h.1.1, enclosed_by (Says second) (λ a b k. says_shorter second a b k) h.1.0 rest h.1.2, length-drop 1 ws)
says_shorter (Guest' _ below) ws rest h = omega (arith, enclosed_by (Says below) (λ a b k. says_shorter below a b k) (drop 1 ws) rest h.1, length-drop 1 ws)

pub enclosed_shorter : (p : Composed OwnedLeaf) (ws rest : Words) → Enclosed (Says p) ws rest → length rest ≤ length ws
enclosed_shorter p ws rest h = enclosed_by (Says p) (says_shorter p) ws rest h

pub begins_some : (ws : Words) (c : ℕ) (cs : List ℕ) → word ws 0 ≡ c ∷ cs → 0 < length ws
begins_some [] c cs e = absurd (let z : ◌≡◌ {A = ℕ} 0 1 = cc in omega arith)
begins_some (w ∷ ws) c cs e = omega arith
