-- A forced question gets no harm from a tree whose leaves do none.
use Rattle.std.specs.Prelude.{◌≡◌, ℕ, ◌%◌, Bool, true, false, cond, List, ◌==◌, refl}
use Rattle.personality.specs.Verdicts.{Harmless, raised, halved, pressed}
use Rattle.personality.specs.declared.verdict.Question.{Question}
use Rattle.personality.specs.declared.verdict.Verdict.{Verdict}
use Rattle.personality.specs.declared.verdict.Verdict.TheVariants.{Nothing, Cleanup, Handler, Terminate, Broken}
use Rattle.composed.specs.Tree.{composed_verdict}
use Rattle.composed.specs.declared.tree.Composed.{Composed}
use Rattle.composed.specs.declared.tree.Composed.TheVariants.{Leaf, Pair', Guest'}

raised_harmless : (v : Verdict) → Harmless v → Harmless (raised v)
raised_harmless Nothing h = tt
raised_harmless (Cleanup pad) h = tt
raised_harmless (Handler pad selector) h = h
raised_harmless Terminate h = h
raised_harmless (Broken f) h = tt

either : (b : Bool) (v w : Verdict) → Harmless v → Harmless w → Harmless (cond b v w)
either true v w h k = h
either false v w h k = k

pub harmless : {P : Type 0} (verdict : P → List ℕ → Question → Verdict) → ((p : P) (image : List ℕ) (q : Question) → q.forced ≡ true → Harmless (verdict p image q)) → (x : Composed P) (image : List ℕ) (q : Question) → q.forced ≡ true → Harmless (composed_verdict verdict x image q)
harmless verdict law (Leaf p) image q f = law p image q f
harmless verdict law (Pair' _ first _ second) image q f =
    raised_harmless _ (either (q.unit % 2 == 0) _ _ (harmless verdict law first image (halved q) f) (harmless verdict law second image (halved q) f))
harmless verdict law (Guest' _ below) image q f = raised_harmless _ (harmless verdict law below image (pressed q) refl)
