-- What `split_whitespace` gives are the words of the text.
use Rattle.std.proofs.Common.{List, ℕ, [], ◌∷◌, ◌++◌, subst, append_assoc, append-nil}
use Rattle.std.specs.declared.str.SplitWhitespace.{SplitWhitespace}
use Rattle.std.specs.Iterator.{Yields, DrainsIf}
use Rattle.std.specs.Str.Iter.{split_whitespace_rest, split_whitespace_steps}
use Rattle.scenario_text.specs.Words.{Words, WordsOf, Spaced, start, next}

onward : (text : List ℕ) (ws xs : Words) (s t : SplitWhitespace) → Spaced text ws (split_whitespace_rest s) → Yields split_whitespace_steps s xs t → Spaced text (ws ++ xs) (split_whitespace_rest t)
onward text ws [] s t h y = rw append-nil (subst (λ (u : SplitWhitespace). Spaced text ws (split_whitespace_rest u)) y h)
onward text ws (x ∷ xs) s t h y =
    let step = y.1 in
    let more = next ws x (split_whitespace_rest s) step.0 (split_whitespace_rest y.0) step.5.0 h step.1 step.2 step.3 step.4 step.5.1 in
    rw append_assoc at (onward text (ws ++ (x ∷ [])) xs y.0 t more y.2)

pub words_split : (s : SplitWhitespace) (ws : Words) → DrainsIf split_whitespace_steps (Unit {0}) s ws → WordsOf (split_whitespace_rest s) ws
words_split s ws d = let left = d.0 in (split_whitespace_rest left, onward (split_whitespace_rest s) [] ws s left start d.1, (d.2 tt).1.1)
