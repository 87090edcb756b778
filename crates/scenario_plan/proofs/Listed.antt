-- A list that is read word by word.
use Rattle.std.proofs.Common.{◌≡◌, ℕ, ◌⊎◌, List, [], ◌++◌, length, codes, refl, subst, append-nil}
use Rattle.scenario_text.specs.Words.{Words, Begins}
use Rattle.scenario_plan.specs.Says.{Lists}

-- what the words that are left list comes after what was found
abbrev pub Onward : List ℕ → Words → Words → Type 0
Onward found ws rest = (more : List ℕ) (end : Words) → Lists more rest end → Lists (found ++ more) ws end

pub onward_end : (found : List ℕ) (ws rest : Words) → Onward found ws rest → (length rest ≡ 0) ⊎ Begins rest (codes ")") → Lists found ws rest
onward_end found ws rest inv e = subst (λ (ns : List ℕ). Lists ns ws rest) (append-nil found) (inv [] rest (refl, e))
