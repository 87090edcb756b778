use Rattle.std.proofs.Common.{◌≡◌, Option, MatchOption, Some, None, List, ℕ, refl, inl, inr, lit<, rules}
use Rattle.std.specs.Borrow.{Bor}
use Rattle.std.proofs.lemmas.Str.Pattern.{IsSplitOnceResult, split_parts}
use Rattle.scenario_text.specs.Words.{Uncommented}
use Rattle.scenario_text.proofs.words.code.Goals as goal

uncommented : {Taken : Bor (List ℕ) × Bor (List ℕ) → Type 0} (line code : Bor (List ℕ)) (r : Option (Bor (List ℕ) × Bor (List ℕ))) → IsSplitOnceResult 35 line.now r → MatchOption r (code ≡ line) Taken → ((x : Bor (List ℕ) × Bor (List ℕ)) → Taken x → code ≡ x.0) → Uncommented line.now code.now
uncommented line code None cut taken before = rw taken (split_parts 35 line.now None cut (lit< tt), inl refl)
uncommented line code (Some x) cut taken before =
    let parts = split_parts 35 line.now (Some x) cut (lit< tt) in
    rw (before x taken) (parts.1, inr (_, parts.0))

pub returns : goal.returns
returns c = uncommented c.args.line c.map_or.result c.split_once.result c.split_once.ensures.cases c.map_or.ensures (λ x h. search rules)
