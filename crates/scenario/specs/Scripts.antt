-- What a statement adds to a scenario.
use Rattle.std.specs.Prelude.{◌≡◌, ℕ, ◌+◌, ◌<◌, true, List, [], ◌∷◌, ◌++◌, length, is_some, Some, None, vec_items, vec_len, Option}
use Rattle.std.specs.Str.Lines.{IsFirstLine}
use Rattle.scenario_text.specs.Words.{Words, Uncommented, WordsOf}
use Rattle.scenario.specs.Statements.{SaysLine}
use Rattle.scenario.specs.declared.script.Scenario.{Scenario}
use Rattle.scenario.specs.declared.statement.Statement.{Statement}
use Rattle.scenario.specs.declared.statement.Statement.TheVariants.{Image, Personality, Serials, Ask}

-- what is set up comes before the first question and, but for the image, once; a question comes after the personality
abbrev pub Added : Statement → Scenario → Scenario → Type 0
Added (Image bytes) s t =
    (vec_len s.questions ≡ 0) × (vec_items t.image ≡ vec_items s.image ++ vec_items bytes) × (t.personality ≡ s.personality) × (t.serials ≡ s.serials) × (t.questions ≡ s.questions)
Added (Personality plan) s t =
    (vec_len s.questions ≡ 0) × (s.personality ≡ None) × (t.personality ≡ Some plan) × (t.image ≡ s.image) × (t.serials ≡ s.serials) × (t.questions ≡ s.questions)
Added (Serials n) s t =
    (vec_len s.questions ≡ 0) × (s.serials ≡ None) × (t.serials ≡ Some n) × (t.image ≡ s.image) × (t.personality ≡ s.personality) × (t.questions ≡ s.questions)
Added (Ask q) s t =
    (is_some s.personality ≡ true) × (vec_items t.questions ≡ vec_items s.questions ++ (q ∷ [])) × (t.image ≡ s.image) × (t.personality ≡ s.personality) × (t.serials ≡ s.serials)

-- a line without words adds nothing
abbrev pub LineAdded : Option Statement → Scenario → Scenario → Type 0
LineAdded None s t = t ≡ s
LineAdded (Some statement) s t = Added statement s t

-- the scenario after a line: its words, up to a comment, say the statement that is added
abbrev pub Follows : List ℕ → Scenario → Scenario → Type 0
Follows line s t = (text : List ℕ) × (ws : Words) × (o : Option Statement) × Uncommented line text × WordsOf text ws × SaysLine o ws × LineAdded o s t

-- nothing is set up or asked
abbrev pub Fresh : Scenario → Type 0
Fresh s = (vec_items s.image ≡ []) × (s.personality ≡ None) × (s.serials ≡ None) × (vec_items s.questions ≡ [])

-- the scenario as the first n lines of the text make it of the first one, and what is left of the text
pub data Reached (text : List ℕ) (first : Scenario) : ℕ → Scenario → List ℕ → Type 0 where
  start : Reached text first 0 first text
  line : (n : ℕ) (s t : Scenario) (words left rest : List ℕ) → Reached text first n s left → 0 < length left → IsFirstLine left words rest → Follows words s t → Reached text first (n + 1) t rest

-- all lines of the text have been read
abbrev pub ReadWhole : List ℕ → Scenario → Type 0
ReadWhole text s = (first : Scenario) × (n : ℕ) × (left : List ℕ) × Fresh first × Reached text first n s left × (length left ≡ 0)

-- the lines before this one have been read, and there is such a line
abbrev pub StoppedAt : List ℕ → ℕ → Type 0
StoppedAt text number = (first : Scenario) × (n : ℕ) × (s : Scenario) × (left : List ℕ) × Fresh first × Reached text first n s left × (0 < length left) × (number ≡ n + 1)
