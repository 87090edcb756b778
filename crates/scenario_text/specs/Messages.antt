-- The messages that tell what is wrong with a scenario.
use Rattle.std.specs.Prelude.{ℕ, List, ◌++◌, codes, decimal}
use Rattle.scenario_text.specs.declared.mistake.Form.{Form}
use Rattle.scenario_text.specs.declared.mistake.Form.TheVariants as form
use Rattle.scenario_text.specs.declared.mistake.Mistake.{Mistake}
use Rattle.scenario_text.specs.declared.mistake.Wrong.{Wrong}
use Rattle.scenario_text.specs.declared.mistake.Wrong.TheVariants as wrong

abbrev pub form_text : Form → List ℕ
form_text form.Ask = codes "ask takes UNIT PLACE CLASS TYPE and plain or forced"
form_text form.Serials = codes "serials takes one number"
form_text form.Personality = codes "a personality is missing: release, lsda, sjlj, pair or guest"
form_text form.Release = codes "release takes LO HI PAD"
form_text form.Table = codes "lsda and sjlj take START LENGTH FUNCTION and a language"
form_text form.Language = codes "a language is missing: tree or exact"

abbrev pub wrong_text : Wrong → List ℕ
wrong_text (wrong.NotAStatement word) = codes "'" ++ (word.now ++ codes "' is not a statement")
wrong_text (wrong.NotDecimal word) = codes "'" ++ (word.now ++ codes "' is not a decimal number")
wrong_text (wrong.NotAClass word) = codes "'" ++ (word.now ++ codes "' is not a class in hexadecimal digits")
wrong_text (wrong.NotAByte word) = codes "'" ++ (word.now ++ codes "' is not a byte of one or two hexadecimal digits")
wrong_text (wrong.TooLarge word bits) = codes "'" ++ (word.now ++ (codes "' does not fit " ++ (decimal bits ++ codes " bits")))
wrong_text (wrong.NotPlainOrForced word) = codes "'" ++ (word.now ++ codes "' is neither plain nor forced")
wrong_text (wrong.NotAPersonality word) = codes "'" ++ (word.now ++ codes "' is not a personality: release, lsda, sjlj, pair or guest")
wrong_text (wrong.NotALanguage word) = codes "'" ++ (word.now ++ codes "' is not a language: tree or exact")
wrong_text (wrong.Takes missed) = form_text missed
wrong_text (wrong.NotBracket word bracket) = codes "'" ++ (bracket.now ++ (codes "' is missing before '" ++ (word.now ++ codes "'")))
wrong_text (wrong.NoBracket bracket) = codes "'" ++ (bracket.now ++ codes "' is missing at the end of the line")
wrong_text (wrong.LeftOver word) = codes "'" ++ (word.now ++ codes "' is left over after the personality")
wrong_text (wrong.TooLate statement) = statement.now ++ codes " stands after the first ask"
wrong_text (wrong.GivenTwice statement) = statement.now ++ codes " is given twice"
wrong_text wrong.NoPersonality = codes "ask stands before the personality"
wrong_text wrong.NoMemory = codes "there is no memory left"

abbrev pub mistake_text : Mistake → List ℕ
mistake_text m = codes "line " ++ (decimal m.line ++ (codes ": " ++ wrong_text m.wrong))
