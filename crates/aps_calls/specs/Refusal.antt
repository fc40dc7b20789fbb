-- Why an input is refused, and the line that tells it.
use Rattle.std.specs.Prelude.{ℕ, List, ◌++◌, codes, ⊤}
use Rattle.std.specs.Fmt.{decimal}
use Rattle.aps_scenario.specs.Kind.{kind_word}
use Rattle.aps_calls.specs.declared.refusal.InputRefusal.{InputRefusal}
use Rattle.aps_calls.specs.declared.refusal.InputRefusal.TheVariants.{Text, NoJournal, BadJournal, UnknownThread, BehindEnd}

-- what a refusal is called, with its newline
abbrev pub input_refusal_words : InputRefusal → List ℕ
input_refusal_words (Text kind path) = kind_word kind ++ codes " " ++ path ++ codes "\n"
input_refusal_words NoJournal = codes "no-journal -\n"
input_refusal_words (BadJournal line column) = codes "bad-journal " ++ (decimal line ++ (codes ":" ++ (decimal column ++ codes "\n")))
input_refusal_words UnknownThread = codes "unknown-name --thread\n"
input_refusal_words BehindEnd = codes "out-of-range --from\n"

-- the line of a refusal
abbrev pub refusal_text : InputRefusal → List ℕ
refusal_text refusal = codes "aps: scenario refused: " ++ input_refusal_words refusal

-- the line takes memory to be made
abbrev pub IsLineToMake : InputRefusal → Type 0
IsLineToMake (Text kind path) = ⊤
IsLineToMake NoJournal = ⊥
IsLineToMake (BadJournal line column) = ⊤
IsLineToMake UnknownThread = ⊥
IsLineToMake BehindEnd = ⊥
