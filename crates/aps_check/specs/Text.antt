-- The text of a verdict: one line.
use lib.Chars.{codes}
use Rattle.std.specs.Prelude.{ℕ, List, [], ◌∷◌, Option, Some, None}
use Rattle.std.specs.Fmt.{decimal}
use Rattle.aps_model.specs.declared.entry.End.{End}
use Rattle.aps_model.specs.Journal.{line_of}
use Rattle.aps_model.specs.Report.{end_words}
use Rattle.aps_check.specs.declared.verdict.Rule.{Rule}
use Rattle.aps_check.specs.declared.verdict.Rule.TheVariants.{Turn, From, To, Ran, Billed, Critical, Done, Picked, Starved, Flagged, After}
use Rattle.aps_check.specs.declared.verdict.Verdict.{Verdict}
use Rattle.aps_check.specs.declared.verdict.Verdict.TheVariants.{Legal, Breaks}

abbrev pub rule_word : Rule → List ℕ
rule_word Turn = codes "turn"
rule_word From = codes "from"
rule_word To = codes "to"
rule_word Ran = codes "ran"
rule_word Billed = codes "billed"
rule_word Critical = codes "critical"
rule_word Done = codes "done"
rule_word Picked = codes "picked"
rule_word Starved = codes "starved"
rule_word Flagged = codes "flagged"
rule_word After = codes "after"

-- how a legal journal has ended
abbrev pub end_or_open : Option End → List (List ℕ)
end_or_open None = codes "open" ∷ []
end_or_open (Some end) = end_words (Some end)

abbrev pub verdict_text : Verdict → List ℕ
verdict_text (Legal end) = line_of (codes "check" ∷ codes "legal" ∷ end_or_open end)
verdict_text (Breaks place rule expected) = line_of (codes "check" ∷ codes "breaks" ∷ decimal place ∷ rule_word rule ∷ [])
