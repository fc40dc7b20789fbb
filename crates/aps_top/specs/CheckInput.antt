-- The input of `check`: a scenario, the line `--- journal`, and a journal.
use Rattle.std.specs.Prelude.{◌≡◌, ℕ, List, drop, take, Option, Some, None, Result, Ok, Err}
use Rattle.std.specs.Result.{result_err}
use Rattle.aps_model.specs.declared.entry.Entry.{Entry}
use Rattle.aps_model.specs.Journal.{IsJournal}
use Rattle.aps_model.specs.Scenario.{Scenario}
use Rattle.aps_scenario.specs.Reading.{reads}
use Rattle.aps_scenario.specs.Refusal.{Refusal}
use Rattle.aps_text.specs.declared.separator.JournalAt.{JournalAt}
use Rattle.aps_text.specs.Place.{Place}
use Rattle.aps_text.specs.Separator.{journal_place}
use Rattle.aps_text.specs.Whole.{first_bad_place}
use Rattle.aps_calls.specs.declared.refusal.InputRefusal.{InputRefusal}
use Rattle.aps_calls.specs.declared.refusal.InputRefusal.TheVariants.{Text, NoJournal, BadJournal}

-- the scenario before the separating line, and the text of a journal behind it
pub record CheckInput : Type 0 where
  pub scenario : Scenario
  pub journal : List ℕ

-- with this scenario before it, the text is a journal unless it is bad at some place
abbrev pub journal_read : Scenario → List ℕ → Option Place → Result CheckInput InputRefusal
journal_read scenario journal None = Ok (record { scenario = scenario; journal = journal })
journal_read scenario journal (Some place) = Err (BadJournal place.line place.column)

abbrev pub scenario_read : List ℕ → Result Scenario Refusal → Result CheckInput InputRefusal
scenario_read journal (Err refusal) = Err (Text refusal.kind refusal.path)
scenario_read journal (Ok scenario) = journal_read scenario journal (first_bad_place journal)

abbrev pub parts_read : List ℕ → Option JournalAt → Result CheckInput InputRefusal
parts_read bytes None = Err NoJournal
parts_read bytes (Some at) = scenario_read (drop at.journal_from bytes) (reads (take at.scenario_len bytes))

-- the scenario and the journal's text, or the first of these refusals: there is no separating line; what stands before
-- it is no scenario; what stands behind it is no journal
abbrev pub reads_check : List ℕ → Result CheckInput InputRefusal
reads_check bytes = parts_read bytes (journal_place bytes)

abbrev pub check_refusal : List ℕ → Option InputRefusal
check_refusal bytes = result_err (reads_check bytes)

-- the input is this scenario with the journal of these entries
abbrev pub IsCheck : List ℕ → Scenario → List Entry → Type 0
IsCheck bytes scenario entries =
    (journal : List ℕ) × (reads_check bytes ≡ Ok (record { scenario = scenario; journal = journal })) × IsJournal entries journal
