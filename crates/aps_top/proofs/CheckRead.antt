-- What the input of `check` is, by its parts.
use Rattle.std.proofs.Common.{◌≡◌, ℕ, List, drop, take, Some, None, Ok, Err, refl}
use Rattle.aps_model.specs.declared.entry.Entry.{Entry}
use Rattle.aps_model.specs.Journal.{IsJournal}
use Rattle.aps_model.specs.Scenario.{Scenario}
use Rattle.aps_scenario.specs.Reading.{reads}
use Rattle.aps_scenario.specs.Refusal.{Refusal, RefusesScenario}
use Rattle.aps_scenario.specs.declared.refusal.ScenarioRefusal.{ScenarioRefusal}
use Rattle.aps_scenario.specs.declared.refusal.ScenarioRefusal.TheVariants.{Refused, NoMemory}
use Rattle.aps_text.specs.declared.separator.JournalAt.{JournalAt}
use Rattle.aps_text.specs.Place.{Place}
use Rattle.aps_text.specs.Refusal.{IsFirstBad, Refuses as BadFirst}
use Rattle.aps_text.specs.declared.refusal.JournalRefusal.{JournalRefusal}
use Rattle.aps_text.specs.declared.refusal.JournalRefusal.TheVariants as journal
use Rattle.aps_text.specs.Separator.{journal_place}
use Rattle.aps_text.specs.Whole.{first_bad_place}
use Rattle.aps_text.proofs.Wholes.{first_bad_is, none_bad_is}
use Rattle.aps_calls.specs.declared.refusal.InputRefusal.TheVariants.{Text, NoJournal, BadJournal}
use Rattle.aps_top.specs.CheckInput.{IsCheck, check_refusal}
use Rattle.aps_calls.specs.Failure.{of_refusal, of_journal_refusal}
use Rattle.aps_top.specs.Reading.{RefusesText}

pub no_line : (bytes : List ℕ) → journal_place bytes ≡ None → check_refusal bytes ≡ Some NoJournal
no_line bytes none = rw none refl

module _ (bytes : List ℕ) (at : JournalAt) (parted : journal_place bytes ≡ Some at) where
  pub no_scenario : (refusal : Refusal) → reads (take at.scenario_len bytes) ≡ Err refusal
      → check_refusal bytes ≡ Some (Text refusal.kind refusal.path)
  no_scenario refusal read = rw (parted, read) refl

  -- the same of what `scenario_of` answered
  pub refused_scenario : (refusal : ScenarioRefusal) → RefusesScenario refusal (reads (take at.scenario_len bytes))
      → RefusesText (check_refusal bytes) (of_refusal refusal)
  refused_scenario (Refused kind path) read = no_scenario (record { kind = kind; path = path }) read
  refused_scenario NoMemory read = tt

  pub no_journal : (scenario : Scenario) (place : Place) → reads (take at.scenario_len bytes) ≡ Ok scenario
      → IsFirstBad (drop at.journal_from bytes) place → check_refusal bytes ≡ Some (BadJournal place.line place.column)
  no_journal scenario place read bad =
      let found : first_bad_place (drop at.journal_from bytes) ≡ Some place = (first_bad_is (drop at.journal_from bytes) place).1 bad in
      rw (parted, read, found) refl

  -- the same of what `read_journal` answered
  pub refused_journal : (scenario : Scenario) (refusal : JournalRefusal) → reads (take at.scenario_len bytes) ≡ Ok scenario
      → BadFirst (drop at.journal_from bytes) refusal → RefusesText (check_refusal bytes) (of_journal_refusal refusal)
  refused_journal scenario (journal.BadLine line column) read bad = no_journal scenario (record { line = line; column = column }) read bad
  refused_journal scenario journal.NoMemory read bad = tt

  pub whole : (scenario : Scenario) (entries : List Entry) → reads (take at.scenario_len bytes) ≡ Ok scenario
      → IsJournal entries (drop at.journal_from bytes) → IsCheck bytes scenario entries
  whole scenario entries read journal =
      let found : first_bad_place (drop at.journal_from bytes) ≡ None = (none_bad_is (drop at.journal_from bytes)).1 (entries, journal) in
      (drop at.journal_from bytes, rw (parted, read, found) refl, journal)
