-- The status and the text that are due, where neither reading nor writing fails and memory doesn't run out.
use Rattle.std.specs.Prelude.{◌≡◌, ℕ, ◌<◌, ◌≤◌, ◌⊎◌, ◌++◌, List, codes, drop, length, take, Option, Some, None, Result, Ok, Err}
use Rattle.aps_model.specs.declared.entry.End.{End}
use Rattle.aps_model.specs.declared.entry.Entry.{Entry}
use Rattle.aps_model.specs.declared.entry.Order.TheVariants.{Free}
use Rattle.aps_model.specs.After.{end_of}
use Rattle.aps_model.specs.Journal.{IsJournal}
use Rattle.aps_model.specs.Legal.{fixed_run}
use Rattle.aps_model.specs.Scenario.{Scenario}
use Rattle.aps_check.specs.declared.verdict.Verdict.{Verdict}
use Rattle.aps_check.specs.declared.verdict.Verdict.TheVariants.{Legal, Breaks}
use Rattle.aps_check.specs.Text.{verdict_text}
use Rattle.aps_check.specs.Verdict.{IsVerdict}
use Rattle.aps_core.specs.Run.{Setup}
use Rattle.aps_scenario.specs.Reading.{reads}
use Rattle.aps_scenario.specs.Refusal.{Refusal}
use Rattle.aps_text.specs.declared.separator.JournalAt.{JournalAt}
use Rattle.aps_text.specs.Place.{Place}
use Rattle.aps_text.specs.Refusal.{IsFirstBad}
use Rattle.aps_text.specs.Separator.{journal_place}
use Rattle.view_words.specs.declared.asked.Asked.{Asked}
use Rattle.view_words.specs.declared.asked.Report.{Report}
use Rattle.view_words.specs.declared.asked.Trace.{Trace}
use Rattle.aps_calls.specs.declared.refusal.InputRefusal.{InputRefusal}
use Rattle.aps_calls.specs.declared.refusal.InputRefusal.TheVariants.{Text, BadJournal}
use Rattle.aps_calls.specs.declared.status.Status.{Status}
use Rattle.aps_calls.specs.declared.status.Status.TheVariants.{Done, WordsRefused, InputRefused, NoMemory, TooLong, JournalBreaks}
use Rattle.view_top.specs.Printing.{Told, Told.at_once, Told.in_pieces}
use Rattle.aps_calls.specs.Refusal.{refusal_text}
use Rattle.view_top.specs.Refusal.{report_refusal}
use Rattle.view_top.specs.Report.{IsReport, trace_of}
use Rattle.aps_calls.specs.Status.{code, status_of_end}
use Rattle.view_top.specs.Traced.{trace_told}
use Rattle.aps_model.specs.Limits.{most_journal_bytes, most_scenario_bytes}

-- a status, and what is written
pub record Due : Type 0 where
  pub status : Status
  pub text : Told

abbrev pub words_refused : Due
words_refused = record { status = WordsRefused; text = at_once (codes "aps: words refused\n") }

abbrev pub too_long : Due
too_long = record { status = TooLong; text = at_once (codes "aps: input too long\n") }

abbrev pub refused : InputRefusal → Due
refused refusal = record { status = InputRefused; text = at_once (refusal_text refusal) }

-- the text of a report under this status; without one the report is refused
abbrev pub reported : Report → Status → Option (List ℕ) → Due
reported report status (Some text) = record { status = status; text = at_once text }
reported report status None = refused (report_refusal report)

-- what is due where a report of a history was asked for, under this status
abbrev pub IsReportedBy : Option Trace → Report → Scenario → List Entry → Status → Due → Type 0
IsReportedBy (Some trace) report scenario h status due = due ≡ record { status = status; text = trace_told trace scenario h }
IsReportedBy None report scenario h status due =
    (text : Option (List ℕ)) × IsReport report scenario h text × (due ≡ reported report status text)

abbrev pub IsReported : Report → Scenario → List Entry → Status → Due → Type 0
IsReported report scenario h status due = IsReportedBy (trace_of report) report scenario h status due

-- ---- a scenario alone

-- the status of a run with this end; each run has one
abbrev pub status_by : Option End → Status
status_by (Some end) = status_of_end end
status_by None = Done

-- the report of the scenario's run in fixed order
abbrev pub IsDueOfRun : Asked → Scenario → Due → Type 0
IsDueOfRun asked scenario due =
    let h = fixed_run scenario asked.limit in
    IsReported asked.report scenario h (status_by (end_of scenario asked.limit h)) due

-- the same of the run that begins with this setup
abbrev pub IsDueOfSetup : Report → Setup → Due → Type 0
IsDueOfSetup report setup due =
    let h = fixed_run setup.scenario setup.limit in
    IsReported report setup.scenario h (status_by (end_of setup.scenario setup.limit h)) due

abbrev pub IsDueOfScenario : Asked → Result Scenario Refusal → Due → Type 0
IsDueOfScenario asked (Ok scenario) due = IsDueOfRun asked scenario due
IsDueOfScenario asked (Err refusal) due = due ≡ refused (Text refusal.kind refusal.path)

abbrev pub IsDueAlone : Asked → List ℕ → Due → Type 0
IsDueAlone asked text due =
    ((most_scenario_bytes < length text) × (due ≡ too_long))
    ⊎ ((length text ≤ most_scenario_bytes) × IsDueOfScenario asked (reads text) due)

-- ---- a scenario with a journal

-- how a journal is judged: in free order, in which each history is legal that is legal in fixed order
abbrev pub judging : Asked → Scenario → Setup
judging asked scenario = record { scenario = scenario; order = Free; limit = asked.limit }

-- the report of the journal's entries where these are legal, whether their run has ended or not; else the verdict
abbrev pub IsDueOfVerdict : Asked → Scenario → List Entry → Verdict → Due → Type 0
IsDueOfVerdict asked scenario h (Legal end) due = IsReported asked.report scenario h Done due
IsDueOfVerdict asked scenario h (Breaks place rule expected) due =
    due ≡ record { status = JournalBreaks; text = at_once (verdict_text (Breaks place rule expected)) }

abbrev pub IsDueOfEntries : Asked → Scenario → List Entry → Due → Type 0
IsDueOfEntries asked scenario h due =
    (verdict : Verdict) × IsVerdict (judging asked scenario) h verdict × IsDueOfVerdict asked scenario h verdict due

-- the text is the journal of some entries, or bad first at some place
abbrev pub IsDueOfJournal : Asked → Scenario → List ℕ → Due → Type 0
IsDueOfJournal asked scenario journal due =
    ((h : List Entry) × IsJournal h journal × IsDueOfEntries asked scenario h due)
    ⊎ ((place : Place) × IsFirstBad journal place × (due ≡ refused (BadJournal place.line place.column)))

-- the scenario comes before the journal
abbrev pub IsDueOfRead : Asked → Result Scenario Refusal → List ℕ → Due → Type 0
IsDueOfRead asked (Ok scenario) journal due = IsDueOfJournal asked scenario journal due
IsDueOfRead asked (Err refusal) journal due = due ≡ refused (Text refusal.kind refusal.path)

-- ---- the input

abbrev pub IsDueOfParts : Asked → List ℕ → Option JournalAt → Due → Type 0
IsDueOfParts asked bytes None due = IsDueAlone asked bytes due
IsDueOfParts asked bytes (Some at) due = IsDueOfRead asked (reads (take at.scenario_len bytes)) (drop at.journal_from bytes) due

-- what the whole input makes due: with a line `--- journal` it is a scenario with a journal, without one a scenario
abbrev pub IsDueOfInput : Asked → List ℕ → Due → Type 0
IsDueOfInput asked bytes due = IsDueOfParts asked bytes (journal_place bytes) due

-- what these words and this input make due: the words come first, then the length, then what the input is
abbrev pub IsViewDue : Option Asked → List ℕ → Due → Type 0
IsViewDue None input due = due ≡ words_refused
IsViewDue (Some asked) input due =
    ((most_journal_bytes < length input) × (due ≡ too_long)) ⊎ ((length input ≤ most_journal_bytes) × IsDueOfInput asked input due)

-- what was written is the text
abbrev pub IsAdded : List ℕ → List ℕ → Told → Type 0
IsAdded before after (at_once text) = after ≡ before ++ text
IsAdded before after (in_pieces text) = after ≡ before ++ text

-- the status that is due came, and its text was written; or memory ran out
abbrev pub IsDueTold : Option Asked → List ℕ → List ℕ → List ℕ → ℕ → Type 0
IsDueTold asked input before after told =
    ((due : Due) × IsViewDue asked input due × (told ≡ code due.status) × IsAdded before after due.text) ⊎ (told ≡ code NoMemory)
