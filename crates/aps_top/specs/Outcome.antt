-- The outcome of a call: its status, its text and its history.
use Rattle.std.specs.Prelude.{ℕ, List, string_bytes, Option, Some, None, ⊤}
use Rattle.aps_model.specs.Audit.{audit_of}
use Rattle.aps_model.specs.History.{History}
use Rattle.aps_model.specs.Journal.{journal_text}
use Rattle.aps_model.specs.Report.{summary_text, windows_text}
use Rattle.aps_admit.specs.declared.admission.Admission.{Admission}
use Rattle.aps_admit.specs.declared.admission.Admission.TheVariants.{Budgets, Needs}
use Rattle.aps_admit.specs.Text.{admission_text}
use Rattle.aps_calls.specs.declared.status.Status.{Status}
use Rattle.aps_calls.specs.declared.status.Status.TheVariants.{Done, NeedsExceed}
use Rattle.aps_calls.specs.Failure.{IsFailureToMake, failure_status, failure_text}
use Rattle.aps_calls.specs.Printing.{MakesAndPrints, Output}
use Rattle.aps_calls.specs.Status.{status_of_end, status_of_verdict}
use Rattle.aps_check.specs.Text.{verdict_text}
use Rattle.aps_words.specs.declared.command.Report.{Report}
use Rattle.aps_words.specs.declared.command.Report.TheVariants.{Summary, Windows, Journal}
use Rattle.aps_top.specs.declared.outcome.Outcome.{Outcome}
use Rattle.aps_top.specs.declared.outcome.Outcome.TheVariants.{Failed, Ran, Generated, Upgraded, Checked, Admitted}

-- the status of an answer to demands
abbrev pub status_of_admission : Admission → Status
status_of_admission (Budgets grants) = Done
status_of_admission (Needs sum) = NeedsExceed

abbrev pub status_of : Outcome → Status
status_of (Failed failure) = failure_status failure
status_of (Ran report end history) = status_of_end end
status_of (Generated text) = Done
status_of (Upgraded text) = Done
status_of (Checked verdict) = status_of_verdict verdict
status_of (Admitted admission) = status_of_admission admission

-- a report of a history; a summary has the history's audit
abbrev pub report_text : Report → History → List ℕ
report_text Summary h = summary_text h (audit_of h)
report_text Windows h = windows_text h
report_text Journal h = journal_text h.entries

-- what is written
abbrev pub text_of : Outcome → List ℕ
text_of (Failed failure) = failure_text failure
text_of (Ran report end history) = report_text report history
text_of (Generated text) = string_bytes text
text_of (Upgraded text) = string_bytes text
text_of (Checked verdict) = verdict_text verdict
text_of (Admitted admission) = admission_text admission

-- what is written takes memory to be made
abbrev pub IsToMake : Outcome → Type 0
IsToMake (Failed failure) = IsFailureToMake failure
IsToMake (Ran report end history) = ⊤
IsToMake (Generated text) = ⊥
IsToMake (Upgraded text) = ⊥
IsToMake (Checked verdict) = ⊤
IsToMake (Admitted admission) = ⊤

-- the history that is handed back
abbrev pub history_of : Outcome → Option History
history_of (Failed failure) = None
history_of (Ran report end history) = Some history
history_of (Generated text) = None
history_of (Upgraded text) = None
history_of (Checked verdict) = None
history_of (Admitted admission) = None

-- how the text of an outcome goes to a sink
abbrev pub Says : Output → Outcome → Status → Type 0
Says output outcome status = MakesAndPrints (IsToMake outcome) output (text_of outcome) (status_of outcome) status
