-- What the answer of a call tells.
use Rattle.std.specs.Prelude.{◌≡◌, ◌≢◌, ℕ, List, ◌≤◌, ◌⊎◌, length, Option, Some, None, IfSome, Ok}
use Rattle.std.specs.Io.KnownBytes.{Consumes, IsAtEnd}
use Rattle.aps_io.specs.Causes.{Rose}
use Rattle.aps_admit.specs.declared.admission.Admission.TheVariants.{Budgets}
use Rattle.aps_admit.specs.declared.admission.Granted.{Granted}
use Rattle.aps_admit.specs.Admission.{admission}
use Rattle.aps_admit.specs.Text.{admission_text}
use Rattle.aps_check.specs.declared.verdict.Verdict.TheVariants.{Legal}
use Rattle.aps_check.specs.Text.{verdict_text}
use Rattle.aps_check.specs.Verdict.{IsVerdict}
use Rattle.aps_model.specs.declared.entry.End.{End}
use Rattle.aps_model.specs.declared.entry.Entry.{Entry}
use Rattle.aps_model.specs.declared.entry.End.TheVariants.{Horizon}
use Rattle.aps_model.specs.declared.entry.Order.TheVariants.{Fixed}
use Rattle.aps_model.specs.After.{end_of}
use Rattle.aps_model.specs.History.{History}
use Rattle.aps_model.specs.Legal.{fixed_run}
use Rattle.aps_model.specs.Scenario.{Scenario}
use Rattle.aps_model.specs.Upgrade.{upgraded}
use Rattle.aps_scenario.specs.Demands.{Demands, reads_demands}
use Rattle.aps_scenario.specs.Reading.{reads}
use Rattle.aps_gen.specs.Generated.{generated}
use Rattle.aps_words.specs.declared.command.Command.{Command}
use Rattle.aps_words.specs.declared.command.Command.TheVariants.{Solo, Run, Gen, Upgrade, Check, Admit}
use Rattle.aps_words.specs.declared.command.Report.{Report}
use Rattle.aps_top.specs.declared.outcome.Outcome.{Outcome}
use Rattle.aps_calls.specs.declared.status.Status.{Status}
use Rattle.aps_calls.specs.declared.status.Status.TheVariants.{Done, WordsRefused, InputRefused, ReadFault, WriteFault, NoMemory, TooLong}
use Rattle.aps_calls.specs.Intake.{Intake}
use Rattle.aps_calls.specs.Printing.{LacksMemory, Output, WritesWhole}
use Rattle.aps_calls.specs.Status.{code, or_write_fault}
use Rattle.aps_top.specs.declared.top.Ended.{Ended}
use Rattle.aps_top.specs.Asked.{run_asked, IsToRead}
use Rattle.aps_top.specs.CheckInput.{IsCheck}
use Rattle.aps_top.specs.Due.{IsDueStatus}
use Rattle.aps_top.specs.Outcome.{Says, history_of, report_text}
use Rattle.aps_top.specs.Reading.{most_of}
use Rattle.aps_top.specs.Cause.{Input, input_of, HasCause, IsReadIfAsked, RanAsRead}
use Rattle.aps_model.specs.Limits.{most_scenario_bytes}

-- the answer of a call that had this outcome: its text was made and written, and its history is handed back
pub record Tells (outcome : Outcome) (output : Output) (ended : Ended) : Type 0 where
  pub status : Status
  pub told : ended.status ≡ code status
  pub printed : Says output outcome status
  pub history : ended.history ≡ history_of outcome

-- reading failed
pub record Faulted (input : Input) (ended : Ended) : Type 0 where
  pub told : ended.status ≡ code ReadFault
  pub rose : Rose input.reading.faults_before input.reading.faults
  pub to_read : IsToRead input.asked
  pub short : length input.reading.bytes ≤ most_of input.asked
  pub no_history : ended.history ≡ None

-- the status that is due came, or that of a fault of the sink in its place; the input was read to its end, unless it is
-- too long
pub record IsDue (input : Input) (output : Output) (ended : Ended) : Type 0 where
  pub status : Status
  pub due : IsDueStatus input.asked input.reading.bytes ended.history status
  pub only : (other : Status) → IsDueStatus input.asked input.reading.bytes ended.history other → other ≡ status
  pub to_end : IsToRead input.asked → status ≢ TooLong → IsAtEnd input.reading.left
  pub told : (ended.status ≡ code status) ⊎ ((ended.status ≡ code (or_write_fault status)) × Rose output.faults_before output.faults)

-- memory was wanting
pub record Wanting (output : Output) (ended : Ended) : Type 0 where
  pub told : ended.status ≡ code NoMemory
  pub cause : LacksMemory output

-- how the status of an answer comes about
abbrev pub Comes : Input → Output → Ended → Type 0
Comes input output ended = IsDue input output ended ⊎ Faulted input ended ⊎ Wanting output ended

abbrev pub OrWanting : Output → Ended → Status → Type 0
OrWanting output ended status = (ended.status ≡ code status) ⊎ Wanting output ended

-- a run in fixed order was asked for, and the bytes are a scenario whose run reaches the horizon
pub record ReachesHorizon (input : Input) : Type 0 where
  pub report : Report
  pub limit : ℕ
  pub asked : run_asked input.asked ≡ Some (record { order = Fixed; report = report; limit = limit })
  pub short : length input.reading.bytes ≤ most_scenario_bytes
  pub scenario : Scenario
  pub read : reads input.reading.bytes ≡ Ok scenario
  pub horizon : end_of scenario limit (fixed_run scenario limit) ≡ Some Horizon

-- the whole report was written of a history that reaches the horizon
abbrev pub ReportsWhole : Report → Option History → Output → Type 0
ReportsWhole report None output = ⊥
ReportsWhole report (Some h) output = (h.end ≡ Some Horizon) × WritesWhole output (report_text report h)

-- the whole text that a command asks for was written
abbrev pub WritesAsked : Option Command → List ℕ → Option History → Output → Type 0
WritesAsked None bytes h output = ⊥
WritesAsked (Some (Solo report limit)) bytes h output = ReportsWhole report h output
WritesAsked (Some (Run order report limit)) bytes h output = ReportsWhole report h output
WritesAsked (Some (Gen seed cpus partitions ticks)) bytes h output =
    (text : List ℕ) × (reads text ≡ Ok (generated seed cpus partitions ticks)) × WritesWhole output text
WritesAsked (Some Upgrade) bytes h output =
    (scenario : Scenario) × (text : List ℕ) × (reads bytes ≡ Ok scenario) × (reads text ≡ Ok (upgraded scenario))
    × WritesWhole output text
WritesAsked (Some (Check order limit)) bytes h output =
    (scenario : Scenario) × (entries : List Entry) × (end : Option End) × IsCheck bytes scenario entries
    × IsVerdict (record { scenario = scenario; order = order; limit = limit }) entries (Legal end)
    × WritesWhole output (verdict_text (Legal end))
WritesAsked (Some Admit) bytes h output =
    (demands : Demands) × (grants : List Granted) × (reads_demands bytes ≡ Ok demands)
    × (admission demands.shape demands.demands ≡ Budgets grants) × WritesWhole output (admission_text (Budgets grants))

-- the status, by its cause
pub record Answers (input : Input) (output : Output) (ended : Ended) : Type 0 where
  -- it is the one that is due, unless reading or writing failed or memory ran out
  pub comes : Comes input output ended
  -- under status 0 the whole text was written
  pub done : ended.status ≡ code Done → WritesAsked input.asked input.reading.bytes ended.history output
  -- the history is that of the run that was asked for
  pub history : IfSome ended.history (λ h. (report : Report) × (end : End) × RanAsRead input report end h)
  pub no_run : run_asked input.asked ≡ None → ended.history ≡ None
  pub no_history : (ended.status ≡ code WordsRefused) ⊎ (ended.status ≡ code InputRefused)
      ⊎ (ended.status ≡ code ReadFault) ⊎ (ended.status ≡ code TooLong) → ended.history ≡ None
  -- a run in fixed order that reaches the horizon is reported whole, where nothing fails
  pub complete : ReachesHorizon input → ended.status ≢ code ReadFault → ended.status ≢ code WriteFault
      → OrWanting output ended Done
  -- under status 7 nothing was written, unless the sink itself wanted memory in this call
  pub wanting : ended.status ≡ code NoMemory → LacksMemory output
  -- for `gen` and for words that are no command no byte of the source was taken, under any status
  pub unread : IsReadIfAsked input

-- the answer of a call that was asked for this command, over this source and this sink
pub record IsAnswer (asked : Option Command) (intake : Intake) (output : Output) (ended : Ended) : Type 0 where
  -- the bytes that it read
  pub bytes : List ℕ
  pub read : Consumes intake.before intake.after bytes
  -- it had an outcome that its words and these bytes are the cause of, and told that
  pub outcome : Outcome
  pub cause : HasCause (input_of asked intake bytes) outcome
  pub told : Tells outcome output ended
  -- so its status comes in its case
  pub answers : Answers (input_of asked intake bytes) output ended
