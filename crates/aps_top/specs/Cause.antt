-- Why a call has its outcome.
use Rattle.std.specs.Prelude.{◌≡◌, ℕ, ◌+◌, ◌≤◌, ◌⊎◌, List, [], length, Option, Some, None, Ok, string_bytes}
use Rattle.std.specs.Io.KnownBytes.{Consumes}
use Rattle.aps_io.specs.Causes.{Rose}
use Rattle.aps_admit.specs.declared.admission.Admission.{Admission}
use Rattle.aps_admit.specs.Admission.{admission}
use Rattle.aps_check.specs.declared.verdict.Verdict.{Verdict}
use Rattle.aps_check.specs.Verdict.{IsVerdict}
use Rattle.aps_model.specs.declared.entry.End.{End}
use Rattle.aps_model.specs.declared.entry.Entry.{Entry}
use Rattle.aps_model.specs.declared.entry.Order.{Order}
use Rattle.aps_model.specs.History.{History}
use Rattle.aps_model.specs.Scenario.{Scenario}
use Rattle.aps_model.specs.Upgrade.{upgraded}
use Rattle.aps_scenario.specs.Demands.{Demands, reads_demands}
use Rattle.aps_scenario.specs.Reading.{reads}
use Rattle.aps_gen.specs.Generated.{generated}
use Rattle.aps_words.specs.declared.command.Command.{Command}
use Rattle.aps_words.specs.declared.command.Command.TheVariants.{Gen, Upgrade, Check, Admit}
use Rattle.aps_words.specs.declared.command.Report.{Report}
use Rattle.aps_calls.specs.declared.failure.Failure.{Failure}
use Rattle.aps_calls.specs.declared.failure.Failure.TheVariants.{WordsRefused, ReadFault, TooLong, InputRefused, NoMemory}
use Rattle.aps_calls.specs.Intake.{Intake}
use Rattle.aps_top.specs.declared.outcome.Outcome.{Outcome}
use Rattle.aps_top.specs.declared.outcome.Outcome.TheVariants.{Failed, Ran, Generated, Upgraded, Checked, Admitted}
use Rattle.aps_top.specs.Asked.{run_asked, IsToRead}
use Rattle.aps_top.specs.Reading.{Reading, reading_in, IsReadWhole, most_of, refusal_of}
use Rattle.aps_top.specs.CheckInput.{IsCheck}
use Rattle.aps_top.specs.Run.{IsRun}
use Rattle.aps_model.specs.Limits.{most_journal_bytes, most_scenario_bytes}

-- what a call was given: the command that it was asked for, if its words are one, and what the source gave
pub record Input : Type 0 where
  pub asked : Option Command
  pub reading : Reading

-- what a call is given that read these bytes
abbrev pub input_of : Option Command → Intake → List ℕ → Input
input_of asked intake bytes = record { asked = asked; reading = reading_in intake bytes }

-- the input was read to its end, and isn't longer than the command takes
abbrev pub IsWhole : Input → Type 0
IsWhole input = IsReadWhole (most_of input.asked) input.reading

-- an input is to be read, or no byte of the source was taken
abbrev pub IsReadIfAsked : Input → Type 0
IsReadIfAsked input = IsToRead input.asked ⊎ (input.reading.bytes ≡ [])

-- the history is that of the run that was asked for, of the scenario that the bytes are
pub record RanAsRead (input : Input) (report : Report) (end : End) (h : History) : Type 0 where
  pub order : Order
  pub limit : ℕ
  pub asked : run_asked input.asked ≡ Some (record { order = order; report = report; limit = limit })
  pub whole : IsReadWhole most_scenario_bytes input.reading
  pub scenario : reads input.reading.bytes ≡ Ok h.scenario
  pub run : IsRun order limit end h

-- the text reads as the scenario that is generated from the numbers that were asked for, and nothing was read
pub record GeneratedAsAsked (input : Input) (text : List ℕ) : Type 0 where
  pub seed : ℕ
  pub cpus : ℕ
  pub partitions : ℕ
  pub ticks : ℕ
  pub asked : input.asked ≡ Some (Gen seed cpus partitions ticks)
  pub unread : input.reading.bytes ≡ []
  pub scenario : reads text ≡ Ok (generated seed cpus partitions ticks)

-- the text reads as the scenario that the bytes are, with its budgets in parts per thousand
pub record UpgradedAsRead (input : Input) (text : List ℕ) : Type 0 where
  pub scenario : Scenario
  pub asked : input.asked ≡ Some Upgrade
  pub whole : IsReadWhole most_scenario_bytes input.reading
  pub read : reads input.reading.bytes ≡ Ok scenario
  pub upgraded : reads text ≡ Ok (upgraded scenario)

-- the verdict is that on the scenario and the journal that the bytes are, in the order and with the limit of the command
pub record CheckedAsRead (input : Input) (verdict : Verdict) : Type 0 where
  pub order : Order
  pub limit : ℕ
  pub scenario : Scenario
  pub entries : List Entry
  pub asked : input.asked ≡ Some (Check order limit)
  pub whole : IsReadWhole most_journal_bytes input.reading
  pub read : IsCheck input.reading.bytes scenario entries
  pub judged : IsVerdict (record { scenario = scenario; order = order; limit = limit }) entries verdict

-- the answer is that to the demands that the bytes are
pub record AdmittedAsRead (input : Input) (answer : Admission) : Type 0 where
  pub demands : Demands
  pub asked : input.asked ≡ Some Admit
  pub whole : IsReadWhole most_scenario_bytes input.reading
  pub read : reads_demands input.reading.bytes ≡ Ok demands
  pub answered : answer ≡ admission demands.shape demands.demands

-- each failure has its cause: the words come before the reading, and the reading before what was read
abbrev pub FailsFor : Input → Failure → Type 0
FailsFor input WordsRefused = (input.asked ≡ None) × (input.reading.bytes ≡ [])
FailsFor input ReadFault =
    IsToRead input.asked × Rose input.reading.faults_before input.reading.faults
    × (length input.reading.bytes ≤ most_of input.asked)
FailsFor input TooLong = IsToRead input.asked × (length input.reading.bytes ≡ most_of input.asked + 1)
FailsFor input (InputRefused refusal) = IsWhole input × (refusal_of input.asked input.reading.bytes ≡ Some refusal)
FailsFor input NoMemory = IsReadIfAsked input

-- each outcome has its cause: what is read comes before the run
abbrev pub HasCause : Input → Outcome → Type 0
HasCause input (Failed failure) = FailsFor input failure
HasCause input (Ran report end h) = RanAsRead input report end h
HasCause input (Generated text) = GeneratedAsAsked input (string_bytes text)
HasCause input (Upgraded text) = UpgradedAsRead input (string_bytes text)
HasCause input (Checked verdict) = CheckedAsRead input verdict
HasCause input (Admitted answer) = AdmittedAsRead input answer

-- the outcome of a call that was asked for this command, over this source: the bytes that it read are a cause of it
abbrev pub IsOutcome : Option Command → Intake → Outcome → Type 0
IsOutcome asked intake outcome =
    (bytes : List ℕ) × Consumes intake.before intake.after bytes × HasCause (input_of asked intake bytes) outcome
