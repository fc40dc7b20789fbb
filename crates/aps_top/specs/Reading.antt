-- What came of reading the source.
use Rattle.std.specs.Prelude.{◌≡◌, ℕ, ◌+◌, ◌≤◌, List, [], length, Option, Some, None, Result, Ok, Err, ⊤}
use Rattle.std.specs.Io.KnownBytes.{Consumes, IsAtEnd}
use Rattle.aps_check.specs.declared.verdict.Verdict.{Verdict}
use Rattle.aps_check.specs.Verdict.{IsVerdict}
use Rattle.aps_core.specs.Run.{Run}
use Rattle.aps_io.specs.Causes.{Rose}
use Rattle.aps_model.specs.declared.entry.Entry.{Entry}
use Rattle.aps_model.specs.declared.entry.Order.{Order}
use Rattle.aps_model.specs.Scenario.{Scenario}
use Rattle.aps_scenario.specs.Demands.{Demands, reads_demands}
use Rattle.aps_scenario.specs.Reading.{reads}
use Rattle.aps_words.specs.declared.command.Command.{Command}
use Rattle.aps_words.specs.declared.command.Command.TheVariants as command
use Rattle.aps_calls.specs.declared.failure.Failure.{Failure}
use Rattle.aps_calls.specs.declared.failure.Failure.TheVariants.{ReadFault, TooLong, InputRefused, NoMemory}
use Rattle.aps_calls.specs.declared.refusal.InputRefusal.{InputRefusal}
use Rattle.aps_calls.specs.Intake.{Intake}
use Rattle.aps_top.specs.CheckInput.{IsCheck, check_refusal}
use Rattle.aps_top.specs.Refusal.{scenario_refusal, demands_refusal}
use Rattle.aps_model.specs.Limits.{most_journal_bytes, most_scenario_bytes}

-- the bytes that the source delivered and those that it has left, where it tells, and its count of faults before and after
pub record Reading : Type 0 where
  pub bytes : List ℕ
  pub left : Option (List ℕ)
  pub faults_before : ℕ
  pub faults : ℕ

abbrev pub reading_of : List ℕ → Option (List ℕ) → (faults_before faults : ℕ) → Reading
reading_of bytes left faults_before faults =
    record { bytes = bytes; left = left; faults_before = faults_before; faults = faults }

-- what came of reading these bytes of a source
abbrev pub reading_in : Intake → List ℕ → Reading
reading_in intake bytes = reading_of bytes intake.after intake.faults_before intake.faults

-- the source was read to its end, and that was not too long
pub record IsReadWhole (most : ℕ) (reading : Reading) : Type 0 where
  pub end : IsAtEnd reading.left
  pub short : length reading.bytes ≤ most

-- why an input gives nothing, where its refusals are these
abbrev pub GivesNone : (List ℕ → Option InputRefusal) → ℕ → Reading → Failure → Type 0
GivesNone refused most reading ReadFault = Rose reading.faults_before reading.faults × (length reading.bytes ≤ most)
GivesNone refused most reading TooLong = length reading.bytes ≡ most + 1
GivesNone refused most reading (InputRefused refusal) = IsReadWhole most reading × (refused reading.bytes ≡ Some refusal)
GivesNone refused most reading NoMemory = ⊤
GivesNone refused most reading _ = ⊥

-- what the whole input is, or a cause why it gives nothing
abbrev pub Gives : {A : Type 0} → (List ℕ → Option InputRefusal) → (List ℕ → A → Type 0) → ℕ → Reading → Result A Failure → Type 0
Gives refused Is most reading (Ok value) = IsReadWhole most reading × Is reading.bytes value
Gives refused Is most reading (Err failure) = GivesNone refused most reading failure

-- the same of a text that was read
abbrev pub RefusesText : Option InputRefusal → Failure → Type 0
RefusesText refused (InputRefused refusal) = refused ≡ Some refusal
RefusesText refused NoMemory = ⊤
RefusesText refused failure = ⊥

abbrev pub GivesText : {A : Type 0} → Option InputRefusal → (A → Type 0) → Result A Failure → Type 0
GivesText refused Is (Ok value) = Is value
GivesText refused Is (Err failure) = RefusesText refused failure

-- ---- the kinds of input

abbrev pub IsScenarioText : List ℕ → Scenario → Type 0
IsScenarioText bytes scenario = reads bytes ≡ Ok scenario

abbrev pub IsDemandsText : List ℕ → Demands → Type 0
IsDemandsText bytes demands = reads_demands bytes ≡ Ok demands

-- the verdict on the journal that the text has behind its scenario, in this order and with this limit
abbrev pub IsJudgedText : Order → ℕ → List ℕ → Verdict → Type 0
IsJudgedText order limit bytes verdict = (scenario : Scenario) × (entries : List Entry) × IsCheck bytes scenario entries
    × IsVerdict (record { scenario = scenario; order = order; limit = limit }) entries verdict

-- what the bytes that were read of a source give
abbrev pub GivesIn : {A : Type 0} → (List ℕ → Option InputRefusal) → (List ℕ → A → Type 0) → ℕ → Intake → Result A Failure → Type 0
GivesIn refused Is most intake result =
    (bytes : List ℕ) × Consumes intake.before intake.after bytes × Gives refused Is most (reading_in intake bytes) result

abbrev pub GivesScenario : Intake → Result Scenario Failure → Type 0
GivesScenario intake result = GivesIn scenario_refusal IsScenarioText most_scenario_bytes intake result

abbrev pub GivesDemands : Intake → Result Demands Failure → Type 0
GivesDemands intake result = GivesIn demands_refusal IsDemandsText most_scenario_bytes intake result

abbrev pub GivesVerdict : Order → ℕ → Intake → Result Verdict Failure → Type 0
GivesVerdict order limit intake result = GivesIn check_refusal (IsJudgedText order limit) most_journal_bytes intake result

-- ---- the beginning of a run

-- a run in this order, up to so many entries, of the scenario that the text is, has no entries yet
pub record IsBegun (order : Order) (limit : ℕ) (bytes : List ℕ) (run : Run) : Type 0 where
  pub scenario : reads bytes ≡ Ok run.setup.scenario
  pub order_is : run.setup.order ≡ order
  pub limit_is : run.setup.limit ≡ limit
  pub entries : run.entries ≡ []

-- the run of the scenario that the input is begins, or there is a cause why it doesn't
abbrev pub BeginsIn : Intake → Order → ℕ → Result Run Failure → Type 0
BeginsIn intake order limit result = GivesIn scenario_refusal (IsBegun order limit) most_scenario_bytes intake result

-- ---- what a command takes

-- why a command refuses this input, if it does
abbrev pub refusal_by : Command → List ℕ → Option InputRefusal
refusal_by (command.Gen seed cpus partitions ticks) bytes = None
refusal_by (command.Solo report limit) bytes = scenario_refusal bytes
refusal_by (command.Run order report limit) bytes = scenario_refusal bytes
refusal_by command.Upgrade bytes = scenario_refusal bytes
refusal_by (command.Check order limit) bytes = check_refusal bytes
refusal_by command.Admit bytes = demands_refusal bytes

abbrev pub refusal_of : Option Command → List ℕ → Option InputRefusal
refusal_of None bytes = None
refusal_of (Some asked) bytes = refusal_by asked bytes

-- the most bytes that a command takes as its input
abbrev pub most_taken : Command → ℕ
most_taken (command.Check order limit) = most_journal_bytes
most_taken asked = most_scenario_bytes

abbrev pub most_of : Option Command → ℕ
most_of None = 0
most_of (Some asked) = most_taken asked
