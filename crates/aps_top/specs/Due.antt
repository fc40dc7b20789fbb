-- The status that is due, where neither reading nor writing fails and memory doesn't run out.
use Rattle.std.specs.Prelude.{◌≡◌, ℕ, ◌<◌, ◌≤◌, ◌⊎◌, List, length, Option, Some, None, Result, Ok, Err, option_map}
use Rattle.aps_admit.specs.Admission.{admission}
use Rattle.aps_check.specs.declared.verdict.Verdict.{Verdict}
use Rattle.aps_check.specs.Verdict.{IsVerdict}
use Rattle.aps_model.specs.declared.entry.End.{End}
use Rattle.aps_model.specs.declared.entry.Entry.{Entry}
use Rattle.aps_model.specs.declared.entry.Order.{Order}
use Rattle.aps_model.specs.History.{History}
use Rattle.aps_model.specs.Journal.{IsJournal}
use Rattle.aps_scenario.specs.Demands.{Demands, reads_demands}
use Rattle.aps_scenario.specs.Reading.{reads}
use Rattle.aps_scenario.specs.Refusal.{Refusal}
use Rattle.aps_words.specs.declared.command.Command.{Command}
use Rattle.aps_words.specs.declared.command.Command.TheVariants.{Solo, Run, Gen, Upgrade, Check, Admit}
use Rattle.aps_calls.specs.declared.status.Status.{Status}
use Rattle.aps_calls.specs.declared.status.Status.TheVariants.{Done, WordsRefused, InputRefused, TooLong}
use Rattle.aps_calls.specs.declared.refusal.InputRefusal.{InputRefusal}
use Rattle.aps_top.specs.CheckInput.{CheckInput, reads_check}
use Rattle.aps_top.specs.Reading.{most_taken}
use Rattle.aps_calls.specs.Status.{status_of_end, status_of_verdict}
use Rattle.aps_top.specs.Outcome.{status_of_admission}

-- how the run ended, if there was one
abbrev pub end_told : Option History → Option End
end_told None = None
end_told (Some h) = h.end

abbrev pub run_status : Option History → Option Status
run_status h = option_map status_of_end (end_told h)

-- a refusal of what was read, or else what comes of it
abbrev pub or_refused : {A : Type 0} → (A → Option Status) → Result A Refusal → Option Status
or_refused status (Ok value) = status value
or_refused status (Err refusal) = Some InputRefused

-- a verdict on this scenario's journal has this status
pub record IsJudged (order : Order) (limit : ℕ) (input : CheckInput) (status : Status) : Type 0 where
  pub entries : List Entry
  pub verdict : Verdict
  pub read : IsJournal entries input.journal
  pub judged : IsVerdict (record { scenario = input.scenario; order = order; limit = limit }) entries verdict
  pub status_is : status ≡ status_of_verdict verdict

abbrev pub IsJudgedOf : Order → ℕ → Result CheckInput InputRefusal → Status → Type 0
IsJudgedOf order limit (Ok input) status = IsJudged order limit input status
IsJudgedOf order limit (Err refusal) status = status ≡ InputRefused

-- by the command, the bytes that it read to their end, and the history if there was a run
abbrev pub IsDueTo : Command → List ℕ → Option History → Status → Type 0
IsDueTo (Solo report limit) bytes h status = or_refused (λ _. run_status h) (reads bytes) ≡ Some status
IsDueTo (Run order report limit) bytes h status = or_refused (λ _. run_status h) (reads bytes) ≡ Some status
IsDueTo (Gen seed cpus partitions ticks) bytes h status = Some Done ≡ Some status
IsDueTo Upgrade bytes h status = or_refused (λ _. Some Done) (reads bytes) ≡ Some status
IsDueTo (Check order limit) bytes h status = IsJudgedOf order limit (reads_check bytes) status
IsDueTo Admit bytes h status =
    or_refused (λ (d : Demands). Some (status_of_admission (admission d.shape d.demands))) (reads_demands bytes) ≡ Some status

-- words that are no command come before an input that is too long, and that before all else. There is none where a run
-- didn't come about
abbrev pub IsDueStatus : Option Command → List ℕ → Option History → Status → Type 0
IsDueStatus None bytes h status = Some WordsRefused ≡ Some status
IsDueStatus (Some asked) bytes h status =
    ((most_taken asked < length bytes) × (Some TooLong ≡ Some status))
    ⊎ ((length bytes ≤ most_taken asked) × IsDueTo asked bytes h status)
