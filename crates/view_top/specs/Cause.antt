-- Why a call has its outcome.
use Rattle.std.specs.Prelude.{◌≡◌, ℕ, ◌+◌, ◌≤◌, ◌⊎◌, List, [], length, Option, Some, None, ⊤}
use Rattle.std.specs.Io.KnownBytes.{Consumes, IsAtEnd}
use Rattle.aps_io.specs.Causes.{Rose}
use Rattle.aps_calls.specs.declared.failure.Failure.TheVariants.{WordsRefused, ReadFault, TooLong, NoMemory}
use Rattle.aps_calls.specs.Intake.{Intake}
use Rattle.view_words.specs.declared.asked.Asked.{Asked}
use Rattle.view_top.specs.declared.outcome.Outcome.{Outcome}
use Rattle.view_top.specs.declared.outcome.Outcome.TheVariants.{Failed}
use Rattle.view_top.specs.Due.{Due, IsDueOfInput}
use Rattle.view_top.specs.Outcome.{view_status, view_text}
use Rattle.aps_model.specs.Limits.{most_journal_bytes}

-- the status and the text of an outcome
abbrev pub told_by : Outcome → Due
told_by outcome = record { status = view_status outcome; text = view_text outcome }

-- what is told is such, unless memory ran out
abbrev pub TellsDue : (Due → Type 0) → Outcome → Type 0
TellsDue IsSuch outcome = (outcome ≡ Failed NoMemory) ⊎ IsSuch (told_by outcome)

-- reading failed
pub record IsFaulted (intake : Intake) (bytes : List ℕ) (outcome : Outcome) : Type 0 where
  pub is : outcome ≡ Failed ReadFault
  pub rose : Rose intake.faults_before intake.faults
  pub short : length bytes ≤ most_journal_bytes

-- more bytes were delivered than are taken
pub record IsOverlong (bytes : List ℕ) (outcome : Outcome) : Type 0 where
  pub is : outcome ≡ Failed TooLong
  pub long : length bytes ≡ most_journal_bytes + 1

-- the input was read to its end, isn't too long, and makes due what is told
pub record IsOfWhole (asked : Asked) (intake : Intake) (bytes : List ℕ) (outcome : Outcome) : Type 0 where
  pub end : IsAtEnd intake.after
  pub short : length bytes ≤ most_journal_bytes
  pub due : IsDueOfInput asked bytes (told_by outcome)

-- where a report is asked for, the reading comes before what the bytes are
abbrev pub HasCauseIn : Asked → Intake → List ℕ → Outcome → Type 0
HasCauseIn asked intake bytes outcome =
    (outcome ≡ Failed NoMemory) ⊎ IsFaulted intake bytes outcome ⊎ IsOverlong bytes outcome ⊎ IsOfWhole asked intake bytes outcome

-- words that ask for no report come before all else, and nothing is read then
abbrev pub IsUnasked : List ℕ → Outcome → Type 0
IsUnasked bytes (Failed WordsRefused) = bytes ≡ []
IsUnasked bytes (Failed NoMemory) = ⊤
IsUnasked bytes _ = ⊥

-- each outcome has its cause
abbrev pub HasViewCause : Option Asked → Intake → List ℕ → Outcome → Type 0
HasViewCause None intake bytes outcome = IsUnasked bytes outcome
HasViewCause (Some asked) intake bytes outcome = HasCauseIn asked intake bytes outcome

-- the outcome of a call that was asked for this, over this source: the bytes that it read are a cause of it
abbrev pub IsViewOutcome : Option Asked → Intake → Outcome → Type 0
IsViewOutcome asked intake outcome =
    (bytes : List ℕ) × Consumes intake.before intake.after bytes × HasViewCause asked intake bytes outcome
