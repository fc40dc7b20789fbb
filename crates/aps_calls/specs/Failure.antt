-- Why a call has no result: the status, and what is written.
use Rattle.std.specs.Prelude.{ℕ, List, [], codes}
use Rattle.aps_io.specs.declared.all.ReadRefusal.{ReadRefusal}
use Rattle.aps_io.specs.declared.all.ReadRefusal.TheVariants as unread
use Rattle.aps_scenario.specs.declared.refusal.ScenarioRefusal.{ScenarioRefusal}
use Rattle.aps_scenario.specs.declared.refusal.ScenarioRefusal.TheVariants as refusal
use Rattle.aps_text.specs.declared.refusal.JournalRefusal.{JournalRefusal}
use Rattle.aps_text.specs.declared.refusal.JournalRefusal.TheVariants as journal
use Rattle.aps_calls.specs.declared.failure.Failure.{Failure}
use Rattle.aps_calls.specs.declared.failure.Failure.TheVariants.{WordsRefused, ReadFault, TooLong, InputRefused, NoMemory}
use Rattle.aps_calls.specs.declared.refusal.InputRefusal.TheVariants.{Text, BadJournal}
use Rattle.aps_calls.specs.declared.status.Status.{Status}
use Rattle.aps_calls.specs.declared.status.Status.TheVariants as status
use Rattle.aps_calls.specs.Printing.{MakesAndPrints, Output}
use Rattle.aps_calls.specs.Refusal.{IsLineToMake, refusal_text}

-- what comes of an input that wasn't read to its end
abbrev pub not_read : ReadRefusal → Failure
not_read unread.ReadFault = ReadFault
not_read unread.TooLong = TooLong
not_read unread.NoMemory = NoMemory

-- what comes of a text that is no scenario, or no demands
abbrev pub of_refusal : ScenarioRefusal → Failure
of_refusal (refusal.Refused kind path) = InputRefused (Text kind path)
of_refusal refusal.NoMemory = NoMemory

-- what comes of a text that is no journal
abbrev pub of_journal_refusal : JournalRefusal → Failure
of_journal_refusal (journal.BadLine line column) = InputRefused (BadJournal line column)
of_journal_refusal journal.NoMemory = NoMemory

abbrev pub failure_status : Failure → Status
failure_status WordsRefused = status.WordsRefused
failure_status ReadFault = status.ReadFault
failure_status TooLong = status.TooLong
failure_status (InputRefused refusal) = status.InputRefused
failure_status NoMemory = status.NoMemory

-- what is written
abbrev pub failure_text : Failure → List ℕ
failure_text WordsRefused = codes "aps: words refused\n"
failure_text ReadFault = codes "aps: read fault\n"
failure_text TooLong = codes "aps: input too long\n"
failure_text (InputRefused refusal) = refusal_text refusal
failure_text NoMemory = []

-- what is written takes memory to be made
abbrev pub IsFailureToMake : Failure → Type 0
IsFailureToMake WordsRefused = ⊥
IsFailureToMake ReadFault = ⊥
IsFailureToMake TooLong = ⊥
IsFailureToMake (InputRefused refusal) = IsLineToMake refusal
IsFailureToMake NoMemory = ⊥

-- how the text of a failure goes to a sink
abbrev pub SaysFailure : Output → Failure → Status → Type 0
SaysFailure output failure status = MakesAndPrints (IsFailureToMake failure) output (failure_text failure) (failure_status failure) status
