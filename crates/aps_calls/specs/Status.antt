-- The numbers by which a call tells how it ended.
use Rattle.std.specs.Prelude.{ℕ}
use Rattle.aps_model.specs.declared.entry.End.{End}
use Rattle.aps_model.specs.declared.entry.End.TheVariants.{Horizon, Limit, Reboot}
use Rattle.aps_check.specs.declared.verdict.Verdict.{Verdict}
use Rattle.aps_check.specs.declared.verdict.Verdict.TheVariants.{Legal, Breaks}
use Rattle.aps_calls.specs.declared.status.Status.{Status}
use Rattle.aps_calls.specs.declared.status.Status.TheVariants.{Done, WordsRefused, InputRefused, Rebooted, ReadFault, WriteFault, Limited, NoMemory, TooLong, JournalBreaks, NeedsExceed}

abbrev pub code : Status → ℕ
code Done = 0
code WordsRefused = 1
code InputRefused = 2
code Rebooted = 3
code ReadFault = 4
code WriteFault = 5
code Limited = 6
code NoMemory = 7
code TooLong = 8
code JournalBreaks = 9
code NeedsExceed = 10

-- the status of a run that ended so
abbrev pub status_of_end : End → Status
status_of_end Horizon = Done
status_of_end Limit = Limited
status_of_end (Reboot p) = Rebooted

-- the status of a verdict
abbrev pub status_of_verdict : Verdict → Status
status_of_verdict (Legal end) = Done
status_of_verdict (Breaks entry rule expected) = JournalBreaks

-- a fault of the sink takes the place of status 0 alone
abbrev pub or_write_fault : Status → Status
or_write_fault Done = WriteFault
or_write_fault status = status
