-- Where no input is to be read, no byte of the source is taken.
use Rattle.std.proofs.Common.{◌≡◌, ℕ, List, Option, Some, None, inl, inr, sym, subst}
use Rattle.aps_words.specs.declared.command.Command.{Command}
use Rattle.aps_words.specs.declared.command.Command.TheVariants as command
use Rattle.aps_top.specs.declared.outcome.Outcome.{Outcome}
use Rattle.aps_top.specs.declared.outcome.Outcome.TheVariants as outcome
use Rattle.aps_calls.specs.declared.failure.Failure.TheVariants as failure
use Rattle.aps_calls.specs.declared.refusal.InputRefusal.{InputRefusal}
use Rattle.aps_top.specs.Asked.{IsToRead, RunAsked, run_asked}
use Rattle.aps_top.specs.Cause.{Input, HasCause, IsReadIfAsked}
use Rattle.aps_top.specs.Reading.{refusal_of}

-- what is refused was to be read
refused_reads : (asked : Option Command) (bytes : List ℕ) (refusal : InputRefusal) → refusal_of asked bytes ≡ Some refusal → IsToRead asked
refused_reads None bytes refusal is = absurd cc
refused_reads (Some (command.Solo report limit)) bytes refusal is = tt
refused_reads (Some (command.Run order report limit)) bytes refusal is = tt
refused_reads (Some (command.Gen seed cpus partitions ticks)) bytes refusal is = absurd cc
refused_reads (Some command.Upgrade) bytes refusal is = tt
refused_reads (Some (command.Check order limit)) bytes refusal is = tt
refused_reads (Some command.Admit) bytes refusal is = tt

-- a run takes an input
run_reads : (asked : Option Command) (run : RunAsked) → run_asked asked ≡ Some run → IsToRead asked
run_reads None run is = absurd cc
run_reads (Some (command.Solo report limit)) run is = tt
run_reads (Some (command.Run order report limit)) run is = tt
run_reads (Some (command.Gen seed cpus partitions ticks)) run is = absurd cc
run_reads (Some command.Upgrade) run is = absurd cc
run_reads (Some (command.Check order limit)) run is = absurd cc
run_reads (Some command.Admit) run is = absurd cc

pub read_if_asked : (input : Input) (o : Outcome) → HasCause input o → IsReadIfAsked input
read_if_asked input (outcome.Failed failure.WordsRefused) cause = inr cause.1
read_if_asked input (outcome.Failed failure.ReadFault) cause = inl cause.0
read_if_asked input (outcome.Failed failure.TooLong) cause = inl cause.0
read_if_asked input (outcome.Failed (failure.InputRefused refusal)) cause = inl (refused_reads input.asked input.reading.bytes refusal cause.1)
read_if_asked input (outcome.Failed failure.NoMemory) cause = cause
read_if_asked input (outcome.Ran report end h) cause = inl (run_reads input.asked _ cause.asked)
read_if_asked input (outcome.Generated text) cause = inr cause.unread
read_if_asked input (outcome.Upgraded text) cause = inl (subst IsToRead (sym cause.asked) tt)
read_if_asked input (outcome.Checked verdict) cause = inl (subst IsToRead (sym cause.asked) tt)
read_if_asked input (outcome.Admitted answer) cause = inl (subst IsToRead (sym cause.asked) tt)
