-- A line.
use Rattle.std.specs.Prelude.{ℕ, List, Option, Some, None, Ok, Err}
use Rattle.aps_model.specs.declared.entry.Entry.{Entry}
use Rattle.aps_text.specs.Reader.{◌>>=◌, ReadResult, number_at}
use Rattle.aps_text.specs.Fields.{option_at, mark_at}
use Rattle.aps_text.specs.Operation.{done_at}
use Rattle.aps_model.specs.Limits.{last_cpu, last_moment, last_partition, last_thread}

-- the most bytes of a line, its newline among them
abbrev pub longest_line : ℕ
longest_line = 87

-- an entry by its ten fields, from left to right
unfoldable pub line_at : List ℕ → ReadResult Entry
line_at bytes = do
  cpu ← number_at last_cpu 32 bytes
  from ← number_at last_moment 32 cpu.1
  to ← number_at last_moment 32 from.1
  ran ← option_at last_thread 32 to.1
  billed ← option_at last_partition 32 ran.1
  critical ← mark_at billed.1
  done ← done_at critical.1
  picked ← option_at last_thread 32 done.1
  starved ← option_at last_partition 32 picked.1
  flagged ← option_at last_cpu 10 starved.1
  Ok (
    record {
      from = from.0;
      to = to.0;
      done = done.0;
      ran = ran.0;
      picked = picked.0;
      billed = billed.0;
      starved = starved.0;
      flagged = flagged.0;
      cpu = cpu.0;
      critical = critical.0;
    },
    flagged.1,
  )

abbrev pub read_value : ReadResult ℕ → Option ℕ
read_value (Ok x) = Some x.0
read_value (Err rest) = None

-- the processor that the bytes name, as a line does first
abbrev pub cpu_of_line : List ℕ → Option ℕ
cpu_of_line bytes = read_value (number_at last_cpu 32 bytes)
