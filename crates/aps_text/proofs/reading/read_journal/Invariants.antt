use Rattle.std.proofs.Common.{◌≡◌, ◌+◌, ◌≤◌, ◌++◌, length, vec_len}
use Rattle.std.specs.List.{All}
use Rattle.aps_model.specs.Journal.{journal_text, IsLine}
use Rattle.aps_text.proofs.reading.read_journal.Given as goal

abbrev pub invariant-loop-rest : goal.invariant-loop-rest
invariant-loop-rest l = record {
  lines : All IsLine l.entries.items;
  parts : l.bytes ≡ journal_text l.entries.items ++ l.rest;
  few : vec_len l.entries + length l.rest ≤ length l.bytes;
}

abbrev pub decreases-loop-rest : goal.decreases-loop-rest
decreases-loop-rest l = length l.rest
