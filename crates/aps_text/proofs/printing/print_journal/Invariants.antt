use Rattle.std.proofs.Common.{◌≡◌, take}
use Rattle.std.specs.Str.{IsAscii}
use Rattle.std.specs.List.{All}
use Rattle.aps_model.specs.Journal.{journal_text, IsLine}
use Rattle.aps_text.specs.InTime.{IsInTime}
use Rattle.aps_text.proofs.printing.print_journal.Given as goal

abbrev pub invariant-loop-entry : goal.invariant-loop-entry
invariant-loop-entry l = record {
  lines : l.text.items ≡ journal_text (take l.entry-index l.entries);
  ascii : IsAscii l.text.items;
  within : All IsInTime l.entries → All IsLine (take l.entry-index l.entries);
}
