use Rattle.std.proofs.Common.{◌≤◌, take, vec_capacity}
use Rattle.aps_model.specs.Journal.{journal_text}
use Rattle.aps_report.specs.Pieces.{IsMoved, piece_room}
use Rattle.aps_report.proofs.by_entry.write_lines.Given as goal

abbrev pub invariant-loop-e : goal.invariant-loop-e
invariant-loop-e g l = record {
  moved : IsMoved (g.K.Sink.written l.initial.sink) (g.K.Sink.written l.sink) (journal_text (take l.e-index l.entries)) l.piece.items;
  room : piece_room ≤ vec_capacity l.piece;
  later : g.K.Sink.faults l.initial.sink ≤ g.K.Sink.faults l.sink;
  more_shortages : g.K.Sink.shortages l.initial.sink ≤ g.K.Sink.shortages l.sink;
}
