use Rattle.std.proofs.Common.{◌≡◌, ◌≤◌, string_bytes, take}
use Rattle.view_trace_events.specs.Arrows.{arrows_in, arrows_text}
use Rattle.view_texts.specs.Piece.{IsTold}
use Rattle.view_trace_events.proofs.arrows.write_arrows.Given as goal

abbrev pub invariant-loop-e : goal.invariant-loop-e
invariant-loop-e g l = record {
  told : IsTold (g.K.Sink.written l.initial.sink) (g.K.Sink.written l.sink) (string_bytes l.initial.out) (string_bytes l.out)
      (arrows_text l.threads (take l.e-index l.entries));
  later : g.K.Sink.faults l.initial.sink ≤ g.K.Sink.faults l.sink;
  next : l.count ≡ (arrows_in l.threads (take l.e-index l.entries)).next;
  few : l.count ≤ l.e-index;
}
