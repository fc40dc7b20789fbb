use Rattle.std.proofs.Common.{◌≡◌, ◌≤◌, string_bytes, take}
use Rattle.view_texts.specs.Piece.{IsTold}
use Rattle.view_value_changes.specs.Dump.{dumped, telling_of}
use Rattle.view_value_changes.specs.Retraced.{RetracedFollowsCore}
use Rattle.view_value_changes.proofs.dump.Dump.go_through.Given as goal

abbrev pub invariant-loop-e : goal.invariant-loop-e
invariant-loop-e g l = record {
  at : RetracedFollowsCore l.self.at;
  core : l.self.at.core ≡ record l.fn.self.at.core { entries = take l.e-index l.entries };
  told : IsTold (g.K.Sink.written l.initial.sink) (g.K.Sink.written l.sink) (string_bytes l.initial.out) (string_bytes l.out)
      (dumped l.fn.self.at.core.setup l.threads l.rows (telling_of l.overspent l.fn.self) (take l.e-index l.entries)).text;
  telling : telling_of l.overspent l.self
      ≡ (dumped l.fn.self.at.core.setup l.threads l.rows (telling_of l.overspent l.fn.self) (take l.e-index l.entries)).telling;
  later : g.K.Sink.faults l.initial.sink ≤ g.K.Sink.faults l.sink;
}
