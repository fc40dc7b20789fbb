use Rattle.std.proofs.Common.{◌≡◌, ◌≤◌, ◌+◌, ◌-◌, vec_len, length}
use Rattle.std.specs.Io.KnownBytes.{Consumes}
use Rattle.aps_io.proofs.all.read_by_pieces.Given as goal

abbrev pub invariant-reading : goal.invariant-reading
invariant-reading g l = record {
  taken : Consumes (g.S.Source.left l.initial.source) (g.S.Source.left l.source) l.bytes.items;
  later : g.S.Source.faults l.initial.source ≤ g.S.Source.faults l.source;
  counted : g.S.Source.reads l.source ≤ g.S.Source.reads l.initial.source + vec_len l.bytes;
  room : length l.piece ≡ length l.initial.piece;
  short : vec_len l.bytes ≤ l.most + 1;
}

abbrev pub decreases-reading : goal.decreases-reading
decreases-reading g l = l.most + 1 - vec_len l.bytes
