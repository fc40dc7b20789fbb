use Rattle.std.proofs.Common.{arith}
use Rattle.aps_report.proofs.Cells.{used-HaveCellRoom}
use Rattle.aps_report.proofs.by_window.table_of.Goals as goal

pub add_entry-requires-clause-room : goal.add_entry-requires-clause-room
add_entry-requires-clause-room c =
    rw c.deref_mut.ensures.value (used-HaveCellRoom c.args.shape.now c.args.entries.now c.loop-e.e-index c.args.windows c.loop-e.cells.items c.requires.entries (omega arith) c.loop-e.invariant.used)
