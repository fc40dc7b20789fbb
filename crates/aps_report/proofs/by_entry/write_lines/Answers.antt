use Rattle.std.proofs.Common.{arith}
use Rattle.aps_model.specs.Journal.{entry_line}
use Rattle.aps_report.proofs.Moved.{moved-trans, moved_more, moved-prefix, journal-parts, journal_more, slice-prefix, on_err}
use Rattle.aps_report.proofs.by_entry.write_lines.Goals as goal

pub returns-in_err-make_room-clause-prefix : goal.returns-in_err-make_room-clause-prefix
returns-in_err-make_room-clause-prefix g c =
    on_err _ c.from_residual.result
    (moved-prefix _ _ _ _ _ _ _ (journal-parts c.args.entries.now c.loop-e.e-index) c.loop-e.invariant.moved c.in_err-make_room.ensures.prefix)

pub loop-e-preserved : goal.loop-e-preserved
loop-e-preserved g c = record {
  moved = moved_more _ _ _ _ _ _ (entry_line c.e-item.result)
      (journal_more c.args.entries.now c.loop-e.e-index c.e-item.result c.loop-e-test.true c.e-item.is)
      (rw (← c.line.ensures.text) c.add_line.ensures.items)
      (moved-trans _ _ _ _ _ _ c.loop-e.invariant.moved c.in_ok-make_room.ensures.moved);
  room = omega arith;
  later = omega arith;
  more_shortages = omega arith;
}

pub returns-in_err-write_all-clause-prefix : goal.returns-in_err-write_all-clause-prefix
returns-in_err-write_all-clause-prefix g c =
    on_err _ c.from_residual-in_err-write_all.result
    (moved-prefix _ _ _ _ _ _ _ (journal-parts c.args.entries.now c.loop-e.e-index) c.loop-e.invariant.moved
    (slice-prefix _ _ _ _ c.deref.ensures.value c.in_err-write_all.ensures.prefix))
