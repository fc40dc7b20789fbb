use Rattle.std.proofs.Common.{◌∙◌, ap, arith}
use Rattle.view_texts.proofs.Pieces.{as_other}
use Rattle.view_texts.proofs.Told.{told_item, told_row, told_rows}
use Rattle.view_trace_events.specs.Names.{named_thread, thread_names}
use Rattle.view_trace_events.specs.Track.{of_thread}
use Rattle.view_trace_events.proofs.names.write_threads.Goals as goal

pub loop-x-preserved : goal.loop-x-preserved
loop-x-preserved g c =
    let threads = c.args.threads.now in
    record {
      told = told_row (thread_names threads) _ _ _ _ _ _ threads c.loop-x.x c.index-threads-x.result c.loop-x-test.true c.index-threads-x.is c.loop-x.invariant.told
          (told_item _ _ _ _ _ _
          (as_other (λ track. named_thread track c.loop-x.x c.index-threads-x.result.name) _ _ _ _ c.in_ok-add_thread.ensures
          (c.of_thread-track.ensures ∙ ap (of_thread threads) c.at.ensures))
          c.in_ok-make_room.ensures.told);
      later = omega arith;
    }

pub returns-clause-told : goal.returns-clause-told
returns-clause-told g c = told_rows (thread_names c.args.threads.now) _ _ _ _ c.args.threads.now c.loop-x.x c.loop-x-test.false c.loop-x.invariant.told
