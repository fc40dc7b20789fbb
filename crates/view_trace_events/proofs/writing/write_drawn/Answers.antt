use Rattle.std.proofs.Common.{◌∙◌, List, ap}
use Rattle.std.specs.List.{flat_map, enumerate_from}
use Rattle.aps_model.specs.declared.partition.PartitionRow.{PartitionRow}
use Rattle.aps_model.specs.declared.scenario.ThreadRow.{ThreadRow}
use Rattle.aps_model.specs.declared.shape.Shape.{Shape}
use Rattle.view_marks.specs.declared.bar.Bar.{Bar}
use Rattle.view_texts.proofs.Pieces.{as_other, on_ok}
use Rattle.view_texts.proofs.Told.{told_both, told_put, told_same}
use Rattle.view_trace_events.specs.Names.{partition_names, processors_text, thread_names}
use Rattle.view_trace_events.specs.Slices.{lane_events}
use Rattle.view_trace_events.proofs.writing.write_drawn.Goals as goal

pub returns-clause-told : goal.returns-clause-told
returns-clause-told g c =
    let threads = c.threads-threads.ensures.same in
    let rows : List PartitionRow = c.args.drawn.now.rows in
    on_ok c.write_lanes.result
    (λ last.
    told_both _ _ _ _ _ _ _ _
    (told_both _ _ _ _ _ _ _ _
    (told_put _ _ _ _ (as_other processors_text _ _ _ _ c.in_ok-add_processors.ensures (ap (λ (s : Shape). s.cpus) c.shape.ensures.same)))
    (told_both _ _ _ _ _ _ _ _
    (told_same _ _ _ _ _ _ (ap (λ (rs : List PartitionRow). flat_map partition_names (enumerate_from 0 rs)) c.rows.ensures) c.in_ok-write_partitions.ensures.told)
    (told_same _ _ _ _ _ _ (ap (λ (ts : List ThreadRow). flat_map (thread_names ts) (enumerate_from 0 ts)) threads) c.in_ok-write_threads.ensures.told)))
    (told_same _ _ _ _ _ _
    (ap (λ (ts : List ThreadRow). flat_map (lane_events ts c.rows-2.result.now) (enumerate_from 0 c.lanes.result.now)) threads
    ∙ ap (λ (rs : List PartitionRow). flat_map (lane_events c.args.scenario.now.threads rs) (enumerate_from 0 c.lanes.result.now)) c.rows-2.ensures
    ∙ ap (λ (lanes : List (List Bar)). flat_map (lane_events c.args.scenario.now.threads rows) (enumerate_from 0 lanes)) c.lanes.ensures)
    last))
    c.write_lanes.ensures.told
