use Rattle.std.proofs.Common.{◌++◌, ◌∙◌, List, ap, sym}
use Rattle.aps_model.specs.declared.partition.PartitionRow.{PartitionRow}
use Rattle.aps_model.specs.After.{state_after}
use Rattle.aps_model.specs.Scenario.{Scenario}
use Rattle.view_trace_events.proofs.Numbered.{lanes_same}
use Rattle.view_texts.proofs.Told.{told_same}
use Rattle.view_trace_events.specs.Trace.{drawn_part, names_text}
use Rattle.view_trace_events.proofs.writing.write_processors.Goals as goal

pub write_drawn-requires-clause-lanes : goal.write_drawn-requires-clause-lanes
write_drawn-requires-clause-lanes g c = c.in_ok-drawn.ensures.lanes.count ∙ sym (ap (λ (s : Scenario). s.shape.cpus) c.scenario.ensures)

pub returns-clause-told : goal.returns-clause-told
returns-clause-told g c =
    let scenario = c.args.history.now.scenario in
    let h = c.args.history.now.entries in
    let rows = (state_after scenario h).rows in
    let drawn = c.in_ok-drawn.drawn in
    told_same _ _ _ _ _ _
    (ap (λ (s : Scenario). drawn_part s drawn.rows drawn.lanes) c.scenario.ensures
    ∙ ap (λ (rs : List PartitionRow). drawn_part scenario rs drawn.lanes) c.in_ok-drawn.ensures.rows
    ∙ ap (λ t. names_text scenario rows ++ t) (lanes_same scenario h rows drawn.lanes c.in_ok-drawn.ensures.lanes))
    c.in_ok-write_drawn.ensures.told
