use Rattle.std.proofs.Common.{◌++◌, ◌∙◌, List, ap}
use Rattle.std.specs.List.{flat_map}
use Rattle.aps_model.specs.declared.partition.PartitionRow.{PartitionRow}
use Rattle.aps_model.specs.After.{state_after}
use Rattle.aps_model.specs.Scenario.{Scenario}
use Rattle.view_marks.specs.declared.alteration.Alteration.{Alteration}
use Rattle.view_texts.proofs.Pieces.{on_ok}
use Rattle.view_texts.proofs.Told.{told_both, told_same}
use Rattle.view_trace_events.specs.Instants.{alteration_event, overspent_event}
use Rattle.view_trace_events.specs.Trace.{lasting_part}
use Rattle.view_trace_events.proofs.writing.write_events.Goals as goal

pub returns-clause-told : goal.returns-clause-told
returns-clause-told g c =
    let scenario = c.args.history.now.scenario in
    let h = c.args.history.now.entries in
    let rows = (state_after scenario h).rows in
    let spent = flat_map overspent_event c.args.overspent.now in
    on_ok c.write_instants.result
    (λ last.
    told_both _ _ _ _ _ _ _ _ c.in_ok-alterations.ensures.told
    (told_both _ _ _ _ _ _ _ _
    (told_same _ _ _ _ _ _ (ap (λ (rs : List PartitionRow). lasting_part scenario h rs) (c.deref.ensures.value ∙ c.in_ok-alterations.ensures.rows))
    c.in_ok-write_lasting.ensures.told)
    (told_same _ _ _ _ _ _
    (ap (λ (s : Scenario). spent ++ flat_map (alteration_event s.threads c.deref-2.result.now) c.deref-3.result.now) c.scenario.ensures
    ∙ ap (λ (rs : List PartitionRow). spent ++ flat_map (alteration_event scenario.threads rs) c.deref-3.result.now) (c.deref-2.ensures.value ∙ c.in_ok-alterations.ensures.rows)
    ∙ ap (λ (all : List Alteration). spent ++ flat_map (alteration_event scenario.threads rows) all) (c.deref-3.ensures.value ∙ c.in_ok-alterations.ensures.alterations))
    last)))
    c.write_instants.ensures.told
