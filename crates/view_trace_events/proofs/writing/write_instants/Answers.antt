use Rattle.std.proofs.Common.{List, ap}
use Rattle.std.specs.List.{flat_map}
use Rattle.aps_model.specs.declared.scenario.ThreadRow.{ThreadRow}
use Rattle.view_texts.proofs.Pieces.{on_ok}
use Rattle.view_texts.proofs.Told.{told_both, told_same}
use Rattle.view_trace_events.specs.Instants.{alteration_event}
use Rattle.view_trace_events.proofs.writing.write_instants.Goals as goal

pub returns-clause-told : goal.returns-clause-told
returns-clause-told g c =
    on_ok c.write_alterations.result
    (λ last.
    told_both _ _ _ _ _ _ _ _ c.in_ok-write_overspent.ensures.told
    (told_same _ _ _ _ _ _ (ap (λ (threads : List ThreadRow). flat_map (alteration_event threads c.args.rows.now) c.args.alterations.now) c.threads.ensures.same) last))
    c.write_alterations.ensures.told
