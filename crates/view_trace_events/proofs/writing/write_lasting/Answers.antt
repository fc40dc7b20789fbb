use Rattle.std.proofs.Common.{◌∙◌, List, ap}
use Rattle.aps_model.specs.declared.entry.Entry.{Entry}
use Rattle.aps_model.specs.declared.scenario.ThreadRow.{ThreadRow}
use Rattle.aps_model.specs.Scenario.{Scenario}
use Rattle.view_texts.proofs.Pieces.{on_ok}
use Rattle.view_texts.proofs.Told.{told_both, told_same}
use Rattle.view_trace_events.specs.Arrows.{arrows_text}
use Rattle.view_trace_events.proofs.writing.write_lasting.Goals as goal

pub returns-clause-told : goal.returns-clause-told
returns-clause-told g c =
    let scenario = c.args.history.now.scenario in
    on_ok c.write_counters.result
    (λ last.
    told_both _ _ _ _ _ _ _ _ c.in_ok-write_threads.ensures.told
    (told_both _ _ _ _ _ _ _ _
    (told_same _ _ _ _ _ _
    (ap (λ (ts : List ThreadRow). arrows_text ts c.entries.result.now) (c.threads.ensures.same ∙ ap (λ (s : Scenario). s.threads) c.scenario.ensures)
    ∙ ap (λ (es : List Entry). arrows_text scenario.threads es) c.entries.ensures.same)
    c.in_ok-write_arrows.ensures.told)
    last))
    c.write_counters.ensures.told
