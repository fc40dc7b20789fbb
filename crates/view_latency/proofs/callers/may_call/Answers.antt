use Rattle.std.proofs.Common.{◌≡◌, ◌<◌, ◌∙◌, List, length, slice_index_or, ap, sym, subst}
use Rattle.std.proofs.lemmas.List.{get_or_read}
use Rattle.aps_model.specs.declared.scenario.ThreadRow.{ThreadRow}
use Rattle.aps_model.specs.Scenario.{no_thread_row}
use Rattle.view_latency.specs.Callers.{has_send}
use Rattle.view_latency.proofs.callers.may_call.Goals as goal

pub returns : goal.returns
returns c =
    let rows = c.threads.result.now in
    let x = c.args.x in
    let same : rows ≡ c.args.scenario.now.threads = c.threads.ensures.same in
    let inside : x < length rows = subst (λ (l : List ThreadRow). x < length l) (sym same) c.requires in
    let row = get_or_read rows x c.index-threads-x.result inside c.index-threads-x.is no_thread_row ∙ ap (λ (l : List ThreadRow). slice_index_or l x no_thread_row) same in
    c.has_send.ensures ∙ ap has_send (c.ops-ops.ensures ∙ ap (λ (r : ThreadRow). r.program) (sym c.index-threads-x.is ∙ row))
