use Rattle.std.proofs.Common.{◌≡◌, ◌∙◌, IfOk, ap, subst}
use Rattle.aps_core.specs.Run.{Run, state_of_run}
use Rattle.view_replay.specs.Retraced.{start_of}
use Rattle.view_replay.proofs.retracing.rows_after.Goals as goal

pub retrace_rest-requires-clause-done : goal.retrace_rest-requires-clause-done
retrace_rest-requires-clause-done c = ap (λ (r : Run). r.entries) c.in_ok-core.ensures.same

pub returns-clause-same : goal.returns-clause-same
returns-clause-same c =
    let h = c.args.history.now in
    let end : Run = record { setup = (start_of h c.args.order).setup; entries = h.entries } in
    let core : c.retrace_rest.new.core ≡ end =
    c.retrace_rest.ensures ∙ (λ i. record { setup = (c.in_ok-core.ensures.same i).setup; entries = c.entries.ensures.same i }) in
    subst (λ (r : Run). IfOk c.rows_of.result (λ rows. rows.items ≡ (state_of_run r).rows)) core c.rows_of.ensures.same
