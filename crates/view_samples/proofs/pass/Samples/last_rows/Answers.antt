use Rattle.std.proofs.Common.{◌≡◌, ◌≤◌, ◌∙◌, IfOk, List, length, take, ap, sym, subst}
use Rattle.aps_model.specs.declared.entry.Entry.{Entry}
use Rattle.aps_model.specs.After.{state_after}
use Rattle.aps_model.specs.Legal.{IsLegal}
use Rattle.aps_model.specs.Scenario.{Scenario}
use Rattle.aps_core.specs.Run.{Run}
use Rattle.view_replay.specs.Retraced.{order_of_run, scenario_of_run}
use Rattle.view_samples.proofs.pass.Samples.last_rows.Goals as goal

pub retrace_rest-requires-clause-done : goal.retrace_rest-requires-clause-done
retrace_rest-requires-clause-done c =
    ap (λ (r : Run). r.entries) c.requires.at.ready.up.run ∙ ap (λ (l : List Entry). take c.args.self.cursor.next l) (sym c.entries.ensures.same)

pub retrace_rest-requires-clause-place : goal.retrace_rest-requires-clause-place
retrace_rest-requires-clause-place c = subst (λ (l : List Entry). c.args.self.cursor.next ≤ length l) (sym c.entries.ensures.same) c.requires.at.ready.up.place

pub retrace_rest-requires-clause-legal : goal.retrace_rest-requires-clause-legal
retrace_rest-requires-clause-legal c =
    subst (IsLegal (scenario_of_run c.args.self.cursor.core) (order_of_run c.args.self.cursor.core)) (sym c.entries.ensures.same) c.requires.at.ready.legal

pub retrace_rest-requires-clause-few : goal.retrace_rest-requires-clause-few
retrace_rest-requires-clause-few c = subst (λ (l : List Entry). length l ≤ c.args.self.cursor.core.setup.limit) (sym c.entries.ensures.same) c.requires.at.ready.up.room

pub returns-clause-same : goal.returns-clause-same
returns-clause-same c =
    let after : Run → Type 0 = λ r. IfOk c.rows_of.result (λ rows. rows.items ≡ (state_after r.setup.scenario r.entries).rows) in
    subst (λ (s : Scenario). IfOk c.rows_of.result (λ rows. rows.items ≡ (state_after s c.args.history.now.entries).rows)) c.requires.of
    (subst (λ (l : List Entry). IfOk c.rows_of.result (λ rows. rows.items ≡ (state_after (scenario_of_run c.args.self.cursor.core) l).rows)) c.entries.ensures.same
    (subst after c.retrace_rest.ensures c.rows_of.ensures.same))
