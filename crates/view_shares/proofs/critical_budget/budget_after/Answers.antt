use Rattle.std.proofs.Common.{◌≡◌, false, ◌∙◌, ap, sym, subst}
use Rattle.aps_model.specs.declared.shape.Shape.{Shape}
use Rattle.aps_model.specs.History.{History}
use Rattle.aps_model.specs.Partition.{AreRows}
use Rattle.aps_model.specs.Scenario.{Scenario}
use Rattle.aps_model.specs.SchedulerState.{SchedulerState}
use Rattle.laws_runs.specs.Rows.{AreInOrder, IsNamedTree}
use Rattle.laws_runs.proofs.RowLaws.{in_order}
use Rattle.aps_core.specs.Run.{history_of_run, state_of_run}
use Rattle.view_shares.specs.CriticalBudget.{budget_by}
use Rattle.view_shares.specs.Standing.{Standing, has_command, stand, standing_of}
use Rattle.view_shares.proofs.Commands.{none_commanded}
use Rattle.view_shares.proofs.critical_budget.budget_after.Goals as goal

pub returns-then-not-has_command : goal.returns-then-not-has_command
returns-then-not-has_command c =
    let core = c.args.core.now in
    let s : SchedulerState = state_of_run core in
    let told : c.history-history.result.now ≡ history_of_run core = c.history-history.ensures.same in
    let commands : c.commands-commands.result.now ≡ core.setup.scenario.commands =
    c.commands-commands.ensures.same ∙ ap (λ (x : Scenario). x.commands) (c.scenario.ensures ∙ ap (λ (h : History). h.scenario) told) in
    let none : has_command c.args.tick core.setup.scenario.commands ≡ false =
    ap (has_command c.args.tick) (sym commands) ∙ sym c.has_command.ensures ∙ c.if-not-has_command.true in
    let rows : c.rows.result.now ≡ s.rows = c.rows.ensures.same ∙ ap (λ (h : History). h.rows) told in
    let shape : c.shape.result.now ≡ s.shape = c.shape.ensures.same ∙ ap (λ (h : History). h.shape) told in
    c.budget_by.ensures ∙ (λ i. budget_by (stand (rows i) (shape i)) c.args.p)
    ∙ ap (λ (z : Standing). budget_by z c.args.p) (sym (none_commanded c.args.tick core.setup.scenario.commands (standing_of s) none))

pub of_rows-requires-clause-named : goal.of_rows-requires-clause-named
of_rows-requires-clause-named c =
    let core = c.args.core.now in
    let law : AreInOrder core.setup.scenario (state_of_run core) = in_order core.setup.scenario core.setup.order core.entries c.history-history.ensures.valid c.history-history.ensures.legal in
    let rows : c.rows-2.result.now ≡ (state_of_run core).rows = c.rows-2.ensures.same ∙ ap (λ (h : History). h.rows) c.history-history.ensures.same in
    subst IsNamedTree (sym rows) law.named

pub of_rows-requires-clause-funded : goal.of_rows-requires-clause-funded
of_rows-requires-clause-funded c =
    let core = c.args.core.now in
    let law : AreInOrder core.setup.scenario (state_of_run core) = in_order core.setup.scenario core.setup.order core.entries c.history-history.ensures.valid c.history-history.ensures.legal in
    let rows : c.rows-2.result.now ≡ (state_of_run core).rows = c.rows-2.ensures.same ∙ ap (λ (h : History). h.rows) c.history-history.ensures.same in
    let shape : c.shape-2.result.now ≡ (state_of_run core).shape = c.shape-2.ensures.same ∙ ap (λ (h : History). h.shape) c.history-history.ensures.same in
    let parts = ap (λ (x : Shape). x.parts) shape ∙ law.sizes.parts in
    subst (λ n. AreRows n c.rows-2.result.now) (sym parts) (subst (AreRows core.setup.scenario.shape.parts) (sym rows) law.funded)
