use Rattle.std.proofs.Common.{arith, ◌≡◌, ◌≤◌, ◌<◌, ◌/◌, true, false, Some, cond, ◌∙◌, ap, sym, subst}
use Rattle.aps_model.specs.declared.shape.Shape.{Shape}
use Rattle.aps_model.specs.declared.state.CpuNow.{CpuNow}
use Rattle.aps_model.specs.History.{History}
use Rattle.aps_model.specs.SchedulerState.{SchedulerState, cpu_at}
use Rattle.laws_runs.specs.Moments.{moment}
use Rattle.laws_runs.proofs.Counts.{counts_law}
use Rattle.aps_core.specs.Run.{history_of_run, state_of_run}
use Rattle.view_shares.specs.CriticalBudget.{begins_tick, critical_on}
use Rattle.view_replay.specs.Entry.{entry_of}
use Rattle.view_replay.proofs.Next.{next_due}
use Rattle.view_shares.specs.Standing.{all_commanded, stand, standing_of}
use Rattle.view_shares.proofs.Tested.{begins, budget_foretold, first_begins, late_begins, none_foretold, other_begins, who_ran}
use Rattle.view_shares.proofs.critical_budget.budget_next.Goals.{else-last-moment-via-then-last-moment+else-begins_tick, else-last-moment-via-else-last-moment}
use Rattle.view_shares.proofs.critical_budget.budget_next.Goals as goal

pub returns-then-begins_tick : goal.returns-then-begins_tick
returns-then-begins_tick c =
    let core = c.args.core.now in
    let e = entry_of core c.args.cpu in
    let now = next_due core c.args.cpu c.history-history.ensures.valid c.history-history.ensures.legal c.requires.goes_on c.requires.turn in
    let ran = who_ran core.setup.scenario core.setup.order core.entries e c.args.cpu c.history-history.ensures.valid now.legal now.own in
    let at : c.due-moment.result ≡ e.to = c.due-moment.ensures ∙ sym now.to in
    let to = c.due-moment.result in
    let s : SchedulerState = state_of_run core in
    let told : c.history-history.result.now ≡ history_of_run core = c.history-history.ensures.same in
    let names : critical_on (cpu_at s c.args.cpu).running ≡ Some c.in-Some.p = ap (λ (x : CpuNow). critical_on x.running) (sym c.cpu.ensures) ∙ sym c.critical_on.ensures ∙ c.in-Some.is in
    let shape : c.shape.result.now ≡ s.shape = c.shape.ensures.same ∙ ap (λ (h : History). h.shape) told in
    let other : c.shape-then-begins_tick.result.now ≡ s.shape = c.shape-then-begins_tick.ensures.same ∙ ap (λ (h : History). h.shape) told in
    let begun : begins_tick s.shape to ≡ true = ap (λ (x : Shape). begins_tick x to) (sym shape) ∙ sym c.begins_tick.ensures ∙ c.if-begins_tick.true in
    let all = all_commanded (to / s.shape.tick) core.setup.scenario.commands (standing_of s) in
    let less : moment core.entries < to = subst (λ n. n < to) c.requires.last c.if-last-moment.true in
    budget_foretold core.setup.scenario core.setup.order core.entries e (cpu_at s c.args.cpu).running c.in-Some.p c.in_ok-budget_after.field-0
    (all_commanded (to / c.shape-then-begins_tick.result.now.tick) core.setup.scenario.commands (standing_of s)) to
    c.history-history.ensures.valid now.legal ran names c.in_ok-budget_after.ensures at
    (ap (λ (x : Shape). all_commanded (to / x.tick) core.setup.scenario.commands (standing_of s)) other
    ∙ ap (λ t. cond t all (standing_of s)) (sym (first_begins s.shape (moment core.entries) to less begun)))

pub returns : goal.returns
returns c =
    let core = c.args.core.now in
    let e = entry_of core c.args.cpu in
    let now = next_due core c.args.cpu c.history-history.ensures.valid c.history-history.ensures.legal c.requires.goes_on c.requires.turn in
    let ran = who_ran core.setup.scenario core.setup.order core.entries e c.args.cpu c.history-history.ensures.valid now.legal now.own in
    let at : c.due-moment.result ≡ e.to = c.due-moment.ensures ∙ sym now.to in
    let to = c.due-moment.result in
    let s : SchedulerState = state_of_run core in
    let told : c.history-history.result.now ≡ history_of_run core = c.history-history.ensures.same in
    let names : critical_on (cpu_at s c.args.cpu).running ≡ Some c.in-Some.p = ap (λ (x : CpuNow). critical_on x.running) (sym c.cpu.ensures) ∙ sym c.critical_on.ensures ∙ c.in-Some.is in
    let rows = c.rows.ensures.same ∙ ap (λ (h : History). h.rows) told in
    let shape = c.shape-2.ensures.same ∙ ap (λ (h : History). h.shape) told in
    let here : stand c.rows.result.now c.shape-2.result.now ≡ standing_of s = λ i. stand (rows i) (shape i) in
    let all = all_commanded (to / s.shape.tick) core.setup.scenario.commands (standing_of s) in
    let goes_on : begins s.shape (moment core.entries) to ≡ false = elim c.else-last-moment.branch [
      | else-last-moment-via-then-last-moment+else-begins_tick w ↦
          other_begins s.shape (moment core.entries) to
          (ap (λ (x : Shape). begins_tick x to) (sym (w.shape.ensures.same ∙ ap (λ (h : History). h.shape) told)) ∙ sym w.begins_tick.ensures ∙ w.if-begins_tick.false)
      | else-last-moment-via-else-last-moment w ↦ late_begins s.shape (moment core.entries) to (subst (λ n. to ≤ n) c.requires.last w.if-last-moment.false)
    ] in
    budget_foretold core.setup.scenario core.setup.order core.entries e (cpu_at s c.args.cpu).running c.in-Some.p c.budget_by.result (stand c.rows.result.now c.shape-2.result.now) to
    c.history-history.ensures.valid now.legal ran names c.budget_by.ensures at
    (here ∙ ap (λ t. cond t all (standing_of s)) (sym goes_on))

pub returns-in_default : goal.returns-in_default
returns-in_default c =
    let core = c.args.core.now in
    let e = entry_of core c.args.cpu in
    let now = next_due core c.args.cpu c.history-history.ensures.valid c.history-history.ensures.legal c.requires.goes_on c.requires.turn in
    let ran = who_ran core.setup.scenario core.setup.order core.entries e c.args.cpu c.history-history.ensures.valid now.legal now.own in
    none_foretold core.setup.scenario core.entries e (cpu_at (state_of_run core) c.args.cpu).running ran (ap (λ (x : CpuNow). critical_on x.running) (sym c.cpu.ensures) ∙ sym c.critical_on.ensures ∙ c.in_default.is)

pub due-moment-requires : goal.due-moment-requires
due-moment-requires c =
    let run = c.args.core.now in
    let sizes = (counts_law run.setup.scenario run.setup.order run.entries c.history-history.ensures.valid c.history-history.ensures.legal).sizes.cpus in
    let exists = c.requires.turn.exists in
    omega (arith, exists, sizes)
