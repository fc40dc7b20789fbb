use Rattle.std.proofs.Common.{◌∙◌, ap, refl, subst, sym}
use Rattle.aps_model.specs.declared.program.Op.{Op}
use Rattle.aps_model.specs.Operation.{duration}
use Rattle.aps_tasks.specs.Kept.{IsLeft}
use Rattle.aps_tasks.specs.Table.{entering}
use Rattle.aps_tasks.specs.TasksView.{tasks_of}
use Rattle.aps_tasks.specs.Tasks.{Tasks, planned_op, task_at}
use Rattle.aps_tasks.proofs.Keeping.{kept_task}
use Rattle.aps_tasks.proofs.Lasting.{duration_left}
use Rattle.aps_tasks.proofs.tasks.Tasks.advance.Goals as goal

pub invariant_of-self : goal.invariant_of-self
invariant_of-self c =
    let t = tasks_of c.self.inside in
    let x = c.args.x in
    let place = c.place_after-place.result in
    let op = c.op_at-op.result in
    let there = c.op_at-op.ensures.same ∙ ap (λ (u : Tasks). planned_op u x place) (sym c.self.view_is) in
    kept_task t c.enter.new.self x (entering t.shape place op c.args.now (task_at t x).state (task_at t x)) c.self.invariant c.enter.ensures refl
    (λ within. subst (λ (o : Op). IsLeft o (duration t.shape op)) there (duration_left t.shape op))
