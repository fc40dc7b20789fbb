use Rattle.std.proofs.Common.{◌<◌, ◌^◌, subst, sym}
use Rattle.aps_tasks.specs.Tasks.{Tasks}
use Rattle.aps_tasks.specs.TasksView.{tasks_of}
use Rattle.aps_tasks.proofs.Keeping.{kept_given}
use Rattle.aps_tasks.proofs.tasks.Tasks.give_back.Goals as goal

pub invariant_of-self : goal.invariant_of-self
invariant_of-self c =
    let t = tasks_of c.self.inside in
    let few = subst (λ (u : Tasks). u.stamps < 2 ^ 63) (sym c.self.view_is) c.requires in
    kept_given t c.give_back.new.self c.args.x c.policy-policy.result c.self.invariant few c.give_back.ensures
