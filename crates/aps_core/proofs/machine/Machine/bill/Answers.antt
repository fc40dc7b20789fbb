use Rattle.std.proofs.Common.{◌-◌, ◌+◌, ◌∙◌, ap, arith, length, length-set, sym, Option}
use Rattle.aps_model.specs.declared.state.Pick.{Pick}
use Rattle.aps_model.specs.SchedulerState.{SchedulerState, thread_at}
use Rattle.aps_model.specs.Step.{billed}
use Rattle.aps_tasks.specs.declared.task.Task.{Task}
use Rattle.aps_tasks.specs.Calls.{left_after}
use Rattle.aps_tasks.specs.Table.{Table, task_in}
use Rattle.aps_core.specs.MachineView.{state_of_machine}
use Rattle.aps_core.proofs.Tasking.{spent, tasked_machine}
use Rattle.aps_core.proofs.Threads.{task_read}
use Rattle.aps_core.proofs.machine.Machine.bill.Goals as goal

pub spend-requires : goal.spend-requires
spend-requires c =
    let m = c.self.inside in
    let x = c.in-Some.pick.thread in
    let same = ap (λ (a : Task). a.since) (task_read m.tasks.tasks m.inherit.own x) ∙ ap (λ (s : SchedulerState). (thread_at s x).since) c.self.view_is in
    omega (arith, same, c.requires.since x, c.requires.to)

pub returns-in-Some : goal.returns-in-Some
returns-in-Some c =
    let m = c.self.inside in
    spent (state_of_machine m) m.tasks c.spend.new.self m.inherit.own (c.args.e.now.to - c.args.e.now.from) c.in-Some.pick c.spend.ensures
    ∙ ap (λ (running : Option Pick). billed (state_of_machine m) c.args.e.now running) (sym c.in-Some.is)
    ∙ ap (λ (s : SchedulerState). billed s c.args.e.now c.args.running.now) c.self.view_is

pub invariant_of-self : goal.invariant_of-self
invariant_of-self c =
    let m = c.self.inside in
    tasked_machine (state_of_machine m) m.tasks c.spend.new.self _ m.inherit _ _ _ c.self.invariant
    (ap (λ (t : Table). length t.tasks) c.spend.ensures ∙ length-set m.tasks.tasks c.in-Some.pick.thread (record (task_in m.tasks c.in-Some.pick.thread) {
      left = left_after (task_in m.tasks c.in-Some.pick.thread).left (c.args.e.now.to - c.args.e.now.from);
      since = (task_in m.tasks c.in-Some.pick.thread).since + (c.args.e.now.to - c.args.e.now.from);
    }))
