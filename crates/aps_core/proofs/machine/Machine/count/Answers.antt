use Rattle.std.proofs.Common.{◌∙◌, ap, arith, length, sym}
use Rattle.aps_model.specs.SchedulerState.{SchedulerState}
use Rattle.aps_core.proofs.Threads.{threads_count}
use Rattle.aps_core.proofs.machine.Machine.count.Goals as goal

pub returns-clause-same : goal.returns-clause-same
returns-clause-same c =
    let m = c.self.inside in
    c.len.ensures ∙ sym (threads_count m.tasks.tasks m.inherit.own) ∙ ap (λ (s : SchedulerState). length s.threads) c.self.view_is

pub returns-clause-few : goal.returns-clause-few
returns-clause-few c =
    let m = c.self.inside in
    omega (arith, c.len.ensures, threads_count m.tasks.tasks m.inherit.own, c.self.invariant.few_threads)
