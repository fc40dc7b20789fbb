use Rattle.std.proofs.Common.{ap, refl, subst, sym}
use Rattle.aps_model.specs.declared.entry.Order.TheVariants.{Fixed}
use Rattle.aps_model.specs.SchedulerState.{SchedulerState}
use Rattle.aps_ctl.specs.Pending.{all_at}
use Rattle.laws_runs.specs.Stamps.{IsStamped}
use Rattle.aps_core.proofs.Boot.{opening_stamped}
use Rattle.aps_core.proofs.Counting.{counts_begin}
use Rattle.aps_core.proofs.DuesKept.{dues_none}
use Rattle.aps_core.proofs.scheduler.Scheduler.boot.Goals as goal

pub start_queues-requires : goal.start_queues-requires
start_queues-requires c =
    subst (λ (s : SchedulerState). IsStamped s.threads s.stamps) (sym c.in_ok-machine.ensures)
    (opening_stamped c.args.scenario.now Fixed c.requires)

pub returns-clause-after : goal.returns-clause-after
returns-clause-after c = record {
  pending = λ j none. ap (all_at j) c.in_ok-ready.ensures.ctl;
  seats = c.in_ok-ready.ensures.ready;
  timed = c.in_ok-ready.ensures.timer;
  lasts = c.new-ends.ensures;
  stands = c.in_ok-window.ensures.standing;
  posted = c.start_posts-posts.ensures;
  spare = λ d past. c.new-dues.ensures d;
  nexts = dues_none c.in_ok-machine.machine _ c.new-dues.ensures;
  counts = counts_begin c.args.scenario.now c.in_ok-machine.machine _ c.in_ok-window.window c.requires.shape c.in_ok-machine.ensures refl c.in_ok-window.ensures.window;
}
