use Rattle.std.proofs.Common.{ap, sym, subst, List}
use Rattle.aps_model.specs.declared.entry.Entry.{Entry}
use Rattle.aps_window.specs.Window.{Window}
use Rattle.aps_live.specs.declared.event.LiveEvent.{LiveEvent}
use Rattle.aps_live.specs.Core.{IsCore, pairs}
use Rattle.aps_live.specs.LiveState.{LiveState}
use Rattle.aps_live.proofs.Advances.{tied_start}
use Rattle.aps_live.proofs.Cores.{at_start, core_start}
use Rattle.aps_live.proofs.live_core.LiveCore.begin.Goals as goal

pub invariant_of-result : goal.invariant_of-result
invariant_of-result c =
    let scenario = c.args.scenario in
    let start = c.in_ok-machine.ensures in
    let rows = c.in_ok-ends.ensures in
    let lists = c.in_ok-entries.ensures in
    let stands = at_start scenario.shape.tick scenario.shape.window scenario.shape.cpus c.in_ok-machine.window c.in_ok-ends.ends.items (tied_start scenario.shape.tick c.in_ok-machine.window start.stands)
    (ap (λ (w : Window). w.tick) start.window) (ap (λ (w : Window). w.span) start.window) rows.ends in
    let core = core_start scenario c.args.limit c.in_ok-machine.window c.in_ok-ends.ends.items c.in_ok-ends.parts.items start.valid c.requires.some c.requires.few stands rows.parts in (
      subst (λ (x : LiveState × List Entry × List LiveEvent). IsCore (record { setup = record { scenario = scenario; limit = c.args.limit }; steps = pairs x.1 x.2 }) x.0 c.in_ok-machine.window c.in_ok-ends.ends.items 0 c.in_ok-ends.parts.items x.1 x.2)
          (λ i. (sym start.machine i, sym lists.entries.0 i, sym lists.events.0 i)) core,
      lists.entries.1,
      lists.events.1,
    )
