use Rattle.std.proofs.Common.{List, sym, subst}
use Rattle.aps_model.specs.declared.entry.Entry.{Entry}
use Rattle.view_replay.specs.Retraced.{scenario_of_run}
use Rattle.view_samples.specs.declared.pass.Samples.{Samples}
use Rattle.view_samples.specs.Pass.{IsPassReady, RunsIn, samples_at_start}
use Rattle.view_samples.proofs.Begun.{begun, start_ready, start_runs}
use Rattle.view_samples.proofs.pass.Samples.begin.Goals as goal

pub begin_tick-requires-clause-ready : goal.begin_tick-requires-clause-ready
begin_tick-requires-clause-ready c =
    let h = c.args.history.now in
    subst (λ (s : Samples). IsPassReady c.entries.result.now s) (sym c.in_ok-samples.ensures.same)
    (subst (λ (l : List Entry). IsPassReady l (samples_at_start h c.args.order)) (sym c.entries.ensures.same) (start_ready h c.args.order c.in_ok-samples.ensures.valid c.requires.legal))

pub begin_tick-requires-clause-runs : goal.begin_tick-requires-clause-runs
begin_tick-requires-clause-runs c =
    subst (λ (s : Samples). RunsIn (scenario_of_run s.cursor.core).shape.tick c.entries.result.now s.cursor.next 1 s.tick) (sym c.in_ok-samples.ensures.same)
    (start_runs c.args.history.now.scenario.shape.tick c.entries.result.now)

pub returns-clause-at : goal.returns-clause-at
returns-clause-at c =
    (begun c.entries.result.now c.args.history.now c.args.order c.in_ok-samples.samples _ c.entries.ensures.same c.in_ok-samples.ensures.same c.in_ok-samples.ensures.valid c.requires.legal c.begin_tick.ensures.up c.begin_tick.ensures.begins).at

pub returns-clause-of : goal.returns-clause-of
returns-clause-of c =
    (begun c.entries.result.now c.args.history.now c.args.order c.in_ok-samples.samples _ c.entries.ensures.same c.in_ok-samples.ensures.same c.in_ok-samples.ensures.valid c.requires.legal c.begin_tick.ensures.up c.begin_tick.ensures.begins).of

pub returns-clause-first : goal.returns-clause-first
returns-clause-first c =
    (begun c.entries.result.now c.args.history.now c.args.order c.in_ok-samples.samples _ c.entries.ensures.same c.in_ok-samples.ensures.same c.in_ok-samples.ensures.valid c.requires.legal c.begin_tick.ensures.up c.begin_tick.ensures.begins).first
