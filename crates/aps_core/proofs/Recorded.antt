-- What holds of the entries of each run under way.
use Rattle.std.proofs.Common.{◌<◌, All}
use Rattle.aps_model.specs.declared.entry.Entry.{Entry}
use Rattle.aps_model.specs.Bound.{KeepsWindowBound, KeepsCriticalBound}
use Rattle.aps_model.specs.Tiled.{IsTiled, IsBilledAsInherited}
use Rattle.laws_runs.specs.Choices.{EachPickIsGreatest}
use Rattle.laws_runs.proofs.ChoiceLaws.{picks_law}
use Rattle.laws_runs.proofs.Words.{billed_as_inherited, tiled}
use Rattle.laws_bounds.proofs.BoundLaws.{window_bound, critical_bound}
use Rattle.aps_core.specs.Core.{IsUnderWay}
use Rattle.aps_core.specs.Run.{Run}
use Rattle.aps_core.proofs.Turns.{cpus_exist}

pub record IsRecorded (run : Run) : Type 0 where
  pub tiled : IsTiled run.setup.scenario.shape.tick run.entries
  pub billed : IsBilledAsInherited run.setup.scenario run.entries
  pub picks : EachPickIsGreatest run.setup.scenario run.entries
  pub bound : KeepsWindowBound run.setup.scenario run.entries
  pub critical_bound : KeepsCriticalBound run.setup.scenario run.entries
  pub cpus : All (λ (e : Entry). e.cpu < run.setup.scenario.shape.cpus) run.entries

pub recorded_law : (run : Run) → IsUnderWay run → IsRecorded run
recorded_law run r =
    let scenario = run.setup.scenario in
    let order = run.setup.order in
    let h = run.entries in
    record {
      tiled = tiled scenario order h r.setup.valid r.legal;
      billed = billed_as_inherited scenario order h r.setup.valid r.legal;
      picks = picks_law scenario order h r.setup.valid r.legal;
      bound = window_bound scenario order h r.setup.valid r.legal;
      critical_bound = critical_bound scenario order h r.setup.valid r.legal;
      cpus = cpus_exist scenario order h r.setup.valid r.legal;
    }
