use Rattle.aps_core.specs.declared.simulator.Core.TheInside.{Inside}
use Rattle.aps_core.specs.Core.{IsCoreWith}
use Rattle.aps_core.specs.Run.{Run}

-- the run that the fields stand for
abbrev pub run_of_core : Inside → Run
run_of_core core = record {
  setup = record { scenario = core.history.scenario; order = core.order; limit = core.limit };
  entries = core.history.entries;
}

abbrev pub KeepsCore : Inside → Type 0
KeepsCore core = IsCoreWith (run_of_core core) core.history core.scheduler
