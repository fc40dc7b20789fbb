-- How the core's run is read under the lock.
use Rattle.std.specs.Prelude.{ℕ, List, [], refl}
use Rattle.aps_live.specs.LiveHistory.{Taken}
use Rattle.aps_live.specs.LiveRun.{LiveRun}
use Rattle.aps_seats.specs.Log.{Log, no_scenario}

abbrev pub live_log : Log LiveRun
live_log = record {
  Entry = Taken;
  cpu_of = λ (t : Taken). t.entry.cpu;
  cpus_of = λ (run : LiveRun). run.setup.scenario.shape.cpus;
  entries_of = λ (run : LiveRun). run.steps;
  with_entries = λ (run : LiveRun) (steps : List Taken). record run { steps = steps };
  no_run = record { setup = record { scenario = no_scenario; limit = 0 }; steps = [] };
  same_entries = λ run. refl;
  given_entries = λ run steps. refl;
  last_entries = λ run steps more. refl;
  same_cpus = λ run steps. refl;
}
