-- How the core's run is read under the lock.
use Rattle.std.specs.Prelude.{ℕ, List, [], refl}
use Rattle.aps_model.specs.declared.entry.Entry.{Entry}
use Rattle.aps_model.specs.declared.entry.Order.TheVariants.{Free}
use Rattle.aps_core.specs.Run.{Run}
use Rattle.aps_seats.specs.Log.{Log, no_scenario}

abbrev pub run_log : Log Run
run_log = record {
  Entry = Entry;
  cpu_of = λ (e : Entry). e.cpu;
  cpus_of = λ (run : Run). run.setup.scenario.shape.cpus;
  entries_of = λ (run : Run). run.entries;
  with_entries = λ (run : Run) (es : List Entry). record run { entries = es };
  no_run = record { setup = record { scenario = no_scenario; order = Free; limit = 0 }; entries = [] };
  same_entries = λ run. refl;
  given_entries = λ run es. refl;
  last_entries = λ run es fs. refl;
  same_cpus = λ run es. refl;
}
