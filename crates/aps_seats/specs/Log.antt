-- How the run of a core is read: its processors, and its entries, to which each step appends at most one.
use Rattle.std.specs.Prelude.{◌≡◌, ℕ, false, List, []}
use Rattle.aps_model.specs.declared.shape.Bankruptcy.TheVariants.{Basic}
use Rattle.aps_model.specs.declared.shape.Free.TheVariants.{Priority}
use Rattle.aps_model.specs.declared.shape.Shape.{Shape}
use Rattle.aps_model.specs.Limits.{percent}
use Rattle.aps_model.specs.Scenario.{Scenario}

-- the type of an entry, its processor, how many processors there are, the entries, the run with other entries, and a run of
-- which nothing is said. The other fields are laws: the entries are those that a run is given, and nothing else changes
pub record Log (Run : Type 0) : Type 1 where
  pub Entry : Type 0
  pub cpu_of : Entry → ℕ
  pub cpus_of : Run → ℕ
  pub entries_of : Run → List Entry
  pub with_entries : Run → List Entry → Run
  pub no_run : Run
  pub same_entries : (run : Run) → with_entries run (entries_of run) ≡ run
  pub given_entries : (run : Run) (es : List Entry) → entries_of (with_entries run es) ≡ es
  pub last_entries : (run : Run) (es fs : List Entry) → with_entries (with_entries run es) fs ≡ with_entries run fs
  pub same_cpus : (run : Run) (es : List Entry) → cpus_of (with_entries run es) ≡ cpus_of run

-- a scenario of which nothing is said
abbrev pub no_scenario : Scenario
no_scenario = record { shape = no_shape; partitions = []; channels = []; threads = []; commands = [] }
  where
    no_shape : Shape
    no_shape = record {
      parts = percent;
      cpus = 0;
      tick = 0;
      window = 0;
      ticks = 0;
      call_ns = 0;
      free = Priority;
      limit = false;
      bankruptcy = Basic;
    }
