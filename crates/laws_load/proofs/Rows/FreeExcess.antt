-- Nobody but A has work, so it uses a whole window of 8 ticks. It has 13 parts of 100, which allow 104,000 ns. What it
-- uses beyond them is free time but for 96 hundredths of a tick.
use lib.Chars.{codes}
use Rattle.std.proofs.Common.{◌≡◌, ◌*◌, [], ◌∷◌, refl, false}
use Rattle.aps_model.specs.declared.program.Op.TheVariants.{Forever}
use Rattle.aps_model.specs.declared.scenario.Policy.TheVariants.{Fifo}
use Rattle.aps_model.specs.declared.shape.Bankruptcy.TheVariants.{Basic}
use Rattle.aps_model.specs.declared.shape.Free.TheVariants.{Priority as ByPriority}
use Rattle.aps_model.specs.After.{after}
use Rattle.aps_model.specs.Legal.{fixed_run}
use Rattle.aps_model.specs.Loaded.{finished_ticks, is_steady}
use Rattle.aps_model.specs.Scenario.{Scenario}
use Rattle.aps_model.specs.Shape.{whole}
use Rattle.aps_model.specs.Usage.{critical_used, used}
use Rattle.laws_bounds.specs.FreeTime.{free_used, idle_time}

abbrev pub scenario : Scenario
scenario = record {
  shape = record { parts = 100; cpus = 1; tick = 100000; window = 8; ticks = 9; call_ns = 1000; free = ByPriority; limit = false; bankruptcy = Basic };
  partitions =
      record { name = codes "System"; parent = 0; budget = 87; critical = 0; max = 100 }
      ∷ record { name = codes "A"; parent = 0; budget = 13; critical = 0; max = 100 }
      ∷ [];
  channels = [];
  threads = record { name = codes "a"; partition = 1; priority = 20; policy = Fifo; critical = false; program = Forever ∷ [] } ∷ [];
  commands = [];
}

-- nine ticks are finished, and none is steady, for System has a budget and no candidate
unsteady : (finished_ticks scenario.shape (fixed_run scenario 100) ≡ 9) × (is_steady 100000 (fixed_run scenario 100) [] 0 1 ≡ false)
unsteady = (refl, refl)

-- 800,000 ns, of which 600,000 are free
spent : (used 100000 (fixed_run scenario 100) 1 0 8 ≡ 800000) × (critical_used 100000 (fixed_run scenario 100) 1 0 8 ≡ 0) × (idle_time 100000 (fixed_run scenario 100) 0 8 ≡ 0) × (13 * whole scenario.shape ≡ 100 * 104000)
spent = (refl, refl, refl, refl)

freely : free_used scenario 100000 (fixed_run scenario 100) 1 0 8 ≡ 600000
unfolding after
freely = refl
