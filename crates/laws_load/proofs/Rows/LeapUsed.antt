-- Two processors, and a window that begins half a tick late. A has 63 parts of 1,000, which allow 100,800 ns. It uses
-- 400,000 ns, of which 50,001 are free: beyond its budget, its free time and one tick for each processor still 49,199 ns,
-- where a leap is 49,999 ns.
use lib.Chars.{codes}
use Rattle.std.proofs.Common.{◌≡◌, ◌*◌, [], ◌∷◌, refl, false}
use Rattle.aps_model.specs.declared.program.Op.TheVariants.{Exit, Forever, Run, Sleep}
use Rattle.aps_model.specs.declared.scenario.Policy.TheVariants.{Fifo}
use Rattle.aps_model.specs.declared.shape.Bankruptcy.TheVariants.{Basic}
use Rattle.aps_model.specs.declared.shape.Free.TheVariants.{Priority as ByPriority}
use Rattle.aps_model.specs.After.{after}
use Rattle.aps_model.specs.Legal.{fixed_run}
use Rattle.aps_model.specs.Loaded.{finished_ticks}
use Rattle.aps_model.specs.Scenario.{Scenario}
use Rattle.aps_model.specs.Shape.{whole}
use Rattle.aps_model.specs.Usage.{critical_used}
use Rattle.laws_load.specs.AnyMoment.{leap, used_between}
use Rattle.laws_bounds.specs.FreeTime.{free_used}

abbrev pub scenario : Scenario
scenario = record {
  shape = record { parts = 1000; cpus = 2; tick = 100000; window = 8; ticks = 9; call_ns = 1; free = ByPriority; limit = false; bankruptcy = Basic };
  partitions =
      record { name = codes "System"; parent = 0; budget = 937; critical = 0; max = 1000 }
      ∷ record { name = codes "A"; parent = 0; budget = 63; critical = 0; max = 1000 }
      ∷ [];
  channels = [];
  threads =
      record { name = codes "h0"; partition = 0; priority = 20; policy = Fifo; critical = false; program = Run 50000 ∷ Exit ∷ [] }
      ∷ record { name = codes "h1"; partition = 0; priority = 20; policy = Fifo; critical = false; program = Run 50000 ∷ Exit ∷ [] }
      ∷ record { name = codes "p0"; partition = 1; priority = 10; policy = Fifo; critical = false; program = Run 49999 ∷ Sleep 600000 ∷ Forever ∷ [] }
      ∷ record { name = codes "p1"; partition = 1; priority = 10; policy = Fifo; critical = false; program = Run 49999 ∷ Sleep 600000 ∷ Forever ∷ [] }
      ∷ [];
  commands = [];
}

nine : finished_ticks scenario.shape (fixed_run scenario 100) ≡ 9
nine = refl

spent : (used_between (fixed_run scenario 100) 50001 850001 1 ≡ 400000) × (critical_used 1 (fixed_run scenario 100) 1 50001 850001 ≡ 0) × (63 * whole scenario.shape ≡ 1000 * 100800)
spent = (refl, refl, refl)

freely : free_used scenario 1 (fixed_run scenario 100) 1 50001 850001 ≡ 50001
unfolding after
freely = refl

leaps : leap 2 100000 50001 ≡ 49999
leaps = refl
