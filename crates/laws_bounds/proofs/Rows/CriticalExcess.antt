-- A critical thread: a window of 8 ticks exceeds its budget by its critical time and 96 hundredths of a tick, and its
-- critical budget by 96 hundredths of a tick.
use lib.Chars.{codes}
use Rattle.std.proofs.Common.{◌≡◌, ◌*◌, [], ◌∷◌, refl, true, false}
use Rattle.std.specs.Prelude.{Some}
use Rattle.aps_model.specs.declared.program.Op.TheVariants.{Forever}
use Rattle.aps_model.specs.declared.scenario.Policy.TheVariants.{Fifo}
use Rattle.aps_model.specs.declared.shape.Bankruptcy.TheVariants.{Basic}
use Rattle.aps_model.specs.declared.shape.Free.TheVariants.{Priority as ByPriority}
use Rattle.aps_model.specs.After.{after}
use Rattle.aps_model.specs.Audit.{audit_of}
use Rattle.aps_model.specs.History.{History}
use Rattle.aps_model.specs.Legal.{fixed_run}
use Rattle.aps_model.specs.Loaded.{finished_ticks, is_steady}
use Rattle.aps_model.specs.Recorded.{recorded}
use Rattle.aps_model.specs.Scenario.{Scenario}
use Rattle.aps_model.specs.Shape.{whole}
use Rattle.aps_model.specs.Usage.{critical_used, used}

abbrev pub scenario : Scenario
scenario = record {
  shape = record { parts = 100; cpus = 1; tick = 100000; window = 8; ticks = 9; call_ns = 1000; free = ByPriority; limit = false; bankruptcy = Basic };
  partitions =
      record { name = codes "System"; parent = 0; budget = 87; critical = 0; max = 100 }
      ∷ record { name = codes "A"; parent = 0; budget = 13; critical = 204000; max = 100 }
      ∷ [];
  channels = [];
  threads =
      record { name = codes "s"; partition = 0; priority = 10; policy = Fifo; critical = false; program = Forever ∷ [] }
      ∷ record { name = codes "a"; partition = 1; priority = 20; policy = Fifo; critical = true; program = Forever ∷ [] }
      ∷ [];
  commands = [];
}

history : History
history = recorded scenario 100 (record { entries = 100; replies = 0; changes = 0 }) (fixed_run scenario 100)

steady : (finished_ticks scenario.shape (fixed_run scenario 100) ≡ 9) × (is_steady 100000 (fixed_run scenario 100) [] 0 9 ≡ true)
steady = (refl, refl)

-- 500,000 ns, of which 300,000 are critical, where 13 parts allow 104,000
spent : (used 100000 (fixed_run scenario 100) 1 0 8 ≡ 500000) × (critical_used 100000 (fixed_run scenario 100) 1 0 8 ≡ 300000) × (13 * whole scenario.shape ≡ 100 * 104000)
spent = (refl, refl, refl)

worst : (audit_of history).worst_over ≡ Some (record { amount = 396000; partition = 1; window = 0 })
unfolding history after
worst = refl

critical : (audit_of history).critical_worst ≡ Some (record { amount = 96000; partition = 1; window = 0 })
unfolding history after
critical = refl
