-- System has 20 parts of 100 and no thread, so no tick is steady. A and B have 40 each and take turns; each pick finds the
-- one that it picks in budget, so all ticks are served: nobody has free time, and nobody stands idle.
use lib.Chars.{codes}
use Rattle.std.proofs.Common.{◌≡◌, ◌*◌, List, [], ◌∷◌, ◌++◌, refl, false}
use Rattle.aps_model.specs.declared.entry.Entry.{Entry}
use Rattle.aps_model.specs.declared.program.Op.TheVariants.{Forever}
use Rattle.aps_model.specs.declared.scenario.Policy.TheVariants.{Fifo}
use Rattle.aps_model.specs.declared.shape.Bankruptcy.TheVariants.{Basic}
use Rattle.aps_model.specs.declared.shape.Free.TheVariants.{Priority as ByPriority}
use Rattle.aps_model.specs.After.{after}
use Rattle.aps_model.specs.Legal.{fixed_run}
use Rattle.aps_model.specs.Loaded.{finished_ticks, is_steady}
use Rattle.aps_model.specs.Scenario.{Scenario}
use Rattle.aps_model.specs.Shape.{whole}
use Rattle.aps_model.specs.Usage.{used}
use Rattle.laws_bounds.specs.FreeTime.{free_used, idle_time}
use Rattle.laws_bounds.specs.Kinds.{Kind, Kind.funded, Kind.idle, kind_of}

abbrev pub scenario : Scenario
scenario = record {
  shape = record { parts = 100; cpus = 1; tick = 100000; window = 8; ticks = 9; call_ns = 1000; free = ByPriority; limit = false; bankruptcy = Basic };
  partitions =
      record { name = codes "System"; parent = 0; budget = 20; critical = 0; max = 100 }
      ∷ record { name = codes "A"; parent = 0; budget = 40; critical = 0; max = 100 }
      ∷ record { name = codes "B"; parent = 0; budget = 40; critical = 0; max = 100 }
      ∷ [];
  channels = [];
  threads =
      record { name = codes "a"; partition = 1; priority = 20; policy = Fifo; critical = false; program = Forever ∷ [] }
      ∷ record { name = codes "b"; partition = 2; priority = 20; policy = Fifo; critical = false; program = Forever ∷ [] }
      ∷ [];
  commands = [];
}

unsteady : (finished_ticks scenario.shape (fixed_run scenario 100) ≡ 9) × (is_steady 100000 (fixed_run scenario 100) [] 0 1 ≡ false)
unsteady = (refl, refl)

-- the kinds of these picks
abbrev kinds : List Entry → List Entry → List Kind
kinds before [] = []
kinds before (e ∷ es) = kind_of scenario before e ∷ kinds (before ++ e ∷ []) es

-- ten entries, the last of which stands at the horizon and picks nobody
served : kinds [] (fixed_run scenario 100) ≡ funded ∷ funded ∷ funded ∷ funded ∷ funded ∷ funded ∷ funded ∷ funded ∷ funded ∷ idle ∷ []
unfolding after
served = refl

spent : (used 100000 (fixed_run scenario 100) 1 0 8 ≡ 400000) × (used 100000 (fixed_run scenario 100) 2 0 8 ≡ 400000) × (40 * whole scenario.shape ≡ 100 * 320000)
spent = (refl, refl, refl)

full : (free_used scenario 100000 (fixed_run scenario 100) 1 0 8 ≡ 0) × (free_used scenario 100000 (fixed_run scenario 100) 2 0 8 ≡ 0) × (idle_time 100000 (fixed_run scenario 100) 0 8 ≡ 0)
unfolding after
full = (refl, refl, refl)
