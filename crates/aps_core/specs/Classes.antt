-- Which groups of threads are of class 1.
use Rattle.std.specs.Prelude.{◌≡◌, ℕ, ◌<◌, ◌%◌, nat_lt, List}
use Rattle.aps_model.specs.declared.merit.PartFacts.{PartFacts}
use Rattle.aps_model.specs.Budget.{part_at}
use Rattle.aps_model.specs.Limits.{last_partition, most_partitions}
use Rattle.aps_levels.specs.Bits.{set_has}
use Rattle.aps_ready.specs.Gates.{is_first}
use Rattle.aps_core.specs.declared.classes.Classes.{Classes}
use Rattle.aps_ready.specs.Group.{group_count}

-- the group g has the threads of partition g, and from 32 on the critical ones of partition g - 32
abbrev pub AreClasses : List PartFacts → Classes → Type 0
AreClasses parts classes =
    (g : ℕ) → g < group_count → set_has classes.first g ≡ is_first (part_at parts (g % most_partitions)) (nat_lt last_partition g)
