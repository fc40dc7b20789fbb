-- How the partitions stand, kept from step to step.
use Rattle.std.specs.Prelude.{◌≡◌, ◌≢◌, ℕ, ◌<◌, ◌≤◌, List, length, All, Option, Some}
use Rattle.aps_model.specs.declared.merit.PartFacts.{PartFacts}
use Rattle.aps_model.specs.declared.partition.PartitionRow.{PartitionRow}
use Rattle.aps_model.specs.declared.shape.Shape.{Shape}
use Rattle.aps_model.specs.Budget.{part_at}
use Rattle.aps_model.specs.Limits.{most_partitions}
use Rattle.aps_ready.specs.declared.gates.Gates.{Gates}
use Rattle.aps_ready.specs.Gates.{AreGates}
use Rattle.aps_window.specs.Window.{Window}
use Rattle.aps_core.specs.declared.classes.Classes.{Classes}
use Rattle.aps_core.specs.Classes.{AreClasses}
use Rattle.aps_core.specs.Counts.{part_in}
use Rattle.aps_core.specs.Small.{IsSmall}

-- the gates and the classes are those of the partitions, whose numbers are small, and there is room for 32
pub record IsStanding (parts : List PartFacts) (gates : Gates) (classes : Classes) (space : ℕ) : Type 0 where
  pub opened : AreGates parts gates
  pub classed : AreClasses parts classes
  pub small : All IsSmall parts
  pub few : length parts ≤ most_partitions
  pub room : most_partitions ≤ space

-- each partition but this one, if there is one, stands by its row and its totals
pub record DoOthersStand (billed : Option ℕ) (shape : Shape) (rows : List PartitionRow)
    (window : Window) (parts : List PartFacts) : Type 0 where
  pub count : length parts ≡ length rows
  pub each : (p : ℕ) → billed ≢ Some p → p < length rows → part_at parts p ≡ part_in shape rows window p

-- what opens the gates of a partition is the same for both
pub record OpensAlike (a b : PartFacts) : Type 0 where
  pub funded : a.funded ≡ b.funded
  pub standing : a.standing ≡ b.standing
  pub shut : a.shut ≡ b.shut
  pub budget : a.budget ≡ b.budget
