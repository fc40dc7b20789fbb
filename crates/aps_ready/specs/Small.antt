use Rattle.std.specs.Prelude.{◌≤◌}
use Rattle.aps_model.specs.declared.merit.PartFacts.{PartFacts}
use Rattle.aps_model.specs.Limits.{most_used, thousandths}

-- the numbers of a partition are small enough to be multiplied: no product of a used time and a budget leaves 64 bits
pub record IsSmall (part : PartFacts) : Type 0 where
  pub used : part.used ≤ most_used
  pub budget : part.budget ≤ thousandths
