-- A partition by what it used in the window.
use Rattle.std.specs.Prelude.{ℕ}
use Rattle.aps_model.specs.declared.merit.PartFacts.{PartFacts}
use Rattle.aps_model.specs.declared.partition.PartitionRow.{PartitionRow}
use Rattle.aps_model.specs.declared.shape.Shape.{Shape}
use Rattle.aps_model.specs.Budget.{has_standing, in_budget, is_shut}

-- the partition that has this row, used so much, and of that so much as critical time
abbrev pub part_of : Shape → PartitionRow → ℕ → ℕ → PartFacts
part_of shape row spent critical = record {
  funded = in_budget shape spent row.budget;
  standing = has_standing critical row.critical;
  shut = is_shut shape spent row.max;
  used = spent;
  budget = row.budget;
}
