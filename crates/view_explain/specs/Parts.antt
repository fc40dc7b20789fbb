-- How partitions stand by what they used.
use Rattle.std.specs.Prelude.{ℕ, List, slice_index}
use Rattle.aps_model.specs.declared.merit.PartFacts.{PartFacts}
use Rattle.aps_model.specs.declared.partition.PartitionRow.{PartitionRow}
use Rattle.aps_model.specs.declared.shape.Shape.{Shape}
use Rattle.aps_model.specs.declared.usage.Usage.{Usage}
use Rattle.aps_model.specs.Budget.{has_standing, in_budget, is_shut}
use Rattle.aps_model.specs.Partition.{row_or_none}

-- partition p, which has this row
abbrev pub part_by_row : Shape → PartitionRow → Usage → ℕ → PartFacts
part_by_row shape row usage p = record {
  funded = in_budget shape (slice_index usage.used p) row.budget;
  standing = has_standing (slice_index usage.critical p) row.critical;
  shut = is_shut shape (slice_index usage.used p) row.max;
  used = slice_index usage.used p;
  budget = row.budget;
}

abbrev pub part_by : Shape → List PartitionRow → Usage → ℕ → PartFacts
part_by shape rows usage p = part_by_row shape (row_or_none rows p) usage p
