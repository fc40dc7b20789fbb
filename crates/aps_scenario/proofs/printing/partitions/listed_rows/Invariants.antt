use Rattle.std.proofs.Common.{◌≡◌, ◌+◌, ◌<◌, ◌++◌, take, drop, length}
use Rattle.aps_model.specs.Valid.{IsTree}
use Rattle.aps_scenario.specs.PrintedTree.{rows_listed, listed_rows}
use Rattle.aps_scenario.proofs.printing.partitions.listed_rows.Given as goal

abbrev pub invariant-loop-child : goal.invariant-loop-child
invariant-loop-child l = record {
  count : length l.listed.items ≡ length l.scenario.partitions;
  within : l.child < length l.scenario.partitions;
  tree : IsTree l.scenario.shape.parts (take (l.child + 1) l.listed.items);
  rest : rows_listed l.child (take (l.child + 1) l.listed.items) ++ drop (l.child + 1) l.listed.items ≡ listed_rows l.scenario.partitions;
}

abbrev pub decreases-loop-child : goal.decreases-loop-child
decreases-loop-child l = l.child
