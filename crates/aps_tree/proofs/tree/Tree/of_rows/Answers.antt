use Rattle.std.proofs.Common.{◌≡◌, ◌∙◌}
use Rattle.std.proofs.lemmas.List.{get_or_default}
use Rattle.aps_model.specs.Partition.{no_row, partition_named, row_or_none}
use Rattle.aps_tree.proofs.Distinct.{free_before}
use Rattle.aps_tree.proofs.tree.Tree.of_rows.Goals as goal

pub push-requires-clause-free : goal.push-requires-clause-free
push-requires-clause-free c =
    let rows = c.args.rows.now in
    let i = c.loop-row.row-index in
    let row : c.row-item.result ≡ row_or_none rows i = c.row-item.is ∙ get_or_default rows i c.row-item.result no_row c.loop-row-test.true in
    (λ j. partition_named (c.loop-row.invariant j) (row j).name) ∙ free_before rows i c.loop-row-test.true c.requires.named.names
