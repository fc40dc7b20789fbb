use Rattle.std.proofs.Common.{◌≡◌, ◌∙◌, ◌-◌, ◌≤◌, length, All, List, sym, subst, arith, drop}
use Rattle.std.proofs.lemmas.List.Elements.{All-take, All-drop}
use Rattle.aps_model.specs.declared.partition.PartitionRow.{PartitionRow}
use Rattle.aps_model.specs.Valid.{IsTree}
use Rattle.aps_scenario.specs.PrintedTree.{listed_rows}
use Rattle.aps_scenario.proofs.PrintedListing.{listed-parents, listed-criticals, HasParent, HasShortCritical}
use Rattle.aps_scenario.proofs.printing.partitions.partitions_value.Goals as goal

pub rows_value-requires-clause-parents : goal.rows_value-requires-clause-parents
rows_value-requires-clause-parents c =
    let rows = c.args.scenario.now.partitions in
    let tree : IsTree c.args.scenario.now.shape.parts rows = c.partitions.ensures.valid.tree in
    let some = tree.some in
    let bound : length rows ≤ length c.partitions.result.now = subst (λ (xs : List PartitionRow). length rows ≤ length xs) (sym c.partitions.ensures.same) (omega arith) in
    let listed : c.deref.result.now ≡ listed_rows rows = c.deref.ensures.value ∙ c.in_ok-listed.ensures in
    let all = listed-parents c.args.scenario.now.shape.parts (length c.partitions.result.now) (length rows - 1) rows (omega arith) (omega arith) tree in
    All-take (HasParent (length c.partitions.result.now)) (length c.deref.result.now - 1) (drop 1 c.deref.result.now)
    (All-drop (HasParent (length c.partitions.result.now)) 1 c.deref.result.now (subst (All (HasParent (length c.partitions.result.now))) (sym listed) all))

pub rows_value-requires-clause-criticals : goal.rows_value-requires-clause-criticals
rows_value-requires-clause-criticals c =
    let rows = c.args.scenario.now.partitions in
    let tree : IsTree c.args.scenario.now.shape.parts rows = c.partitions.ensures.valid.tree in
    let some = tree.some in
    let listed : c.deref.result.now ≡ listed_rows rows = c.deref.ensures.value ∙ c.in_ok-listed.ensures in
    let all = listed-criticals c.args.scenario.now.shape.parts (length rows - 1) rows (omega arith) tree in
    All-take HasShortCritical (length c.deref.result.now - 1) (drop 1 c.deref.result.now)
    (All-drop HasShortCritical 1 c.deref.result.now (subst (All HasShortCritical) (sym listed) all))
