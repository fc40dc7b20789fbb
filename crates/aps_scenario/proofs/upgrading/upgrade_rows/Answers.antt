use Rattle.std.proofs.Common.{◌≡◌, ◌<◌, length, get_or, slice_set, ap, ◌∙◌, arith}
use Rattle.aps_model.specs.declared.partition.PartitionRow.{PartitionRow}
use Rattle.aps_model.specs.Upgrade.{row_times_ten}
use Rattle.aps_scenario.proofs.Upgrades.{changed-here, changed-next}
use Rattle.aps_scenario.proofs.upgrading.upgrade_rows.Goals as goal

pub loop-i-preserved : goal.loop-i-preserved
loop-i-preserved c =
    let within : c.loop-i.i < length c.args.rows.now.items = omega (arith, c.loop-i-test.true, c.len-i-end.ensures) in
    let old : c.index.result.now ≡ get_or c.args.rows.now.items c.loop-i.i c.index.result.now =
    c.index.ensures ∙ changed-here row_times_ten c.index.result.now c.args.rows.now.items c.loop-i.rows.items c.loop-i.i c.loop-i.invariant within in
    ap (λ (row : PartitionRow). slice_set c.loop-i.rows.items c.loop-i.i row) (c.upgraded_row.ensures ∙ ap row_times_ten old)
    ∙ changed-next row_times_ten c.index.result.now c.args.rows.now.items c.loop-i.rows.items c.loop-i.i c.loop-i.invariant within
