use Rattle.std.proofs.Common.{sym}
use Rattle.toml.specs.View.{table_view}
use Rattle.aps_scenario.proofs.ChannelNames.{channels_at-ok}
use Rattle.aps_scenario.proofs.Shapes.{shape_at-ok}
use Rattle.aps_scenario.proofs.ThreadRows.{threads_at-ok}
use Rattle.aps_scenario.proofs.Trees.{partitions_at-ok}
use Rattle.aps_scenario.proofs.Validity.{IsScenario-from_parts}
use Rattle.aps_scenario.proofs.reading.scenario_at.Goals as goal

pub threads_at-requires-clause-some_partition : goal.threads_at-requires-clause-some_partition
threads_at-requires-clause-some_partition c =
    let tree = partitions_at-ok c.in_ok-shape.shape.parts (table_view c.args.table.now) c.in_ok-partitions.partitions.items c.in_ok-partitions.ensures in
    rw c.deref-2.ensures.value tree.some

pub threads_at-requires-clause-few_partitions : goal.threads_at-requires-clause-few_partitions
threads_at-requires-clause-few_partitions c =
    let tree = partitions_at-ok c.in_ok-shape.shape.parts (table_view c.args.table.now) c.in_ok-partitions.partitions.items c.in_ok-partitions.ensures in
    rw c.deref-2.ensures.value tree.few

pub threads_at-requires-clause-few_channels : goal.threads_at-requires-clause-few_channels
threads_at-requires-clause-few_channels c =
    let names = channels_at-ok (table_view c.args.table.now) c.in_ok-channels.channels.items c.in_ok-channels.ensures in
    rw c.deref-3.ensures.value names.few

pub commands_at-requires-clause-some_tick : goal.commands_at-requires-clause-some_tick
commands_at-requires-clause-some_tick c =
    let sizes = shape_at-ok (table_view c.args.table.now) c.in_ok-shape.shape (sym c.in_ok-shape.ensures) in sizes.some_tick

pub commands_at-requires-clause-few_threads : goal.commands_at-requires-clause-few_threads
commands_at-requires-clause-few_threads c =
    let tree = partitions_at-ok c.in_ok-shape.shape.parts (table_view c.args.table.now) c.in_ok-partitions.partitions.items c.in_ok-partitions.ensures in
    let rows = threads_at-ok c.in_ok-partitions.partitions.items tree.some c.in_ok-channels.channels.items c.in_ok-joinable.joinable.items
    (table_view c.args.table.now) c.in_ok-threads.threads.items
    (rw (c.deref-2.ensures.value, c.deref-3.ensures.value, c.deref-4.ensures.value) at c.in_ok-threads.ensures) in
    rw c.deref-5.ensures.value rows.few

pub new-requires : goal.new-requires
new-requires c =
    let joinable = rw c.deref.ensures.value at c.in_ok-joinable.ensures in
    IsScenario-from_parts (table_view c.args.table.now) c.in_ok-shape.shape c.in_ok-partitions.partitions.items c.in_ok-channels.channels.items
    c.in_ok-threads.threads.items c.in_ok-commands.commands.items (sym c.in_ok-shape.ensures) c.in_ok-partitions.ensures c.in_ok-channels.ensures
    (rw (c.deref-2.ensures.value, c.deref-3.ensures.value, c.deref-4.ensures.value, joinable) at c.in_ok-threads.ensures)
    (rw c.deref-5.ensures.value at c.in_ok-commands.ensures)
