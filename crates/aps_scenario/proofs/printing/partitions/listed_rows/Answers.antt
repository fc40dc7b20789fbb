use Rattle.std.proofs.Common.{◌≡◌, ◌∙◌, ◌<◌, length, arith, length-set}
use Rattle.aps_scenario.proofs.PrintedListing.{next-tree, next-rest, given_back-written, parent-within}
use Rattle.aps_scenario.proofs.printing.partitions.listed_rows.Goals as goal

pub loop-child-preserved : goal.loop-child-preserved
loop-child-preserved c =
    let v = c.loop-child.listed.items in
    let child = c.loop-child.child in
    let rows = c.args.scenario.now.partitions in
    let parts = c.args.scenario.now.shape.parts in
    let inv = c.loop-child.invariant in
    let some = c.loop-child-test.true in
    let count : length v ≡ length rows = inv.count in
    let below : child < length rows = inv.within in
    let within : child < length v = omega arith in
    let inside : c.index-parent.result < length v =
    parent-within parts v child c.index-parent.result c.index-in-loop-child.result.now some within inv.tree c.index-in-loop-child.ensures c.index-parent.ensures.same in
    let written = given_back-written v child c.index-parent.result c.index.result.now c.index-in-loop-child.result.now c.index_mut.result.now
    within inside c.index.ensures c.index-in-loop-child.ensures c.index-parent.ensures.same c.index_mut.ensures.value in
    rw written (record {
      count = length-set v _ _ ∙ inv.count;
      within = omega arith;
      tree = next-tree parts v child some within inv.tree;
      rest = next-rest parts v child some within inv.tree ∙ inv.rest;
    })
