use Rattle.std.proofs.Common.{◌≡◌, ◌∙◌, ap, sym, subst, arith, replicate, List}
use Rattle.aps_ready.specs.declared.entrant.Entrant.{Entrant}
use Rattle.aps_ready.specs.Lists.{AreLists, node_count}
use Rattle.aps_ready.proofs.ListLaws.{lists_empty}
use Rattle.aps_ready.proofs.lists.Lists.new.Goals as goal

pub invariant_of-result : goal.invariant_of-result
invariant_of-result c =
    let forth = c.forth in
    let back = c.back in
    let ends_forth : forth.node ≡ node_count = omega (arith, c.forth-test.false, forth.auto.node-end) in
    let ends_back : back.node ≡ node_count = omega (arith, c.back-test.false, back.auto.node-end) in
    subst (λ (row : List Entrant). AreLists row forth.after.items back.before.items c.in_ok-table.table)
    (sym (c.in_ok-row.ensures.items_if_clones_equal (λ y h. h) ∙ ap (replicate c.args.threads) c.vacant.ensures))
    (lists_empty c.args.threads forth.after.items back.before.items c.in_ok-table.table
    (forth.invariant.size ∙ ends_forth) (back.invariant.size ∙ ends_back)
    (λ n below. forth.invariant.own n (omega (arith, below, ends_forth))) (λ n below. back.invariant.own n (omega (arith, below, ends_back)))
    c.in_ok-table.ensures)
