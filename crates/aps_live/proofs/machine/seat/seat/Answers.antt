use Rattle.std.proofs.Common.{◌≡◌, ◌∙◌, ap, sym, true, false, Some, slice_set}
use Rattle.aps_live.specs.LiveStep.{is_waking}
use Rattle.aps_live.specs.Machine.{row_of}
use Rattle.aps_live.proofs.Rows.{row_seated, row_unready}
use Rattle.aps_live.proofs.machine.seat.seat.Goals as goal

pub returns-then-is_ready-clause-row : goal.returns-then-is_ready-clause-row
returns-then-is_ready-clause-row c =
    let ts = c.args.threads.now.items in
    let t = c.args.thread in
    let is : is_waking t.doing ≡ true = sym c.is_waking-is_ready.ensures ∙ c.if-is_ready.true in
    c.put.ensures
    ∙ ap (λ r. slice_set r c.args.x (Some (record { thread = c.args.x; facts = t.contender.facts; stamp = t.contender.stamp }))) c.requires.row
    ∙ row_seated ts c.args.x t is c.requires.number
    ∙ ap (λ x. row_of (slice_set ts x t)) (sym c.index.ensures.same)

pub returns-else-is_ready-clause-row : goal.returns-else-is_ready-clause-row
returns-else-is_ready-clause-row c =
    let ts = c.args.threads.now.items in
    let t = c.args.thread in
    let is : is_waking t.doing ≡ false = sym c.is_waking-is_ready.ensures ∙ c.if-is_ready.false in
    c.requires.row
    ∙ row_unready ts c.args.x t c.requires.out is
    ∙ ap (λ x. row_of (slice_set ts x t)) (sym c.index.ensures.same)
