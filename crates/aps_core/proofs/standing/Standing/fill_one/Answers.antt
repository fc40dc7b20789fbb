use Rattle.std.proofs.Common.{◌≡◌, length, ◌∙◌, arith}
use Rattle.std.proofs.lemmas.Grind.{common_steps}
use Rattle.std.proofs.lemmas.List.FromFn.{fill_by_all}
use Rattle.aps_model.specs.Budget.{no_part}
use Rattle.aps_model.specs.Partition.{row_or_none}
use Rattle.aps_core.specs.Counts.{part_in}
use Rattle.aps_core.specs.Part.{part_of}
use Rattle.aps_window.specs.Window.{total_of}
use Rattle.aps_core.proofs.StandsStay.{another, one_anew}
use Rattle.aps_core.proofs.standing.Standing.fill_one.Goals as goal

pub returns-then-index-rows : goal.returns-then-index-rows
returns-then-index-rows c =
    let at = c.index-index.ensures.same in
    let row : c.index-rows-index.result ≡ row_or_none c.args.rows.now c.args.p = grind (arith, common_steps) in
    let part : c.part_by.result ≡ part_in c.args.shape.now c.args.rows.now c.args.window.now c.args.p =
    c.part_by.ensures.same ∙ (λ i. part_of c.args.shape.now (row i) (total_of c.args.window.now c.args.p).billed (total_of c.args.window.now c.args.p).critical) in
    c.set.ensures ∙ one_anew c.args.p c.args.shape.now c.args.rows.now c.args.window.now c.args.self.now c.part_by.result c.requires.others (omega (arith, at, c.if-index-rows.true)) part

pub returns-else-index-rows : goal.returns-else-index-rows
returns-else-index-rows c =
    let at = c.index-index.ensures.same in
    fill_by_all (part_in c.args.shape.now c.args.rows.now c.args.window.now) c.args.self.now (length c.args.rows.now) no_part c.requires.others.count
    (λ q inside. c.requires.others.each q (another c.args.p q (λ e. omega (arith, e, inside, at, c.if-index-rows.false))) inside)
