use Rattle.std.proofs.Common.{◌≡◌, ◌++◌, [], ◌∷◌, length, ◌∙◌, ap, sym, arith}
use Rattle.std.proofs.lemmas.Grind.{common_steps}
use Rattle.std.proofs.lemmas.List.FromFn.{length-map-range_with_len, map-range_with_len_more}
use Rattle.aps_model.specs.Partition.{row_or_none}
use Rattle.aps_window.specs.Window.{total_of}
use Rattle.aps_core.specs.Counts.{part_in}
use Rattle.aps_core.specs.Part.{part_of}
use Rattle.aps_core.proofs.standing.Standing.fill.Goals as goal

pub push-requires-clause-room : goal.push-requires-clause-room
push-requires-clause-room c =
    let count = length-map-range_with_len (part_in c.args.shape.now c.args.rows.now c.args.window.now) 0 c.loop-p.p in
    omega (arith, ap length c.loop-p.invariant, count, c.loop-p-test.true, c.requires.few_rows)

pub loop-p-preserved : goal.loop-p-preserved
loop-p-preserved c =
    let stands = part_in c.args.shape.now c.args.rows.now c.args.window.now in
    let row : c.index-rows-p.result ≡ row_or_none c.args.rows.now c.loop-p.p = grind (arith, common_steps) in
    let part : c.part_by.result ≡ stands c.loop-p.p =
    c.part_by.ensures.same
    ∙ (λ i. part_of c.args.shape.now (row i) (total_of c.args.window.now (c.at.ensures i)).billed (total_of c.args.window.now (c.at.ensures i)).critical) in
    c.push.ensures ∙ (λ i. c.loop-p.invariant i ++ part i ∷ []) ∙ sym (map-range_with_len_more stands 0 c.loop-p.p c.loop-p.p (omega arith))
