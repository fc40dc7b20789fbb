use Rattle.std.proofs.Common.{◌≡◌, length, length-set, ◌∙◌, ap, sym, set, List, inl, inr, arith}
use Rattle.std.proofs.lemmas.Bool.{cases_eq}
use Rattle.std.proofs.lemmas.Grind.{common_steps}
use Rattle.std.proofs.lemmas.List.{get_or-set_same, get_or-set_other}
use Rattle.std.proofs.lemmas.List.FromFn.{fill_by_all}
use Rattle.aps_model.specs.declared.merit.PartFacts.{PartFacts}
use Rattle.aps_model.specs.Budget.{no_part, part_at}
use Rattle.aps_model.specs.Partition.{row_or_none}
use Rattle.aps_core.specs.Counts.{part_in}
use Rattle.aps_core.specs.Part.{part_of}
use Rattle.aps_window.specs.Window.{total_of}
use Rattle.aps_core.proofs.standing.Standing.fill_again.Goals as goal

pub loop-p-preserved : goal.loop-p-preserved
loop-p-preserved c =
    let stands = part_in c.args.shape.now c.args.rows.now c.args.window.now in
    let before = c.loop-p.invariant in
    let p = c.loop-p.p in
    let row : c.index-rows-p.result ≡ row_or_none c.args.rows.now p = grind (arith, common_steps) in
    let part : c.part_by.result ≡ stands p =
    c.part_by.ensures.same
    ∙ (λ i. part_of c.args.shape.now (row i) (total_of c.args.window.now (c.at-at.ensures i)).billed (total_of c.args.window.now (c.at-at.ensures i)).critical) in
    let placed : c.set.new.self ≡ set c.loop-p.self p c.part_by.result = c.set.ensures ∙ (λ i. set c.loop-p.self (c.at-at.ensures i) c.part_by.result) in
    record {
      count = ap length placed ∙ length-set c.loop-p.self p c.part_by.result ∙ before.count;
      filled = λ q below. elim (cases_eq q p) [
        | inl same ↦
            ap (part_at c.set.new.self) same
            ∙ ap (λ (l : List PartFacts). part_at l p) placed
            ∙ get_or-set_same c.loop-p.self p c.part_by.result no_part (omega (arith, before.count, c.loop-p-test.true))
            ∙ part
            ∙ ap stands (sym same)
        | inr other ↦
            ap (λ (l : List PartFacts). part_at l q) placed
            ∙ get_or-set_other c.loop-p.self p q c.part_by.result no_part other
            ∙ before.filled q (omega (arith, below, other))
      ];
    }

pub returns : goal.returns
returns c =
    let all = c.loop-p.invariant in
    fill_by_all (part_in c.args.shape.now c.args.rows.now c.args.window.now) c.loop-p.self (length c.args.rows.now) no_part all.count
    (λ q inside. all.filled q (omega (arith, inside, c.loop-p-test.false)))
