use Rattle.std.proofs.Common.{ℕ, false, ◌∙◌, subst, arith}
use Rattle.aps_timer.proofs.Kept.{IsSet, others_same, placed_still, stands_nowhere}
use Rattle.aps_timer.proofs.buckets.Buckets.take.Goals as goal
use Rattle.aps_timer.specs.Buckets.{further_line}

pub returns-clause-here : goal.returns-clause-here
returns-clause-here c =
    let before = c.args.self.now in
    let between = c.place.new.lines.items in
    stands_nowhere before.lines.items between c.place-2.new.lines.items before.begin before.further c.args.x c.args.until (omega arith)
    (subst (λ (line : ℕ). IsSet before.lines.items between line c.args.x false) c.line_until.ensures c.place.ensures.stands)
    c.place-2.ensures.stands c.requires

pub returns-clause-others : goal.returns-clause-others
returns-clause-others c y other few apart =
    let before = c.args.self.now in
    let between = c.place.new.lines.items in
    placed_still before.lines.items c.place-2.new.lines.items before.begin before.further before.further y other
    (λ l.
    others_same between c.place-2.new.lines.items further_line c.args.x y false few apart c.place-2.ensures.stands l
    ∙ others_same before.lines.items between c.line_until.result c.args.x y false few apart c.place.ensures.stands l) (omega arith)
