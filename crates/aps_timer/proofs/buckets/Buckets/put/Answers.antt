use Rattle.std.proofs.Common.{inl, inr, ℕ, ◌%◌, true, subst, arith}
use Rattle.aps_timer.specs.Buckets.{bucket_count, bucket_of, further_line}
use Rattle.aps_timer.proofs.Kept.{IsSet, others_same, placed_still, stands_alone}
use Rattle.aps_timer.proofs.buckets.Buckets.put.Goals as goal

pub returns-then-bucket_of-lt-BUCKETS-clause-here : goal.returns-then-bucket_of-lt-BUCKETS-clause-here
returns-then-bucket_of-lt-BUCKETS-clause-here c =
    let before = c.args.self.now in
    let after = c.place.new.lines.items in
    inl (record {
      from = omega arith;
      before = omega arith;
      stands = stands_alone before.lines.items after (bucket_of c.args.until % bucket_count) c.args.x (omega arith)
          (subst (λ (line : ℕ). IsSet before.lines.items after line c.args.x true) c.line_until.ensures c.place.ensures.stands) c.requires;
    })

pub returns-then-bucket_of-lt-BUCKETS-clause-others : goal.returns-then-bucket_of-lt-BUCKETS-clause-others
returns-then-bucket_of-lt-BUCKETS-clause-others c y other few apart =
    let before = c.args.self.now in
    placed_still before.lines.items c.place.new.lines.items before.begin before.further before.further y other
    (others_same before.lines.items c.place.new.lines.items c.line_until.result c.args.x y true few apart c.place.ensures.stands) (omega arith)

pub returns-else-self-until-clause-here : goal.returns-else-self-until-clause-here
returns-else-self-until-clause-here c =
    let before = c.args.self.now in
    let after = c.place-else-self-until.new.lines.items in
    inr (record {
      from = omega arith;
      stands = stands_alone before.lines.items after further_line c.args.x (omega arith) c.place-else-self-until.ensures.stands c.requires;
    })

pub returns-else-self-until-clause-others : goal.returns-else-self-until-clause-others
returns-else-self-until-clause-others c y other few apart =
    let before = c.args.self.now in
    let after = c.place-else-self-until.new.lines.items in
    placed_still before.lines.items after before.begin before.further c.min-self.result y other
    (others_same before.lines.items after further_line c.args.x y true few apart c.place-else-self-until.ensures.stands) (omega arith)
