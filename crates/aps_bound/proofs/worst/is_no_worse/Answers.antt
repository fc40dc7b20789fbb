use Rattle.std.proofs.Common.{◌<◌, length, ap, ◌∙◌, arith}
use Rattle.aps_model.specs.declared.audit.Audit.{Audit}
use Rattle.aps_model.specs.Limits.{most_partitions}
use Rattle.aps_bound.specs.Worst.{with_partition}
use Rattle.aps_bound.proofs.Growth.{partitions-more}
use Rattle.aps_bound.proofs.Limiting.{within_stays}
use Rattle.aps_bound.proofs.worst.is_no_worse.Goals as goal

pub loop-p-preserved : goal.loop-p-preserved
loop-p-preserved c =
    let h = c.args.history.now in
    let audit = c.args._audit.now in
    let a = c.args._a in
    let p = c.loop-p.p in
    let below : p < length h.rows = omega (arith, c.loop-p-test.true, ap length c.rows-p-end.ensures.same) in
    let few : p < most_partitions = omega (arith, below, c.rows-p-end.ensures.keeps.few_rows) in
    partitions-more h audit a p
    ∙ ap (λ (x : Audit). with_partition h x a p) c.loop-p.invariant
    ∙ within_stays h audit a p c.args.usage.now c.args.limits.now below few c.requires.usage c.requires.limits (c.is_within.ensures c.if-not-is_within.false)
