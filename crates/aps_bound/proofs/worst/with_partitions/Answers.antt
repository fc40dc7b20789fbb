use Rattle.std.proofs.Common.{◌∙◌, sym, ap}
use Rattle.aps_model.specs.declared.audit.Audit.{Audit}
use Rattle.aps_bound.specs.Worst.{with_partition}
use Rattle.aps_bound.proofs.Growth.{partitions-more}
use Rattle.aps_bound.proofs.worst.with_partitions.Goals as goal

pub loop-p-preserved : goal.loop-p-preserved
loop-p-preserved c =
    c.with_partition.ensures ∙ ap (λ (x : Audit). with_partition c.args.history.now x c.args.a c.loop-p.p) c.loop-p.invariant
    ∙ sym (partitions-more c.args.history.now c.args.audit.now c.args.a c.loop-p.p)
