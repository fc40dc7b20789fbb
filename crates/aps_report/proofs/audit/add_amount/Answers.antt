use Rattle.std.proofs.Common.{append_assoc}
use Rattle.aps_report.proofs.audit.add_amount.Goals as goal

pub returns : goal.returns
returns c = rw (← c.index-partition.ensures.same) (simp append_assoc c.write.ensures.bytes)
