use Rattle.std.proofs.Common.{◌+◌, ◌-◌}
use Rattle.aps_timer.specs.Buckets.{bucket_of}
use Rattle.aps_timer.proofs.OfWord.{AreSeen}
use Rattle.aps_timer.proofs.buckets.Buckets.may_be_due.Given as goal

abbrev pub invariant-loop-bucket : goal.invariant-loop-bucket
invariant-loop-bucket l = AreSeen l.fn.self.lines.items l.fn.self.begin l.fn.self.further l.fn.now l.fn.word l.bucket l.bits

abbrev pub decreases-loop-bucket : goal.decreases-loop-bucket
decreases-loop-bucket l = bucket_of l.fn.now + 1 - l.bucket
