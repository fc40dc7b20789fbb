use Rattle.std.proofs.Common.{◌+◌, ◌-◌}
use Rattle.aps_timer.specs.Buckets.{bucket_of}
use Rattle.aps_timer.proofs.Kept.{IsPassed}
use Rattle.aps_timer.proofs.buckets.first_near.Given as goal

-- nobody stands in the buckets from the first on up to this one
abbrev pub invariant-loop-bucket : goal.invariant-loop-bucket
invariant-loop-bucket l = IsPassed l.fn.row l.fn.lines l.fn.begin l.bucket

abbrev pub decreases-loop-bucket : goal.decreases-loop-bucket
decreases-loop-bucket l = bucket_of l.fn.now + 1 - l.bucket
