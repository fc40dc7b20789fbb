use Rattle.std.proofs.Common.{◌≡◌, take, min}
use Rattle.aps_model.specs.Limits.{greatest_u64}
use Rattle.aps_pool.specs.Share.{time_of_entries}
use Rattle.aps_pool.proofs.share.told_ns.Given as goal

abbrev pub invariant-loop-e : goal.invariant-loop-e
invariant-loop-e l = l.sum ≡ min (time_of_entries (take l.e-index l.entries)) greatest_u64
