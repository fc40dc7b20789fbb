use Rattle.std.proofs.Common.{◌≡◌, take, min}
use Rattle.aps_model.specs.Limits.{greatest_u64}
use Rattle.aps_pool.specs.Share.{steps_with}
use Rattle.aps_pool.proofs.share.steps_of.Given as goal

abbrev pub invariant-loop-e : goal.invariant-loop-e
invariant-loop-e l = l.count ≡ min (steps_with l.thread (take l.e-index l.entries)) greatest_u64
