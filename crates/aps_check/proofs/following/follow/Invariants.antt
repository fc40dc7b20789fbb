use Rattle.std.proofs.Common.{length}
use Rattle.aps_check.specs.Following.{HasReadUpTo}
use Rattle.aps_check.proofs.following.follow.Given as goal

abbrev pub invariant-loop-rest : goal.invariant-loop-rest
invariant-loop-rest l = HasReadUpTo l.fn.core l.core l.text l.rest

abbrev pub decreases-loop-rest : goal.decreases-loop-rest
decreases-loop-rest l = length l.rest
