use Rattle.aps_levels.specs.Bits.{set_has}
use Rattle.aps_ready.specs.Firsts.{firsts_of}
use Rattle.aps_ready.proofs.Fewer.{size}
use Rattle.aps_ready.proofs.Earliest.{IsBestSoFar}
use Rattle.aps_ready.proofs.lists.Lists.earliest.Given as goal
use Rattle.aps_ready.specs.Group.{group_count}

-- the best is the first of one of the set, and of those that are no longer left none has a smaller stamp
abbrev pub invariant-groups : goal.invariant-groups
invariant-groups l = IsBestSoFar (firsts_of l.self) (set_has l.fn.set) (set_has l.left) l.best

abbrev pub decreases-groups : goal.decreases-groups
decreases-groups l = size (set_has l.left) group_count
