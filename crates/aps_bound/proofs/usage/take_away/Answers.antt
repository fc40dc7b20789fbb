use Rattle.std.proofs.Common.{rules}
use Rattle.aps_bound.proofs.Sliding.{billed_left}
use Rattle.aps_bound.proofs.usage.take_away.Goals as goal

pub give_back-requires : goal.give_back-requires
give_back-requires c = search (rules, billed_left)
