use Rattle.aps_levels.specs.Bits.{set_has}
use Rattle.aps_ready.proofs.Leading.{has_group, folded}
use Rattle.aps_ready.proofs.leaders.partitions_of.Goals as goal

pub returns-clause-some : goal.returns-clause-some
returns-clause-some c p h =
    has_group (set_has c.args.groups) (set_has c.upper_half.result) (set_has c.join.result) (set_has c.lower_half.result)
    c.upper_half.ensures c.join.ensures c.lower_half.ensures p h

pub returns-clause-all : goal.returns-clause-all
returns-clause-all c g below h =
    folded (set_has c.args.groups) (set_has c.upper_half.result) (set_has c.join.result) (set_has c.lower_half.result)
    c.upper_half.ensures c.join.ensures c.lower_half.ensures g below h
