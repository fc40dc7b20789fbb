use Rattle.std.proofs.Common.{arith}
use Rattle.aps_ready.proofs.TableLaws.{without_in, left_occupied}
use Rattle.aps_ready.proofs.table.remove_level.Goals as goal

pub returns-in-None-clause-at : goal.returns-in-None-clause-at
returns-in-None-clause-at c =
    without_in c.args.of_group.now.items c.index_mut-rest.result.now c.remove.new.self c.args.level c.args.group (omega (arith, c.requires.group, c.requires.count))
    c.index_mut-rest.ensures.value c.remove.ensures

pub returns-in-Some-clause-at : goal.returns-in-Some-clause-at
returns-in-Some-clause-at c =
    without_in c.args.of_group.now.items c.index_mut-rest.result.now c.remove.new.self c.args.level c.args.group (omega (arith, c.requires.group, c.requires.count))
    c.index_mut-rest.ensures.value c.remove.ensures

pub returns-in-None-clause-all : goal.returns-in-None-clause-all
returns-in-None-clause-all c l g l_below g_below still was =
    left_occupied c.args.of_group.now.items c.remove.new.self c.args.occupied c.without.result c.args.group l g
    (omega (arith, c.requires.group, c.requires.count)) c.in-None.ensures.none c.without.ensures still was
