use Rattle.aps_levels.specs.Bits.{set_has}
use Rattle.aps_ready.proofs.Highest.{highest_at, highest_none}
use Rattle.aps_ready.proofs.ahead.highest.Goals as goal

pub returns-in-Some : goal.returns-in-Some
returns-in-Some c =
    highest_at c.args.lists.now (set_has c.args.groups) (set_has c.in-Some.found.groups) c.in-Some.found.level c.requires c.in-Some.ensures.some c.in-Some.ensures.at

pub returns-in-None : goal.returns-in-None
returns-in-None c = highest_none c.args.lists.now c.args.groups c.requires c.in-None.ensures.none
