use Rattle.aps_levels.specs.Bits.{set_has}
use Rattle.aps_ready.specs.Firsts.{firsts_of}
use Rattle.aps_ready.proofs.Among.{best_of_leaders, best_of_nobody}
use Rattle.aps_ready.proofs.Tops.{kept}
use Rattle.aps_ready.proofs.look.highest_leader.Goals as goal

pub returns-in-Some : goal.returns-in-Some
returns-in-Some c =
    let row = c.args.lists.now in
    let least = c.in-Some.ensures.some in
    best_of_leaders c.args.parts.now row (firsts_of row) (set_has c.args.groups) (set_has c.in-Some.found.groups) c.least_used.result
    c.earliest.result (kept row c.requires.queued) c.least_used.ensures least
    (c.earliest.ensures.some least.group least.inside least.some)

pub returns-in-None : goal.returns-in-None
returns-in-None c =
    let row = c.args.lists.now in
    best_of_nobody c.args.parts.now row (firsts_of row) (set_has c.args.groups) c.least_used.result c.vacant.result c.vacant.ensures c.least_used.ensures
    c.requires.occupied c.in-None.ensures.none
