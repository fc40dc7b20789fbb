use Rattle.std.proofs.Common.{◌<◌, sym, subst, arith}
use Rattle.aps_levels.specs.Bits.{set_has}
use Rattle.aps_levels.specs.Levels.{level_count}
use Rattle.aps_ready.specs.Best.{IsBest}
use Rattle.aps_ready.specs.Firsts.{firsts_of, level_of}
use Rattle.aps_ready.proofs.Among.{best_of_one}
use Rattle.aps_ready.proofs.Tops.{kept}
use Rattle.aps_ready.proofs.look.best_at_level.Goals as goal

pub returns-in-Some : goal.returns-in-Some
returns-in-Some c =
    let row = c.args.lists.now in
    let is = c.in-Some.ensures in
    let group = c.in-Some.group in
    let level : level_of (firsts_of row) group < level_count = omega (arith, c.requires.level.same group is.below is.here, c.requires.level.below) in
    subst (IsBest c.args.parts.now row (set_has c.args.groups)) (sym c.first.ensures)
    (best_of_one c.args.parts.now row (firsts_of row) (set_has c.args.groups) group (kept row c.requires.queued)
    is.below level is.here (λ g _ h. is.one g h))
