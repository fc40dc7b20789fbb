use Rattle.std.proofs.Common.{◌≡◌, ◌<◌, true, sym, subst}
use Rattle.aps_levels.specs.Bits.{set_has}
use Rattle.aps_ready.specs.declared.entrant.Entrant.{Entrant}
use Rattle.aps_ready.specs.Firsts.{firsts_of}
use Rattle.aps_ready.specs.Gates.{open_first}
use Rattle.aps_ready.specs.Winner.{IsWinner}
use Rattle.aps_ready.proofs.Among.{best_of_open}
use Rattle.aps_ready.proofs.Tops.{kept}
use Rattle.aps_ready.proofs.Winner.{near_wins}
use Rattle.aps_ready.proofs.look.near.Goals as goal
use Rattle.aps_ready.specs.Group.{group_count}

pub returns-then-are_known : goal.returns-then-are_known
returns-then-are_known c free there =
    let row = c.args.lists.now in
    let parts = c.args.parts.now in
    let found = c.in-Some.found in
    let same = c.of_first.ensures.same there in
    let best = c.best_at_level.result in
    let best_there : best.group < group_count = subst (λ (e : Entrant). e.group < group_count) same there in
    let opened : open_first parts best.group ≡ true = subst (λ (e : Entrant). open_first parts e.group ≡ true) same (c.of_first.ensures.first there) in
    subst (IsWinner free parts row) (sym same)
    (near_wins free parts row (firsts_of row) c.occupied.result found.groups best
    (kept row c.requires.queued) c.occupied.ensures c.in-Some.ensures.some
    (best_of_open parts row (set_has found.groups) best opened c.best_at_level.ensures) best_there)
