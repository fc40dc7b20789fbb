use Rattle.std.proofs.Common.{inl, inr}
use Rattle.aps_levels.specs.Bits.{set_has}
use Rattle.aps_ready.specs.Firsts.{firsts_of}
use Rattle.aps_ready.proofs.Fewer.{fewer}
use Rattle.aps_ready.proofs.Earliest.{best_of_one, best_of_more, all_seen}
use Rattle.aps_ready.proofs.lists.Lists.earliest.Goals.{then-other-best, else-other-best}
use Rattle.aps_ready.proofs.lists.Lists.earliest.Goals as goal
use Rattle.aps_ready.specs.Group.{group_count}

pub groups-init : goal.groups-init
groups-init c =
    let least = c.in-Some.ensures.some in
    best_of_one (firsts_of c.args.self.now) (set_has c.args.set) (set_has c.without_least-left.result) c.in-Some.start c.first-best.result least.below least.here
    c.first-best.ensures (c.without_least-left.ensures c.in-Some.start least)

pub groups-smaller : goal.groups-smaller
groups-smaller c =
    let least = c.in-Some-least.ensures.some in
    fewer (set_has c.groups.left) (set_has c.without_least-left-in-Some-least.result) c.in-Some-least.group group_count
    (c.without_least-left-in-Some-least.ensures c.in-Some-least.group least) least.here least.below

pub groups-preserved : goal.groups-preserved
groups-preserved c =
    let group = c.in-Some-least.group in
    let least = c.in-Some-least.ensures.some in
    best_of_more (firsts_of c.args.self.now) (set_has c.args.set) (set_has c.groups.left) (set_has c.without_least-left-in-Some-least.result) c.groups.best group
    c.first-other.result c.if-other-best.best c.groups.invariant least.below least.here c.first-other.ensures
    (c.without_least-left-in-Some-least.ensures group least)
    (elim c.if-other-best.branch [
      | then-other-best w ↦ inl (w.if-other-best.true, w.best-is)
      | else-other-best w ↦ inr (w.if-other-best.false, w.best-is)
    ])

pub returns-clause-some : goal.returns-clause-some
returns-clause-some c g below h =
    all_seen (firsts_of c.args.self.now) (set_has c.args.set) (set_has c.groups.left) c.groups.best c.groups.invariant c.in_default-least.ensures.none
