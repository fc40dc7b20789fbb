use Rattle.std.proofs.Common.{sym, ◌∙◌, rules}
use Rattle.aps_levels.specs.Bits.{set_has}
use Rattle.aps_ready.proofs.Fewer.{fewer}
use Rattle.aps_ready.proofs.TableLaws.{first_found, none_searched, one_searched}
use Rattle.aps_ready.proofs.table.least_among.Goals as goal

pub levels-init : goal.levels-init
levels-init c = none_searched c.args.at_level.now c.args.word c.args.set c.args.from

pub levels-preserved : goal.levels-preserved
levels-preserved c =
    let level = c.in-Some.ensures.some in
    one_searched c.args.at_level.now c.args.word c.levels.left c.without_least-left.result c.args.set c.args.from c.in-Some.place c.levels.invariant
    (c.without_least-left.ensures c.in-Some.place level)
    (λ g _. sym (c.meet-groups.ensures g) ∙ c.if-not-is_empty.ensures.empty (search rules) g)

pub levels-smaller : goal.levels-smaller
levels-smaller c =
    let level = c.in-Some.ensures.some in
    fewer (set_has c.levels.left) (set_has c.without_least-left.result) c.in-Some.place 64 (c.without_least-left.ensures c.in-Some.place level) level.here level.below

pub returns-then-not-is_empty-clause-some : goal.returns-then-not-is_empty-clause-some
returns-then-not-is_empty-clause-some c =
    let some = c.if-not-is_empty.ensures.some (search rules) in
    let level = c.in-Some.ensures.some in
    first_found c.args.at_level.now c.args.word c.levels.left c.args.set c.meet-groups.result c.args.from c.in-Some.place some.0 c.levels.invariant
    level.below level.earlier c.meet-groups.ensures some.1 some.2

pub returns-clause-none : goal.returns-clause-none
returns-clause-none c k below h = c.levels.invariant.done k below h (c.in_default.ensures.none k)
