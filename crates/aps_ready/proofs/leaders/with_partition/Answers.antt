use Rattle.std.proofs.Common.{sym, ◌∙◌}
use Rattle.aps_levels.specs.Bits.{set_has}
use Rattle.aps_ready.proofs.Leading.{less_more, equal_more, more_more}
use Rattle.aps_ready.proofs.leaders.with_partition.Goals as goal

pub returns-then-has_less : goal.returns-then-has_less
returns-then-has_less c seen are =
    less_more c.args.parts.now (set_has c.args.groups) seen c.args.leaders c.part_of-part.result c.args.p c.from.result c.groups_of-these.result
    c.part_of-part.ensures.same c.groups_of-these.ensures c.requires.p are (c.part_of-part.ensures.small c.requires.small) c.from.ensures
    (sym c.has_less.ensures ∙ c.if-has_less.true)

pub returns-then-has_more : goal.returns-then-has_more
returns-then-has_more c seen are =
    more_more c.args.parts.now (set_has c.args.groups) seen c.args.leaders c.part_of-part.result c.args.p c.part_of-part.ensures.same are
    (sym c.has_more.ensures ∙ c.if-has_more.true)

pub returns-else-has_less : goal.returns-else-has_less
returns-else-has_less c seen are =
    equal_more c.args.parts.now (set_has c.args.groups) seen c.args.leaders c.part_of-part.result c.args.p c.groups_of-these.result c.join.result
    c.part_of-part.ensures.same c.groups_of-these.ensures are c.join.ensures
    (sym c.has_less.ensures ∙ c.if-has_less.false) (sym c.has_more.ensures ∙ c.if-has_more.false)
