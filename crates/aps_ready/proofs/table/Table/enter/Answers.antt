use Rattle.aps_ready.proofs.TableLaws.{entered}
use Rattle.aps_ready.proofs.table.Table.enter.Goals as goal

pub invariant_of-self : goal.invariant_of-self
invariant_of-self c =
    let t = c.self.inside in
    entered t.at_level.items c.add_group.new.at_level.items t.levels c.insert.new.self t.of_group.items c.add_level.new.of_group.items
    t.occupied c.with-self-inside.result c.args.level c.args.group c.self.invariant c.requires.level c.requires.group
    c.add_group.ensures.count c.add_level.ensures.count c.add_group.ensures.at c.add_level.ensures.at c.insert.ensures c.with-self-inside.ensures
