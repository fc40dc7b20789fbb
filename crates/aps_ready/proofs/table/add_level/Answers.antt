use Rattle.aps_ready.proofs.TableLaws.{with_in}
use Rattle.aps_ready.proofs.table.add_level.Goals as goal

pub returns-clause-at : goal.returns-clause-at
returns-clause-at c =
    with_in c.args.of_group.now.items c.index_mut.result.now c.insert.new.self c.args.level c.args.group c.requires.group c.index_mut.ensures.value c.insert.ensures
