use Rattle.view_value_changes.proofs.Alike.{by_test}
use Rattle.view_value_changes.proofs.value.is_change.Goals as goal

pub returns : goal.returns
returns c = by_test c.args.before.now c.args.now.now c.differs.result c.differs.ensures.told c.differs.ensures.untold
