use Rattle.view_shares.proofs.Counted.{read_critical}
use Rattle.view_shares.proofs.usages.Usages.critical.Goals as goal

pub returns : goal.returns
returns c = read_critical c.args.core.now c.args.self.now c.args.p _ c.requires c.critical_used.ensures.stands
