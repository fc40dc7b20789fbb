use Rattle.view_shares.proofs.Counted.{read_used}
use Rattle.view_shares.proofs.usages.Usages.used.Goals as goal

pub returns-clause-same : goal.returns-clause-same
returns-clause-same c = read_used c.args.core.now c.args.self.now c.args.p _ c.requires c.used.ensures.stands
