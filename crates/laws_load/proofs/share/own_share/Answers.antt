use Rattle.laws_load.proofs.OwnShares.{own_share}
use Rattle.laws_load.proofs.share.own_share.Goals as goal

pub returns : goal.returns
returns c = own_share
