use Rattle.laws_load.proofs.OwnShares.{supply}
use Rattle.laws_load.proofs.share.supply.Goals as goal

pub returns : goal.returns
returns c = supply
