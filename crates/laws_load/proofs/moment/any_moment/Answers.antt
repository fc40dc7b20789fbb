use Rattle.laws_load.proofs.AnyMoments.{any_moment}
use Rattle.laws_load.proofs.moment.any_moment.Goals as goal

pub returns : goal.returns
returns c = any_moment
