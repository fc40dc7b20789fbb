use Rattle.std.proofs.Common.{arith}
use Rattle.laws_runs.specs.Moments.{moment}
use Rattle.view_lives.specs.Life.{life_of}
use Rattle.view_lives.specs.Whole.{doing_at}
use Rattle.view_lives.proofs.Told.{life_is_told}
use Rattle.laws_views.proofs.InOne.{in_one}
use Rattle.laws_views.proofs.lives.moments_lie_in_one.Goals as goal

pub returns : goal.returns
returns c = λ scenario order h x m valid legal before.
    in_one (doing_at scenario h x) 0 (moment h) m (life_of scenario h x) (life_is_told scenario order valid x h legal) (omega arith) before
