use Rattle.view_lives.proofs.Told.{life_is_told}
use Rattle.view_lives.proofs.laws.lives_tell_each_moment.Goals as goal

pub returns : goal.returns
returns c = λ scenario order h x valid legal. life_is_told scenario order valid x h legal
