use Rattle.view_lives.specs.Whole.{doing_at}
use Rattle.view_lives.proofs.Wholes.{one_whole}
use Rattle.view_lives.proofs.laws.one_life.Goals as goal

pub returns : goal.returns
returns c = λ scenario h x life other one two. one_whole (doing_at scenario h x) _ _ life other one two
