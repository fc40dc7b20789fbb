use Rattle.laws_views.proofs.Printed.{beyond_is_small}
use Rattle.laws_views.proofs.shares.beyond_is_small.Goals as goal

pub returns : goal.returns
returns c = λ scenario order h p valid legal exists. beyond_is_small scenario order h valid legal p exists
