use Rattle.aps_model.proofs.GreatestLaws.{greatest-is, greatest-only, greatest-none, no_greatest}
use Rattle.aps_model.proofs.laws.greatest_is_greatest.Goals as goal

pub returns-clause-found : goal.returns-clause-found
returns-clause-found c = greatest-is

pub returns-clause-only : goal.returns-clause-only
returns-clause-only c = greatest-only

pub returns-clause-none : goal.returns-clause-none
returns-clause-none c = λ free parts cs. (no_greatest free parts cs, greatest-none free parts cs)
