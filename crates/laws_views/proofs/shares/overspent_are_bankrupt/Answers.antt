use Rattle.std.proofs.Common.{◌∙◌}
use Rattle.view_shares.proofs.Overspent.{overspent_begins}
use Rattle.laws_views.proofs.Bankrupts.{listed_none, listed_some, same_test}
use Rattle.laws_views.proofs.shares.overspent_are_bankrupt.Goals as goal

pub returns-clause-each : goal.returns-clause-each
returns-clause-each c = λ scenario order h e p valid legal is. listed_some scenario h e p (same_test scenario order h e valid legal ∙ is)

pub returns-clause-others : goal.returns-clause-others
returns-clause-others c = λ scenario order h e valid legal is. listed_none scenario h e (same_test scenario order h e valid legal ∙ is)

pub returns-clause-none : goal.returns-clause-none
returns-clause-none c = overspent_begins
