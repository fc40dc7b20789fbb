use Rattle.view_explain.proofs.Tied.{ties_more}
use Rattle.view_explain.proofs.laws.ties_go_on.Goals as goal

pub returns : goal.returns
returns c = ties_more
