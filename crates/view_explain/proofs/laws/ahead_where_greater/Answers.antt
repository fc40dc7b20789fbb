use Rattle.view_explain.proofs.Named.{named}
use Rattle.view_explain.proofs.laws.ahead_where_greater.Goals as goal

pub returns : goal.returns
returns c = named
