use Rattle.laws_runs.proofs.ChangeLaws.{only_grow}
use Rattle.laws_runs.proofs.rows.lists_grow.Goals as goal

pub returns : goal.returns
returns c = only_grow
