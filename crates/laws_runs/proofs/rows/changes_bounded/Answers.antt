use Rattle.laws_runs.proofs.ChangeLaws.{room, few_changes}
use Rattle.laws_runs.proofs.rows.changes_bounded.Goals as goal

pub returns-clause-room : goal.returns-clause-room
returns-clause-room c = room

pub returns-clause-few : goal.returns-clause-few
returns-clause-few c = few_changes
