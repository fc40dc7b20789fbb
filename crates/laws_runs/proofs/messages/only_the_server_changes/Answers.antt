use Rattle.laws_runs.proofs.Servers.{changes_only}
use Rattle.laws_runs.proofs.messages.only_the_server_changes.Goals as goal

pub returns : goal.returns
returns c = changes_only
