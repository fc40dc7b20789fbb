use Rattle.laws_runs.proofs.Chains.{chains_law}
use Rattle.laws_runs.proofs.messages.servers_inherit.Goals as goal

pub returns : goal.returns
returns c = chains_law
