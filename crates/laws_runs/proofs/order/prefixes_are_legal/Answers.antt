use Rattle.laws_runs.proofs.Words.{prefix_legal}
use Rattle.laws_runs.proofs.Prefixes.{goes_on}
use Rattle.laws_runs.proofs.order.prefixes_are_legal.Goals as goal

pub returns-clause-legal : goal.returns-clause-legal
returns-clause-legal c = prefix_legal

pub returns-clause-goes_on : goal.returns-clause-goes_on
returns-clause-goes_on c = goes_on
