use Rattle.view_latency.proofs.Holding.{counted_once}
use Rattle.view_latency.proofs.laws.time_counts_for_one.Goals as goal

pub returns : goal.returns
returns c = λ scenario order h e valid legal. counted_once scenario order h e valid legal
