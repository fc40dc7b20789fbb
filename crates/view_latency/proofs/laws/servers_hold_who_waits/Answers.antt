use Rattle.view_latency.proofs.Holding.{held_by_state}
use Rattle.view_latency.proofs.laws.servers_hold_who_waits.Goals as goal

pub returns : goal.returns
returns c = λ scenario order h valid legal. held_by_state scenario order h valid legal
