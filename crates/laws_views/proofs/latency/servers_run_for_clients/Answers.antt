use Rattle.laws_views.proofs.ServedTimes.{served_and_own}
use Rattle.laws_views.proofs.latency.servers_run_for_clients.Goals as goal

pub returns : goal.returns
returns c = λ scenario order h server valid legal. served_and_own scenario order valid server h legal
