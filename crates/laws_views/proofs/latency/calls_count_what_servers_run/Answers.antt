use Rattle.laws_views.proofs.CallTimes.{calls_served}
use Rattle.laws_views.proofs.latency.calls_count_what_servers_run.Goals as goal

pub returns : goal.returns
returns c = λ scenario order h x valid legal. calls_served scenario order valid x h legal
