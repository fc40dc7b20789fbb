use Rattle.std.proofs.Common.{◌∙◌}
use Rattle.laws_views.proofs.CallTimes.{calls_served}
use Rattle.laws_views.proofs.ServedLines.{lines_sum}
use Rattle.laws_views.proofs.latency.served_lines_add_up.Goals as goal

pub returns : goal.returns
returns c = λ scenario order h x valid legal. lines_sum scenario h x valid ∙ calls_served scenario order valid x h legal
