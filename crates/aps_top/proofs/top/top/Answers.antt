use Rattle.aps_top.proofs.Statuses.{answered}
use Rattle.aps_top.proofs.top.top.Goals as goal

pub returns : goal.returns
returns g c = record { answer = answered _ _ _ c.of-outcome.result _ c.of-outcome.ensures c.tell.ensures }
