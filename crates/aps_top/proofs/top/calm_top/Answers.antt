use Rattle.aps_top.proofs.Statuses.{answered}
use Rattle.aps_top.proofs.top.calm_top.Goals as goal

pub returns : goal.returns
returns g c = record { answer = answered _ _ _ c.of_calm_words-outcome.result _ c.of_calm_words-outcome.ensures c.tell.ensures }
