use Rattle.aps_timer.proofs.Wakes.{wakes}
use Rattle.aps_timer.proofs.laws.those_due_are_those_that_wake.Goals as goal

pub returns : goal.returns
returns c s now = wakes s now
