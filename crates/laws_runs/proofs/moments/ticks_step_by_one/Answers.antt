use Rattle.laws_runs.proofs.BoundaryLaws.{in_tick}
use Rattle.laws_runs.proofs.moments.ticks_step_by_one.Goals as goal

pub returns : goal.returns
returns c = in_tick
