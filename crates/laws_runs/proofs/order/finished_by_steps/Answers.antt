use Rattle.laws_runs.proofs.FixedRun.{finish_stops, finish_steps}
use Rattle.laws_runs.proofs.order.finished_by_steps.Goals as goal

pub returns-clause-stops : goal.returns-clause-stops
returns-clause-stops c = finish_stops

pub returns-clause-steps : goal.returns-clause-steps
returns-clause-steps c = finish_steps
