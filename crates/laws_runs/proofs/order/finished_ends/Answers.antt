use Rattle.laws_runs.proofs.FixedRun.{finish_ends, finish_extends, finish_is_run}
use Rattle.laws_runs.proofs.order.finished_ends.Goals as goal

pub returns-clause-run : goal.returns-clause-run
returns-clause-run c = finish_ends

pub returns-clause-extends : goal.returns-clause-extends
returns-clause-extends c = finish_extends

pub returns-clause-fixed : goal.returns-clause-fixed
returns-clause-fixed c = finish_is_run
