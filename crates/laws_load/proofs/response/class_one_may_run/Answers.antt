use Rattle.laws_load.proofs.Responds.{class_one_may_run}
use Rattle.laws_load.proofs.response.class_one_may_run.Goals as goal

pub returns : goal.returns
returns c = class_one_may_run
