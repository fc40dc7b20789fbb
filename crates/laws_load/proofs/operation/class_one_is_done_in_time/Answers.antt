use Rattle.laws_load.proofs.InTime.{class_one_in_time}
use Rattle.laws_load.proofs.operation.class_one_is_done_in_time.Goals as goal

pub returns : goal.returns
returns c = class_one_in_time
