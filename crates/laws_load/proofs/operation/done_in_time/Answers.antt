use Rattle.laws_load.proofs.InTime.{done_in_time}
use Rattle.laws_load.proofs.operation.done_in_time.Goals as goal

pub returns : goal.returns
returns c = done_in_time
