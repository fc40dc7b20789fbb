use Rattle.laws_load.proofs.ServedPicks.{class_one_is_served}
use Rattle.laws_load.proofs.served.class_one_is_served.Goals as goal

pub returns : goal.returns
returns c = class_one_is_served
