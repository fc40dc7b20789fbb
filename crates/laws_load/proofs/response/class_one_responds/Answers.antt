use Rattle.laws_load.proofs.Responds.{class_one_responds}
use Rattle.laws_load.proofs.response.class_one_responds.Goals as goal

pub returns : goal.returns
returns c = class_one_responds
