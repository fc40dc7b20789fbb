use Rattle.aps_text.proofs.Wholes.{begins_is}
use Rattle.aps_text.proofs.laws.beginnings_compute.Goals as goal

pub returns : goal.returns
returns c = begins_is
