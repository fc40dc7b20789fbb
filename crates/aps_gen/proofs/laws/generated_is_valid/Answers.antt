use Rattle.aps_gen.proofs.Validity.{generated_valid}
use Rattle.aps_gen.proofs.laws.generated_is_valid.Goals as goal

pub returns : goal.returns
returns c = generated_valid
