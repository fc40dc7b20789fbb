use Rattle.aps_levels.proofs.BitLaws.{either_bit}
use Rattle.aps_levels.proofs.bits.Bits64.join.Goals as goal

pub returns : goal.returns
returns c k = either_bit c.args.self.word c.args.other.word k
