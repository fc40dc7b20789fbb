use Rattle.aps_levels.proofs.BitLaws.{lower_bit}
use Rattle.aps_levels.proofs.bits.Bits64.lower_half.Goals as goal

pub returns : goal.returns
returns c k = lower_bit c.args.self.word k
