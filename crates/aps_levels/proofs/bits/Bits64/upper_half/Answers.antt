use Rattle.aps_levels.proofs.BitLaws.{upper_bit}
use Rattle.aps_levels.proofs.bits.Bits64.upper_half.Goals as goal

pub returns : goal.returns
returns c k = upper_bit c.args.self.word k
