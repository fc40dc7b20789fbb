use Rattle.aps_levels.proofs.BitLaws.{both_bits}
use Rattle.aps_levels.proofs.bits.Bits64.meet.Goals as goal

pub returns : goal.returns
returns c k = both_bits c.args.self.word c.args.other.word k
