use Rattle.std.proofs.Common.{arith}
use Rattle.aps_levels.proofs.BitLaws.{only_bits}
use Rattle.aps_levels.proofs.bits.Bits64.minus.Goals as goal

pub returns : goal.returns
returns c k within = only_bits c.args.self.word c.args.other.word k (omega arith) within
