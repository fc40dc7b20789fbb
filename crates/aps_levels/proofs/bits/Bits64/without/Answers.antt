use Rattle.std.proofs.Common.{arith}
use Rattle.aps_levels.proofs.BitLaws.{clear_bit}
use Rattle.aps_levels.proofs.bits.Bits64.without.Goals as goal

pub returns : goal.returns
returns c k = clear_bit c.args.self.word c.args.i k (omega arith) c.requires
