use Rattle.std.proofs.Common.{arith}
use Rattle.aps_levels.proofs.BitLaws.{below_bit, all_below}
use Rattle.aps_levels.proofs.bits.Bits64.below.Goals as goal

pub returns-then-end-lt64 : goal.returns-then-end-lt64
returns-then-end-lt64 c k = below_bit c.args.self.word c.args.end k c.if-end-lt64.true

pub returns-else-end-lt64 : goal.returns-else-end-lt64
returns-else-end-lt64 c k = all_below c.args.self.word c.args.end k (omega arith) c.if-end-lt64.false
