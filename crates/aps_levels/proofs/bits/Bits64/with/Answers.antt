use Rattle.aps_levels.proofs.BitLaws.{set_bit}
use Rattle.aps_levels.proofs.bits.Bits64.with.Goals as goal

pub returns : goal.returns
returns c k = set_bit c.args.self.word c.args.i k c.requires
