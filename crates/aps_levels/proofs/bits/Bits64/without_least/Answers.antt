use Rattle.aps_levels.proofs.BitLaws.{less_lowest, no_lowest}
use Rattle.aps_levels.proofs.bits.Bits64.without_least.Goals as goal

pub returns-then-self-eq0 : goal.returns-then-self-eq0
returns-then-self-eq0 c i least k = absurd (no_lowest c.args.self.word i c.if-self-eq0.true least.here)

pub returns-else-self-eq0 : goal.returns-else-self-eq0
returns-else-self-eq0 c i least k = less_lowest c.args.self.word i k least.here least.earlier
