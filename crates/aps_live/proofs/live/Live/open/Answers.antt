use Rattle.std.proofs.Common.{arith}
use Rattle.aps_live.proofs.live.Live.open.Goals as goal

pub begin-requires-2-clause-few : goal.begin-requires-2-clause-few
begin-requires-2-clause-few c = let last = c.last_cpu-last.ensures in (omega (arith, last.few, last.last))
