use Rattle.std.proofs.Common.{refl}
use Rattle.aps_report.proofs.Sums.{no_time-by}
use Rattle.aps_report.proofs.totals.Totals.none.Goals as goal

pub returns : goal.returns
returns c = no_time-by _ c.in_ok-zeros.ensures c.in_ok-zeros-2.ensures c.in_ok-zeros-3.ensures refl
