use Rattle.std.proofs.Common.{◌+◌}
use Rattle.aps_lock.specs.RunLog.{run_log}
use Rattle.aps_lock.proofs.Own.{seen_begins}
use Rattle.aps_seats.proofs.Own.{seen_own}
use Rattle.aps_lock.proofs.laws.seen_has_own_entries.Goals as goal

pub returns-clause-seen : goal.returns-clause-seen
returns-clause-seen c = λ seat run. seen_begins seat.first (seat.last + 1) seat.seen run

pub returns-clause-own : goal.returns-clause-own
returns-clause-own c = λ seat run. seen_own run_log seat.first seat.last seat.seen run
