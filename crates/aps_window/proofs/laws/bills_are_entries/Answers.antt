use Rattle.aps_window.proofs.Entries.{critical_same, used_same}
use Rattle.aps_window.proofs.laws.bills_are_entries.Goals as goal

pub returns-clause-used : goal.returns-clause-used
returns-clause-used c = used_same

pub returns-clause-critical : goal.returns-clause-critical
returns-clause-critical c = critical_same
