use Rattle.std.proofs.Common.{rules}
use Rattle.aps_bound.proofs.Growth.{audit_is}
use Rattle.aps_bound.proofs.audited.audit.Goals as goal

pub returns-then-is_in_order : goal.returns-then-is_in_order
returns-then-is_in_order c = search (rules, audit_is)

pub returns-else-is_in_order : goal.returns-else-is_in_order
returns-else-is_in_order c = search (rules, audit_is)
