use Rattle.std.proofs.Common.{rules}
use Rattle.aps_bound.proofs.Sliding.{can_leave, left}
use Rattle.aps_bound.proofs.window.Window.leave.Goals as goal

pub take_away-requires-clause-part : goal.take_away-requires-clause-part
take_away-requires-clause-part c = search (rules, can_leave)

pub returns-clause-window : goal.returns-clause-window
returns-clause-window c = search (rules, left)
