use Rattle.std.proofs.Common.{rules}
use Rattle.aps_bound.proofs.Sliding.{entered, usage_few}
use Rattle.aps_bound.proofs.window.Window.enter.Goals as goal

pub add-requires-clause-room : goal.add-requires-clause-room
add-requires-clause-room c = search (rules, usage_few)

pub returns-clause-window : goal.returns-clause-window
returns-clause-window c = search (rules, entered)
