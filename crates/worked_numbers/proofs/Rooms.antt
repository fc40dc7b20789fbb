-- For how much a run takes room, with a limit of 1,000 entries: five commands have up to five replies and ten changes; without a command
-- one critical budget may be cancelled once.
use Rattle.std.proofs.Common.{◌≡◌, refl}
use Rattle.aps_model.specs.declared.entry.Order.TheVariants.{Fixed}
use Rattle.aps_core.specs.Run.{rooms_of}
use Rattle.worked_proofs.proofs.Rows.CriticalThread as critical_thread
use Rattle.worked_proofs.proofs.Rows.TreeCommands as tree_commands

five_commands : rooms_of (record { scenario = tree_commands.scenario; order = Fixed; limit = 1000 }) ≡ record { entries = 1000; replies = 5; changes = 10 }
five_commands = refl

one_critical_budget : rooms_of (record { scenario = critical_thread.scenario; order = Fixed; limit = 1000 }) ≡ record { entries = 1000; replies = 0; changes = 1 }
one_critical_budget = refl
