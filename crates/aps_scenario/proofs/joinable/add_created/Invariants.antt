use Rattle.std.proofs.Common.{◌≡◌, ◌++◌, drop}
use Rattle.toml.specs.View.{items_view, array_view}
use Rattle.aps_scenario.specs.Joinable.{created_names}
use Rattle.aps_scenario.proofs.joinable.add_created.Given as goal

abbrev pub invariant-loop-value : goal.invariant-loop-value
invariant-loop-value l =
    l.names.items ++ created_names (items_view (drop l.value-index l.commands.items)) ≡ l.initial.names.items ++ created_names (array_view l.commands)
