-- The run of a history, made again.
use Rattle.std.specs.Prelude.{ℕ, List, [], length, max, take}
use Rattle.aps_model.specs.declared.entry.Entry.{Entry}
use Rattle.aps_model.specs.declared.entry.Order.{Order}
use Rattle.aps_model.specs.History.{History}
use Rattle.aps_model.specs.Scenario.{Scenario}
use Rattle.aps_core.specs.Run.{Run, Setup}

-- the scenario and the order of a run
abbrev pub scenario_of_run : Run → Scenario
scenario_of_run run = run.setup.scenario

abbrev pub order_of_run : Run → Order
order_of_run run = run.setup.order

-- the run of the first entries
abbrev pub front : Setup → List Entry → ℕ → Run
front setup h i = record { setup = setup; entries = take i h }

-- before its first entry, with room for all
abbrev pub start_of : History → Order → Run
start_of history order =
    record { setup = record { scenario = history.scenario; order = order; limit = max (length history.entries) 1 }; entries = [] }
