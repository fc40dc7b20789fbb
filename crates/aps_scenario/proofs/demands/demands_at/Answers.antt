use Rattle.std.proofs.Common.{sym}
use Rattle.toml.specs.View.{table_view}
use Rattle.aps_scenario.proofs.DemandRows.{AreDemands-from_parts}
use Rattle.aps_scenario.proofs.demands.demands_at.Goals as goal

pub new-requires : goal.new-requires
new-requires c = AreDemands-from_parts (table_view c.args.table.now) c.in_ok-shape.shape c.in_ok-demands.demands.items (sym c.in_ok-shape.ensures) c.in_ok-demands.ensures
