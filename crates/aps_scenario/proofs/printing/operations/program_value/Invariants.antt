use Rattle.std.proofs.Common.{◌≡◌, map, take}
use Rattle.toml.specs.View.{items_of, items_view}
use Rattle.toml.specs.Data.{string}
use Rattle.aps_model.specs.declared.program.Op.{Op}
use Rattle.aps_scenario.specs.PrintedOperation.{operation_text}
use Rattle.aps_scenario.proofs.printing.operations.program_value.Given as goal

abbrev pub invariant-loop-op : goal.invariant-loop-op
invariant-loop-op l = items_view l.values.items ≡ items_of (map (λ (op : Op). string (operation_text l.channels op)) (take l.op-index l.ops))
