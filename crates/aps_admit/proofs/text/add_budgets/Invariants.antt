use Rattle.std.proofs.Common.{◌≡◌, ◌++◌, string_bytes, take}
use Rattle.std.specs.List.{flat_map}
use Rattle.aps_admit.specs.Text.{budget_line}
use Rattle.aps_admit.proofs.text.add_budgets.Given as goal

abbrev pub invariant-loop-granted : goal.invariant-loop-granted
invariant-loop-granted l = string_bytes l.out ≡ string_bytes l.initial.out ++ flat_map budget_line (take l.granted-index l.grants)
