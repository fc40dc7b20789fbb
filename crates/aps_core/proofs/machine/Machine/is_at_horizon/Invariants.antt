use Rattle.std.proofs.Common.{◌≡◌, true}
use Rattle.std.specs.List.{list_all, range_with_len}
use Rattle.aps_model.specs.After.{stands_at}
use Rattle.aps_model.specs.Due.{last_to}
use Rattle.aps_core.proofs.machine.Machine.is_at_horizon.Given as goal

abbrev pub invariant-loop-c : goal.invariant-loop-c
invariant-loop-c l = list_all (λ c. stands_at l.horizon (last_to l.entries c)) (range_with_len 0 l.c) ≡ true
