use Rattle.std.proofs.Common.{◌≡◌, map, take}
use Rattle.aps_tasks.specs.Start.{plan_of}
use Rattle.aps_tasks.proofs.start.copy_plans.Given as goal

abbrev pub invariant-loop-row : goal.invariant-loop-row
invariant-loop-row l = l.plans.items ≡ map plan_of (take l.row-index l.rows)
