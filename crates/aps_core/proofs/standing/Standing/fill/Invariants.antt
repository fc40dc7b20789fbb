use Rattle.std.proofs.Common.{◌≡◌, map}
use Rattle.std.specs.List.{range_with_len}
use Rattle.aps_core.specs.Counts.{part_in}
use Rattle.aps_core.proofs.standing.Standing.fill.Given as goal

abbrev pub invariant-loop-p : goal.invariant-loop-p
invariant-loop-p l = l.self ≡ map (part_in l.shape l.rows l.window) (range_with_len 0 l.p)
