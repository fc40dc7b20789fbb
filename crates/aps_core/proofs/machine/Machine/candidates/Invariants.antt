use Rattle.std.proofs.Common.{◌≡◌, ◌<◌, ℕ, slice_index_or, false}
use Rattle.aps_model.specs.Limits.{most_partitions}
use Rattle.aps_core.specs.Scan.{has_candidate, ready_below}
use Rattle.aps_core.proofs.machine.Machine.candidates.Given as goal

abbrev pub invariant-loop-x : goal.invariant-loop-x
invariant-loop-x l = (p : ℕ) → p < most_partitions → slice_index_or l.found p false ≡ has_candidate l.parts p (ready_below l.self l.x)
