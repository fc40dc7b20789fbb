use Rattle.std.proofs.Common.{◌≡◌, ◌<◌, ℕ, length}
use Rattle.aps_model.specs.Budget.{part_at}
use Rattle.aps_core.specs.Counts.{part_in}
use Rattle.aps_core.proofs.standing.Standing.fill_again.Given as goal

abbrev pub invariant-loop-p : goal.invariant-loop-p
invariant-loop-p l = record {
  count : length l.self ≡ length l.rows;
  filled : (q : ℕ) → q < l.p → part_at l.self q ≡ part_in l.shape l.rows l.window q;
}
