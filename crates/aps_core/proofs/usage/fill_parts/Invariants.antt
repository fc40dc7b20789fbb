use Rattle.std.proofs.Common.{◌≡◌, ◌<◌, ℕ, get_or}
use Rattle.aps_model.specs.Budget.{no_part}
use Rattle.aps_core.specs.Counts.{part_in}
use Rattle.aps_core.specs.Small.{IsSmall}
use Rattle.aps_core.proofs.usage.fill_parts.Given as goal

abbrev pub invariant-loop-p : goal.invariant-loop-p
invariant-loop-p l = record {
  same : (k : ℕ) → k < l.p → get_or l.parts k no_part ≡ part_in l.shape l.rows l.window k;
  small : (k : ℕ) → k < l.p → IsSmall (get_or l.parts k no_part);
}
