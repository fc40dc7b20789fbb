use Rattle.std.proofs.Common.{◌≡◌, ◌<◌, ◌++◌, [], ◌∷◌, ℕ, get_or}
use Rattle.aps_model.specs.Budget.{no_part, part_facts}
use Rattle.aps_ready.specs.Small.{IsSmall}
use Rattle.aps_live.proofs.bills.fill_parts.Given as goal

abbrev pub invariant-loop-p : goal.invariant-loop-p
invariant-loop-p l = record {
  same : (k : ℕ) → k < l.p → get_or l.parts k no_part ≡ part_facts l.shape l.rows (l._before ++ l._e ∷ []) l.window.tick k;
  small : (k : ℕ) → k < l.p → IsSmall (get_or l.parts k no_part);
}
