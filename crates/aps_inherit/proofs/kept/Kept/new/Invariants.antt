use Rattle.std.proofs.Common.{◌≡◌, ◌<◌, ℕ, length, slice_index_or}
use Rattle.aps_model.specs.SchedulerState.{no_facts}
use Rattle.aps_inherit.specs.Values.{kept_at}
use Rattle.aps_inherit.proofs.kept.Kept.new.Given as goal

abbrev pub invariant-loop-x : goal.invariant-loop-x
invariant-loop-x l = record {
  count : length l.values.items ≡ l.x;
  own : (y : ℕ) → y < l.x → kept_at l.values.items y ≡ slice_index_or l.content.own y no_facts;
}
