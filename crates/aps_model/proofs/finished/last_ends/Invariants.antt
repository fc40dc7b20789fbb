use Rattle.std.proofs.Common.{◌≡◌, ℕ, ◌<◌, ◌≤◌, All, length, slice_index, take}
use Rattle.aps_model.specs.Due.{last_end}
use Rattle.aps_model.specs.Limits.{last_moment, most_cpus}
use Rattle.aps_model.proofs.finished.last_ends.Given as goal

abbrev pub invariant-loop-e : goal.invariant-loop-e
invariant-loop-e l = record {
  places : length l.ends ≡ most_cpus;
  each : (c : ℕ) → c < most_cpus → slice_index l.ends c ≡ last_end (take l.e-index l.entries) c;
  early : All (λ end. end ≤ last_moment) l.ends;
}
