use Rattle.std.proofs.Common.{◌≡◌, ◌≤◌, min}
use Rattle.std.specs.List.{fold, range_with_len}
use Rattle.aps_model.specs.Due.{last_end}
use Rattle.aps_model.specs.Limits.{last_moment}
use Rattle.aps_bound.proofs.finished.finished_ticks.Given as goal

abbrev pub invariant-loop-cpu : goal.invariant-loop-cpu
invariant-loop-cpu l = record {
  same : l.least ≡ fold (λ least c. min least (last_end l.entries c)) (last_end l.entries 0) (range_with_len 0 l.cpu);
  early : l.least ≤ last_moment;
}
