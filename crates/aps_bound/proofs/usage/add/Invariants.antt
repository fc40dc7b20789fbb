use Rattle.std.proofs.Common.{◌+◌, ◌*◌, ◌^◌, take}
use Rattle.aps_model.specs.Limits.{longest_tick}
use Rattle.aps_model.specs.Sums.{IsAtMost}
use Rattle.aps_bound.specs.Usage.{IsMore}
use Rattle.aps_bound.proofs.usage.add.Given as goal

abbrev pub invariant-loop-e : goal.invariant-loop-e
invariant-loop-e l = record {
  same : IsMore l._tick l._a (l._a + 1) (take l.e-index l.entries) l.initial.usage l.usage;
  room : IsAtMost (2 ^ 62 + longest_tick * l.e-index) l.usage;
}
