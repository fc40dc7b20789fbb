use Rattle.std.proofs.Common.{◌*◌, take}
use Rattle.aps_model.specs.Limits.{longest_tick}
use Rattle.aps_model.specs.Sums.{IsAtMost, IsUsage}
use Rattle.aps_model.proofs.usage.Usage.of.Given as goal

abbrev pub invariant-loop-e : goal.invariant-loop-e
invariant-loop-e l = record {
  same : IsUsage l.tick l.a l.b (take l.e-index l.entries) l.usage;
  small : IsAtMost (longest_tick * l.e-index) l.usage;
}
