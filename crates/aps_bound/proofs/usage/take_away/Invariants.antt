use Rattle.std.proofs.Common.{◌+◌, take}
use Rattle.aps_bound.specs.Usage.{IsMore}
use Rattle.aps_bound.proofs.usage.take_away.Given as goal

abbrev pub invariant-loop-e : goal.invariant-loop-e
invariant-loop-e l = IsMore l._tick l._a (l._a + 1) (take l.e-index l.entries) l.usage l.initial.usage
