use Rattle.std.proofs.Common.{◌≡◌, ◌-◌, length}
use Rattle.aps_core.specs.Run.{IsLater, finished_run}
use Rattle.aps_core.proofs.simulator.Core.finish.Given as goal

abbrev pub invariant-loop-end : goal.invariant-loop-end
invariant-loop-end l = record {
  same : finished_run l.self ≡ finished_run l.initial.self;
  later : IsLater l.initial.self l.self;
}

abbrev pub decreases-loop-end : goal.decreases-loop-end
decreases-loop-end l = l.self.setup.limit - length l.self.entries
