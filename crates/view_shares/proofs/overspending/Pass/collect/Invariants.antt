use Rattle.std.proofs.Common.{◌≡◌, take}
use Rattle.view_replay.specs.Retraced.{scenario_of_run}
use Rattle.view_shares.specs.Overspending.{PassFollowsCore}
use Rattle.view_shares.specs.Spent.{overspent_of}
use Rattle.view_shares.proofs.overspending.Pass.collect.Given as goal

abbrev pub invariant-loop-e : goal.invariant-loop-e
invariant-loop-e l = record {
  at : PassFollowsCore l.self;
  core : l.self.core ≡ record l.fn.self.core { entries = take l.e-index l.entries };
  all : l.all.items ≡ overspent_of (scenario_of_run l.fn.self.core) (take l.e-index l.entries);
}
