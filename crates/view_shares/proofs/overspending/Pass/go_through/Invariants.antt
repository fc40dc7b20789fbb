use Rattle.std.proofs.Common.{◌≡◌, take}
use Rattle.view_shares.specs.Overspending.{PassFollowsCore}
use Rattle.view_shares.proofs.overspending.Pass.go_through.Given as goal

abbrev pub invariant-loop-e : goal.invariant-loop-e
invariant-loop-e l = record {
  at : PassFollowsCore l.self;
  core : l.self.core ≡ record l.fn.self.core { entries = take l.e-index l.entries };
}
