use Rattle.std.proofs.Common.{◌≡◌, ◌-◌, length}
use Rattle.view_shares.specs.Overspending.{PassFollowsCore}
use Rattle.view_shares.proofs.running.spend_run.Given as goal

abbrev pub invariant-loop-alloc : goal.invariant-loop-alloc
invariant-loop-alloc l = record {
  at : PassFollowsCore l.pass;
  setup : l.pass.core.setup ≡ l.fn.core.setup;
}

abbrev pub decreases-loop-alloc : goal.decreases-loop-alloc
decreases-loop-alloc l = l.pass.core.setup.limit - length l.pass.core.entries
