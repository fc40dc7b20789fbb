use Rattle.std.proofs.Common.{◌≡◌}
use Rattle.test_parts.proofs.tests.ctl.a_partition_too_many_is_refused.Given as goal

abbrev pub invariant-loop-i : goal.invariant-loop-i
invariant-loop-i g l = l.tree.parts ≡ 100
