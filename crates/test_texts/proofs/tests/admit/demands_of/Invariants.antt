use Rattle.std.proofs.Common.{◌≡◌, All, length}
use Rattle.aps_admit.specs.Admission.{IsNeed}
use Rattle.test_texts.proofs.tests.admit.demands_of.Given as goal

abbrev pub invariant-loop-i : goal.invariant-loop-i
invariant-loop-i g l = record {
  count : length l.demands.items ≡ l.i;
  needs : All IsNeed l.demands.items;
}
