use Rattle.std.proofs.Common.{◌≡◌}
use Rattle.test_texts.proofs.tests.histories.add_all.Given as goal

abbrev pub invariant-loop-e : goal.invariant-loop-e
invariant-loop-e g l = record {
  room : l.history.room.entries ≡ 5000;
  others : l.history ≡ record l.fn.history { entries = l.history.entries };
}
