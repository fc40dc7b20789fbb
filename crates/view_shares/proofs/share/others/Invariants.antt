use Rattle.std.proofs.Common.{◌≡◌, ◌≤◌, ◌*◌}
use Rattle.std.specs.List.{sum_by, range_with_len}
use Rattle.view_shares.specs.Share.{most_taken_by_one, time_taken_by}
use Rattle.view_shares.proofs.share.others.Given as goal

abbrev pub invariant-loop-q : goal.invariant-loop-q
invariant-loop-q l = record {
  same : l.sum ≡ sum_by (time_taken_by l.turn l.p l.sample) (range_with_len 0 l.q);
  few : l.sum ≤ l.q * most_taken_by_one;
}
