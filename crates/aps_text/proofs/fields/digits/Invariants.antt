use Rattle.std.proofs.Common.{◌≡◌, ◌≤◌, length}
use Rattle.aps_text.specs.Reader.{digits_at}
use Rattle.aps_text.proofs.fields.digits.Given as goal

abbrev pub invariant-loop-rest : goal.invariant-loop-rest
invariant-loop-rest l = record {
  within : l.value ≤ l.most;
  same : digits_at l.most l.stop l.value l.rest ≡ digits_at l.most l.stop l.first l.bytes;
}

abbrev pub decreases-loop-rest : goal.decreases-loop-rest
decreases-loop-rest l = length l.rest
