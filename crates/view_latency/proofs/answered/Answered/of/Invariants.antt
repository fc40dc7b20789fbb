use Rattle.std.proofs.Common.{◌≡◌, take}
use Rattle.view_latency.specs.Answered.{AreFewAnswers, answered_at}
use Rattle.view_latency.proofs.answered.Answered.of.Given as goal

abbrev pub invariant-loop-call : goal.invariant-loop-call
invariant-loop-call l = record {
  same : l.answered ≡ answered_at l.channel (take l.call-index l.calls);
  few : AreFewAnswers l.call-index l.answered;
}
