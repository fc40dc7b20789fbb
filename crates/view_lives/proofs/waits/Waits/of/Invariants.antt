use Rattle.std.proofs.Common.{◌≡◌, take}
use Rattle.view_lives.specs.Few.{AreFew}
use Rattle.view_lives.specs.Waits.{waits_in}
use Rattle.view_lives.proofs.waits.Waits.of.Given as goal

abbrev pub invariant-loop-segment : goal.invariant-loop-segment
invariant-loop-segment l = record {
  same : l.waits ≡ waits_in (take l.segment-index l.segment-items);
  wake : AreFew l.segment-index l.waits.wake;
  preempted : AreFew l.segment-index l.waits.preempted;
}
