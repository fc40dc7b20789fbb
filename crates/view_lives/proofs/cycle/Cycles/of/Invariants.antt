use Rattle.std.proofs.Common.{◌≡◌, ◌*◌, take}
use Rattle.std.specs.Prelude.{IfSome}
use Rattle.view_lives.specs.declared.cycle.Begun.{Begun}
use Rattle.view_lives.specs.Cycle.{cycles_in}
use Rattle.view_lives.specs.Room.{AreAtMost}
use Rattle.view_lives.proofs.cycle.Cycles.of.Given as goal

abbrev pub invariant-loop-segment : goal.invariant-loop-segment
invariant-loop-segment l = record {
  same : l.cycles ≡ cycles_in (take l.segment-index l.segment-items);
  small : IfSome l.cycles.current (λ (begun : Begun). AreAtMost (l.segment-index * 18446744073709551616) begun.times);
}
