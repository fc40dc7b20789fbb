use Rattle.std.proofs.Common.{◌≡◌, map}
use Rattle.std.specs.List.{range_with_len}
use Rattle.aps_live.specs.LiveState.{live_start}
use Rattle.aps_live.proofs.machine.start.start_threads.Given as goal

abbrev pub invariant-loop-x : goal.invariant-loop-x
invariant-loop-x l = l.threads.items ≡ map (live_start l.scenario) (range_with_len 0 l.x)
