use Rattle.std.proofs.Common.{◌≡◌, ◌++◌, string_bytes, take}
use Rattle.std.specs.List.{flat_map, enumerate_from}
use Rattle.view_latency.specs.Text.{thread_by_known}
use Rattle.view_latency.proofs.latency.add_threads.Given as goal

abbrev pub invariant-loop-x : goal.invariant-loop-x
invariant-loop-x l = string_bytes l.out ≡ string_bytes l.initial.out ++ flat_map (thread_by_known l.channels l.known) (take l.x (enumerate_from 0 l.threads))
