use Rattle.std.proofs.Common.{◌≡◌, ◌++◌, string_bytes, take}
use Rattle.std.specs.List.{flat_map, enumerate_from}
use Rattle.view_value_changes.specs.Signals.{thread_signal}
use Rattle.view_value_changes.proofs.signals.add_each_thread.Given as goal

abbrev pub invariant-loop-x : goal.invariant-loop-x
invariant-loop-x l = string_bytes l.out ≡ string_bytes l.initial.out ++ flat_map (thread_signal l.first) (take l.x (enumerate_from 0 l.threads))
