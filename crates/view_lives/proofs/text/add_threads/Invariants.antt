use Rattle.std.proofs.Common.{◌≡◌, ◌++◌, string_bytes, take}
use Rattle.std.specs.List.{flat_map, enumerate_from}
use Rattle.view_lives.specs.Text.{thread_cycle_lines}
use Rattle.view_lives.proofs.text.add_threads.Given as goal

abbrev pub invariant-loop-x : goal.invariant-loop-x
invariant-loop-x l = string_bytes l.out ≡ string_bytes l.initial.out ++ flat_map (thread_cycle_lines l.lives.items) (take l.x (enumerate_from 0 l.threads))
