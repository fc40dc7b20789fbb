use Rattle.std.proofs.Common.{◌≡◌, ◌++◌, string_bytes, take}
use Rattle.std.specs.List.{flat_map}
use Rattle.view_explain.specs.Text.{thread_by_lives}
use Rattle.view_explain.proofs.text.add_threads.Given as goal

abbrev pub invariant-loop-x : goal.invariant-loop-x
invariant-loop-x l = string_bytes l.out ≡ string_bytes l.initial.out ++ flat_map (thread_by_lives l.scene l.at l.lives.items) (take l.x-index l.told)
