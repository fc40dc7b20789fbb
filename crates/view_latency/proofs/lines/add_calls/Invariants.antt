use Rattle.std.proofs.Common.{◌≡◌, ◌++◌, string_bytes, take}
use Rattle.std.specs.List.{flat_map, enumerate_from}
use Rattle.view_latency.specs.Text.{channel_lines}
use Rattle.view_latency.proofs.lines.add_calls.Given as goal

abbrev pub invariant-loop-c : goal.invariant-loop-c
invariant-loop-c l = string_bytes l.out ≡ string_bytes l.initial.out ++ flat_map (channel_lines l.end l.calls) (take l.c (enumerate_from 0 l.channels))
