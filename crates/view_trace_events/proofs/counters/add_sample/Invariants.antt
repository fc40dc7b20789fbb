use Rattle.std.proofs.Common.{◌≡◌, ◌++◌, string_bytes}
use Rattle.std.specs.List.{flat_map, range_with_len}
use Rattle.view_trace_events.specs.Counters.{partition_counters}
use Rattle.view_trace_events.proofs.counters.add_sample.Given as goal

abbrev pub invariant-loop-p : goal.invariant-loop-p
invariant-loop-p l = string_bytes l.out ≡ string_bytes l.initial.out ++ flat_map (partition_counters l.moment l.before l.sample) (range_with_len 0 l.p)
