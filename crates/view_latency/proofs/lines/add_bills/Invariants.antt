use Rattle.std.proofs.Common.{◌≡◌, ◌++◌, string_bytes}
use Rattle.std.specs.Prelude.{slice_index}
use Rattle.std.specs.List.{flat_map, range_with_len}
use Rattle.view_latency.specs.Text.{bill_line}
use Rattle.view_latency.proofs.lines.add_bills.Given as goal

abbrev pub invariant-loop-p : goal.invariant-loop-p
invariant-loop-p l = string_bytes l.out ≡ string_bytes l.initial.out ++ flat_map (λ p. bill_line p (slice_index l.bills.used p)) (range_with_len 0 l.p)
