use Rattle.std.proofs.Common.{◌≡◌, ℕ, ◌∙◌, ◌++◌, List, ap, string_bytes, arith}
use Rattle.std.specs.Prelude.{slice_index}
use Rattle.std.specs.List.{flat_map, range_with_len}
use Rattle.aps_model.specs.Limits.{most_partitions}
use Rattle.view_latency.specs.Text.{bill_line, bill_lines}
use Rattle.view_latency.proofs.Pieces.{number_more}
use Rattle.view_latency.proofs.lines.add_bills.Goals as goal

pub loop-p-preserved : goal.loop-p-preserved
loop-p-preserved c = number_more (λ p. bill_line p (slice_index c.args.bills.now.used p)) _ _ _ c.loop-p.p c.loop-p.invariant c.in_ok-add_bill.ensures

pub returns : goal.returns
unfolding bill_lines
returns c =
    let all : c.loop-p.p ≡ most_partitions = omega arith in
    let line : ℕ → List ℕ = λ p. bill_line p (slice_index c.args.bills.now.used p) in
    c.loop-p.invariant ∙ ap (λ n. string_bytes c.args.out.now ++ flat_map line (range_with_len 0 n)) all
