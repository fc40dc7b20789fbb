-- The lines of all threads, by what is known of them.
use Rattle.std.proofs.Common.{◌≡◌, ℕ, ◌+◌, ◌<◌, ◌≤◌, List, [], ◌∷◌, length, refl, ap, arith}
use Rattle.std.specs.List.{flat_map, enumerate_from}
use Rattle.aps_model.specs.declared.entry.Entry.{Entry}
use Rattle.aps_model.specs.declared.scenario.ThreadRow.{ThreadRow}
use Rattle.aps_model.specs.Limits.{most_partitions, most_threads}
use Rattle.aps_model.specs.Scenario.{Scenario}
use Rattle.view_latency.specs.Bills.{AreBills, bill_at, billed_time}
use Rattle.view_latency.specs.Text.{HasPlaces, IsKnown, Known, bill_line, bill_lines, thread_latency_text, thread_by_known}
use Rattle.view_latency.proofs.Pieces.{pieces_same}

bills_same : (h : List Entry) (known : Known) (x : ℕ) → AreBills h known.bills → x < most_threads → bill_lines (bill_at known.bills x) ≡ bill_lines (billed_time h x)
unfolding bill_lines
bills_same h known x are less =
    pieces_same (λ p. bill_line p (bill_at known.bills x p)) (λ p. bill_line p (billed_time h x p)) most_partitions (λ p below. ap (bill_line p) (are.each x p less below))

pub lines_same : (scenario : Scenario) (h : List Entry) (known : Known) → IsKnown scenario h known → length scenario.threads ≤ most_threads
    → (n : ℕ) (rows : List ThreadRow) → n + length rows ≤ length scenario.threads
    → flat_map (thread_by_known scenario.channels known) (enumerate_from n rows) ≡ flat_map (thread_latency_text scenario h) (enumerate_from n rows)
lines_same scenario h known is few n [] room = refl
lines_same scenario h known is few n (row ∷ rows) room =
    rw (is.end, is.lives.each n (omega arith), is.calls.each n (omega arith), bills_same h known n is.bills (omega arith), lines_same scenario h known is few (n + 1) rows (omega arith)) refl

pub places : (scenario : Scenario) (h : List Entry) (known : Known) → IsKnown scenario h known → length scenario.threads ≤ most_threads → HasPlaces (length scenario.threads) known
places scenario h known is few = λ x less.
    let bills = is.bills.count in
    let lives = is.lives.count in
    let calls = is.calls.count in
    record { bills = omega (arith, bills, less, few); lives = omega (arith, lives, less); calls = omega (arith, calls, less) }
