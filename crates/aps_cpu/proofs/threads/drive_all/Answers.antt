use Rattle.std.proofs.Common.{◌≡◌, ℕ, ◌+◌, ◌<◌, List, ◌++◌, take, drop, length, slice_index_or, sym, ap, ◌∙◌, subst}
use Rattle.aps_lock.specs.Seats.{DispatchData, SeatData}
use Rattle.aps_cpu.specs.Driven.{IsOnFrom}
use Rattle.aps_cpu.specs.Row.{HasSeenFrom, IsDrivable, AreSeatsInRow}
use Rattle.aps_cpu.proofs.Rows.{row_driven, row_ready, whole_slice}
use Rattle.aps_cpu.proofs.threads.drive_all.Goals as goal

pub drive_each-requires-clause-ready : goal.drive_each-requires-clause-ready
drive_each-requires-clause-ready g c κs within =
    let d : DispatchData = c.args.dispatch.now in
    let s : SeatData = c.args.seat in
    subst (λ (ss : List SeatData). (k : ℕ) (z : SeatData) → k < length ss → IsDrivable d (slice_index_or ss k z)) (sym c.as_mut_slice.ensures.value) (row_ready d s.seen c.split_all.new.seats.items (s.last + 1) s.first c.split_all.ensures.row)

pub join_all-requires-clause-row : goal.join_all-requires-clause-row
join_all-requires-clause-row g c =
    let d : DispatchData = c.args.dispatch.now in
    let s : SeatData = c.args.seat in
    let ys : List SeatData = c.drive_each.new.seats in
    let xs : List SeatData = c.split_all.new.seats.items in
    let same : c.as_mut_slice.result.now ≡ xs = c.as_mut_slice.ensures.value in
    let len : length ys ≡ length xs = c.drive_each.ensures.0 ∙ ap (λ (l : List SeatData). length l) same in
    let on = subst (λ (l : List SeatData). (i : ℕ) (z : SeatData) → i < length l → IsOnFrom (slice_index_or l i z) (slice_index_or ys i z)) same c.drive_each.ensures.1 in
    let row : AreSeatsInRow d (HasSeenFrom s.seen) ys (s.last + 1) s.first = row_driven d s.seen xs ys (s.last + 1) s.first len on c.split_all.ensures.row in
    let whole : take c.split_all.new.seats.len (ys ++ drop (length ys) xs) ≡ ys = whole_slice c.split_all.new.seats.len ys xs len (sym c.as_mut_slice.ensures.len ∙ ap (λ (l : List SeatData). length l) same) in
    subst (λ (x : SeatData × List SeatData). AreSeatsInRow d (HasSeenFrom x.0.seen) x.1 (x.0.last + 1) x.0.first) (λ i. (sym c.of-whole.ensures i, sym whole i)) row
