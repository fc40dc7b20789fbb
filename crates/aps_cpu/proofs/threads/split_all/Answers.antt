use Rattle.std.proofs.Common.{rules, ◌≡◌, ℕ, ◌+◌, ◌-◌, ◌<◌, List, sym, ap, refl, ◌∙◌, subst, arith}
use Rattle.aps_core.specs.Run.{Run}
use Rattle.aps_lock.specs.Seats.{DispatchData, IsSeatOf, SeatData}
use Rattle.aps_cpu.specs.Row.{IsFresh, IsDrivable, AreSeatsInRow}
use Rattle.aps_cpu.proofs.Rows.{fresh, row_more}
use Rattle.aps_cpu.proofs.threads.split_all.Goals as goal

pub loop-seat-preserved : goal.loop-seat-preserved
loop-seat-preserved c =
    let d : DispatchData = c.args.dispatch.now in
    let run : Run = c.args.seat.seen in
    let i = c.loop-seat.invariant in
    let s : SeatData = c.loop-seat.seat in
    let n : SeatData = c.split.result in
    let last : ℕ = c.last-last.result in
    let is_last : last ≡ s.last = c.last-last.ensures.same in
    let kept = c.split.ensures.kept in
    let given = c.split.ensures.given in
    let low : s.first < last = search rules in
    let edge : n.first ≡ c.split.new.seat.last + 1 = ap (λ x. x.first) given ∙ sym (ap (λ x. x.last + 1) kept ∙ (let e : last - 1 + 1 ≡ last = omega arith in e)) in
    let row = row_more d (IsFresh run) c.loop-seat.seats.items (c.args.seat.last + 1) (s.last + 1) n i.row
    (subst (IsSeatOf d) (sym given) i.ready.0)
    (subst (IsFresh run) (sym given) (fresh run (record s { first = last; waited = 0 }) i.seen refl))
    (ap (λ x. x.last + 1) given) in record {
      ready = subst (IsDrivable d) (sym kept) (i.ready.0, refl);
      first = ap (λ x. x.first) kept ∙ i.first;
      seen = ap (λ x. x.seen) kept ∙ i.seen;
      row = subst (λ (x : List SeatData × ℕ). AreSeatsInRow d (IsFresh run) x.0 (c.args.seat.last + 1) x.1) (λ k. (sym c.push_reserved.ensures.items k, edge k)) row;
      room = omega (arith, i.room, low, is_last, ap (λ x. x.first) kept, ap (λ x. x.last) kept, c.push_reserved.ensures.len, c.push_reserved.ensures.capacity);
    }

pub returns-clause-row : goal.returns-clause-row
returns-clause-row c =
    let d : DispatchData = c.args.dispatch.now in
    let run : Run = c.args.seat.seen in
    let i = c.loop-seat.invariant in
    let s : SeatData = c.loop-seat.seat in
    let row = row_more d (IsFresh run) c.loop-seat.seats.items (c.args.seat.last + 1) (s.last + 1) s i.row i.ready.0 (fresh run s i.seen i.ready.1) refl in
    subst (λ (x : List SeatData × ℕ). AreSeatsInRow d (IsFresh run) x.0 (c.args.seat.last + 1) x.1) (λ k. (sym c.push_reserved-2.ensures.items k, i.first k)) row
