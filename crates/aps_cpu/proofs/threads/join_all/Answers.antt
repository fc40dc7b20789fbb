use Rattle.std.proofs.Common.{◌≡◌, ℕ, ◌+◌, ◌∷◌, [], ◌++◌, List, sym, ap, ◌∙◌, subst, option_to_list}
use Rattle.aps_core.specs.Run.{IsLater}
use Rattle.aps_lock.specs.Seats.{DispatchData, SeatData}
use Rattle.aps_cpu.specs.Row.{HasSeenFrom, AreSeatsInRow}
use Rattle.aps_cpu.proofs.Rows.{later_longer, row_less}
use Rattle.aps_cpu.proofs.threads.join_all.Goals as goal

pub loop-next-init : goal.loop-next-init
loop-next-init c =
    let d : DispatchData = c.args.dispatch.now in
    let w : SeatData = c.args.whole.value in
    let s : SeatData = c.unwrap-seat.result in
    let items : c.args.seats.items ≡ c.pop.new.self.items ++ s ∷ [] = c.pop.ensures.items ∙ ap (λ o. c.pop.new.self.items ++ option_to_list o) c.unwrap-seat.ensures in
    let less = row_less d (HasSeenFrom w.seen) c.pop.new.self.items (w.last + 1) w.first s (subst (λ (ss : List SeatData). AreSeatsInRow d (HasSeenFrom w.seen) ss (w.last + 1) w.first) items c.requires.row) in
    record { of = less.1.0; first = less.2; seen = less.1.1; row = less.0 }

pub join-requires-clause-other : goal.join-requires-clause-other
join-requires-clause-other c =
    let w : SeatData = c.args.whole.value in
    let above : ℕ = c.loop-next.seat.last + 1 in
    let row : AreSeatsInRow c.args.dispatch.now (HasSeenFrom w.seen) (c.pop-in-loop-next.new.self.items ++ c.in-Some.next ∷ []) (w.last + 1) above = subst (λ (ss : List SeatData). AreSeatsInRow c.args.dispatch.now (HasSeenFrom w.seen) ss (w.last + 1) above) c.in-Some.ensures.items c.loop-next.invariant.row in
    (row_less c.args.dispatch.now (HasSeenFrom w.seen) c.pop-in-loop-next.new.self.items (w.last + 1) above c.in-Some.next row).1.0

pub join-requires-clause-next : goal.join-requires-clause-next
join-requires-clause-next c =
    let w : SeatData = c.args.whole.value in
    let above : ℕ = c.loop-next.seat.last + 1 in
    let row : AreSeatsInRow c.args.dispatch.now (HasSeenFrom w.seen) (c.pop-in-loop-next.new.self.items ++ c.in-Some.next ∷ []) (w.last + 1) above = subst (λ (ss : List SeatData). AreSeatsInRow c.args.dispatch.now (HasSeenFrom w.seen) ss (w.last + 1) above) c.in-Some.ensures.items c.loop-next.invariant.row in
    sym (row_less c.args.dispatch.now (HasSeenFrom w.seen) c.pop-in-loop-next.new.self.items (w.last + 1) above c.in-Some.next row).2

pub loop-next-preserved : goal.loop-next-preserved
loop-next-preserved c =
    let d : DispatchData = c.args.dispatch.now in
    let w : SeatData = c.args.whole.value in
    let i = c.loop-next.invariant in
    let s : SeatData = c.loop-next.seat in
    let n : SeatData = c.in-Some.next in
    let less = row_less d (HasSeenFrom w.seen) c.pop-in-loop-next.new.self.items (w.last + 1) (s.last + 1) n (subst (λ (ss : List SeatData). AreSeatsInRow d (HasSeenFrom w.seen) ss (w.last + 1) (s.last + 1)) c.in-Some.ensures.items i.row) in
    let joined = c.join.ensures.seat in record {
      of = c.join.ensures.of;
      first = ap (λ x. x.first) joined ∙ i.first;
      seen = subst (IsLater w.seen) (sym (ap (λ x. x.seen) joined)) (later_longer w.seen s.seen n.seen i.seen less.1.1);
      row = subst (λ (k : ℕ). AreSeatsInRow d (HasSeenFrom w.seen) c.pop-in-loop-next.new.self.items (w.last + 1) k) (sym (ap (λ x. x.last + 1) joined)) less.0;
    }
