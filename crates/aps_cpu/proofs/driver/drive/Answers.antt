use Rattle.std.proofs.Common.{◌≡◌, ◌<◌, ap, sym, subst, ◌∙◌, arith}
use Rattle.aps_lock.specs.Seats.{SeatData, waited_after}
use Rattle.aps_cpu.specs.Driven.{EndsWith, IsOnFrom, most_waited}
use Rattle.aps_cpu.proofs.Turns.{HasMade, made_more, made_one, on_trans, on_turn}
use Rattle.aps_cpu.proofs.driver.drive.Goals.{in-NotYet+else-waited-ge-MOST_WAITED, in-Took}
use Rattle.aps_cpu.proofs.driver.drive.Goals as goal

pub loop-preserved : goal.loop-preserved
loop-preserved g c =
    let i = c.loop.invariant in
    let t = c.turn.ensures.turn in
    let from : SeatData = c.args.seat.now in
    let before : SeatData = c.loop.seat in
    let after : SeatData = c.turn.new.seat in
    let waited : after.waited < most_waited = elim c.match-turn.branch [
      | in-NotYet+else-waited-ge-MOST_WAITED w ↦ omega (arith, w.waited.ensures, w.if-waited-ge-MOST_WAITED.false)
      | in-Took w ↦ omega (arith, ap (λ s. s.waited) t.3, ap (waited_after before.first before.last before.waited) w.in-Took.is)
    ] in
    let ends : EndsWith from c.turn.result after = made_one from before after c.loop.cpu c.turn.result i.made i.on (omega (arith, i.low, i.on.first), omega (arith, i.high, i.on.last)) t c.turn.ensures.own in record {
      on = on_trans from before after i.on (on_turn before c.loop.cpu c.turn.result after t);
      made = made_more from after c.turn.result ends;
      low = omega (arith, c.following-cpu.ensures.within.0, c.first-first.ensures.same);
      high = omega (arith, c.following-cpu.ensures.within.1, c.last-last.ensures.same);
      waited = waited;
    }
