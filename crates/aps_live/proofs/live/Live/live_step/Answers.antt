use Rattle.std.proofs.Common.{◌≡◌, ℕ, ◌+◌, ap, subst, ◌∙◌}
use Rattle.aps_live.specs.LiveRun.{LiveRun}
use Rattle.aps_seats.specs.declared.view.View.{View}
use Rattle.aps_live.specs.Seats.{LiveSeatData, own_steps}
use Rattle.aps_live.specs.RunLog.{live_log}
use Rattle.aps_seats.specs.Seen.{IsSeenIn}
use Rattle.aps_live.proofs.Own.{turn_own}
use Rattle.aps_live.proofs.live.Live.live_step.Goals as goal

pub returns-clause-own : goal.returns-clause-own
returns-clause-own g c =
    let seat : LiveSeatData = c.args.seat.now in
    let v : View LiveRun = c.seat.inside.place.me.0 in
    let idle = c.seat.invariant in
    let is = c.seat.view_is in
    let made = c.turn_place-turn.ensures in
    let found : LiveRun = made.seat.0 in
    let first : v.first ≡ seat.first = idle.from ∙ ap (λ s. s.first) is in
    let after : v.after ≡ seat.last + 1 = idle.to ∙ ap (λ s. s.last + 1) is in
    let seen : v.seen ≡ seat.seen = ap (λ s. s.seen) is in
    let in_run : IsSeenIn live_log seat.first (seat.last + 1) seat.seen found = subst (λ (x : ℕ × ℕ × LiveRun). IsSeenIn live_log x.0 x.1 x.2 found) (λ i. (first i, after i, seen i)) made.seat.1 in
    ap (λ (m : View LiveRun). own_steps seat.first seat.last m.seen.steps) (ap (λ m. m.0) made.seat.3)
    ∙ turn_own seat.first seat.last c.args.cpu seat.seen found c.args.event c.turn_place-turn.result.0 c.requires.cpu.0 c.requires.cpu.1 made.own in_run
