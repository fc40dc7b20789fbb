use Rattle.std.proofs.Common.{sym, subst}
use Rattle.aps_core.specs.Run.{IsLater, Run}
use Rattle.aps_cpu.proofs.Turns.{later_trans}
use Rattle.aps_cpu.proofs.threads.run_all.Goals.{in-Err, in-Ok}
use Rattle.aps_cpu.proofs.threads.run_all.Goals as goal

pub returns-clause-later : goal.returns-clause-later
returns-clause-later g c =
    let seen : Run = c.args.seat.seen in
    let driven : IsLater seen c.match-with_capacity.seat.seen = elim c.match-with_capacity.branch [
      | in-Ok w ↦ subst (λ s. IsLater seen s.seen) (sym w.seat-is) w.drive_all-seat.ensures.later.seen
      | in-Err w ↦ subst (λ s. IsLater seen s.seen) (sym w.seat-is) w.drive.ensures.seat.seen
    ] in
    later_trans seen c.close.result c.finished.result (subst (IsLater seen) (sym c.close.ensures) driven) c.finished.ensures.later
