use Rattle.std.proofs.Common.{◌∙◌, ℕ, List, Option, ap, subst}
use Rattle.aps_timer.specs.Sleepers.{SleepsUntil, without_all}
use Rattle.aps_timer.proofs.TakenOut.{nobody_left}
use Rattle.aps_timer.proofs.timer.Timer.take_due.Goals as goal

pub pass-requires : goal.pass-requires
pass-requires c x until asleep =
    let row = c.self.inside.asleep in
    nobody_left row c.args.now x until
    (subst (λ (r : List (Option ℕ)). SleepsUntil r x until) (c.take_out.ensures.row ∙ ap (without_all row) c.gather.ensures) asleep)
