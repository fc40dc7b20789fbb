use Rattle.std.proofs.Common.{refl}
use Rattle.aps_core.specs.Run.{Setup}
use Rattle.aps_core.proofs.Kept.{begun_core}
use Rattle.aps_core.proofs.simulator.Core.boot.Goals as goal

pub invariant_of-result : goal.invariant_of-result
invariant_of-result c =
    let setup : Setup = record { scenario = c.args.scenario; order = c.args.order; limit = c.args.limit } in
    rw c.in_ok-history.ensures
    (record {
      core =
          begun_core setup _ c.in_ok-scheduler.scheduler.machine
          (record { valid = c.commands.ensures.valid; some = c.requires.some; few = c.requires.few })
          (rw (c.commands.ensures.same, c.most_changes-changes.ensures) refl)
          c.in_ok-scheduler.ensures.machine;
      after = c.in_ok-scheduler.ensures.after;
    })
