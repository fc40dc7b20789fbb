use Rattle.std.proofs.Common.{arith}
use Rattle.laws_runs.proofs.Counts.{counts_law}
use Rattle.view_replay.proofs.retracing.retrace.Goals as goal

pub step-turn-requires : goal.step-turn-requires
step-turn-requires c =
    let run = c.args.core.now in
    let sizes = (counts_law run.setup.scenario run.setup.order run.entries c.history-history.ensures.valid c.history-history.ensures.legal).sizes.cpus in
    let exists = c.requires.turn.exists in
    omega (arith, exists, sizes)
