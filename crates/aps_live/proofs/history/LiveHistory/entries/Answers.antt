use Rattle.std.proofs.Common.{subst}
use Rattle.aps_live.specs.LiveBound.{KeepsLiveBound}
use Rattle.aps_live.specs.LiveHistory.{entries_of}
use Rattle.aps_live.specs.LiveRun.{LiveRun}
use Rattle.aps_live.proofs.Bounds.{bound}
use Rattle.aps_live.proofs.history.LiveHistory.entries.Goals as goal

pub returns-clause-bound : goal.returns-clause-bound
returns-clause-bound c =
    let keeps = c.entries.ensures.keeps in
    subst (λ (run : LiveRun). KeepsLiveBound run.setup.scenario (entries_of run.steps)) c.self.view_is (bound c.self.inside.core.setup.scenario c.self.inside.core.steps keeps.valid keeps.live)
