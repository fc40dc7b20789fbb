use Rattle.laws_runs.proofs.IdsLaw.{in_range}
use Rattle.view_explain.proofs.Sleepers.{wake_soon}
use Rattle.view_explain.proofs.scene.tick_of.Goals as goal

pub returns-clause-wakes : goal.returns-clause-wakes
returns-clause-wakes c = wake_soon _ _ _ c.history.ensures.valid c.history.ensures.legal

pub returns-clause-known : goal.returns-clause-known
returns-clause-known c = in_range _ _ _ c.history.ensures.valid c.history.ensures.legal
