use Rattle.std.proofs.Common.{◌∙◌, sym}
use Rattle.aps_bound.proofs.Steadiness.{loaded_is}
use Rattle.aps_bound.proofs.loaded.loaded_tick.Goals as goal

pub returns-clause-same : goal.returns-clause-same
returns-clause-same c =
    c.max.ensures
    ∙ sym (loaded_is c.args.shape.now c.args.entries.now c.args.changes.now c.args.count c.after_changes.result c.after_starved.result c.requires.count
    c.after_changes.ensures.same c.after_starved.ensures.same c.after_changes.ensures.finished c.after_starved.ensures.finished)
