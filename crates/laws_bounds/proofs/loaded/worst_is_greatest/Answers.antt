use Rattle.std.proofs.Common.{◌+◌, ◌-◌, length}
use Rattle.aps_model.specs.Audit.{critical_over_from, over_from, short_from}
use Rattle.aps_model.specs.Loaded.{finished_ticks, loaded_tick}
use Rattle.laws_bounds.proofs.Worst.{worst_told}
use Rattle.laws_bounds.proofs.loaded.worst_is_greatest.Goals as goal

pub returns-clause-over : goal.returns-clause-over
returns-clause-over c = λ h. worst_told (over_from h) (loaded_tick h.shape h.entries h.changes) (finished_ticks h.shape h.entries + 1 - (loaded_tick h.shape h.entries h.changes + h.shape.window)) (length h.rows)

pub returns-clause-short : goal.returns-clause-short
returns-clause-short c = λ h. worst_told (short_from h) (loaded_tick h.shape h.entries h.changes) (finished_ticks h.shape h.entries + 1 - (loaded_tick h.shape h.entries h.changes + h.shape.window)) (length h.rows)

pub returns-clause-critical : goal.returns-clause-critical
returns-clause-critical c = λ h. worst_told (critical_over_from h) (loaded_tick h.shape h.entries h.changes) (finished_ticks h.shape h.entries + 1 - (loaded_tick h.shape h.entries h.changes + h.shape.window)) (length h.rows)
