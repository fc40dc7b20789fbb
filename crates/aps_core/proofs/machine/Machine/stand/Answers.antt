use Rattle.std.proofs.Common.{ap, ◌∙◌, length, All, subst, sym, arith}
use Rattle.aps_model.specs.Partition.{IsRow}
use Rattle.aps_model.specs.SchedulerState.{SchedulerState}
use Rattle.aps_core.specs.Counts.{parts_in}
use Rattle.aps_core.proofs.Rows.{row_ranges}
use Rattle.aps_core.proofs.machine.Machine.stand.Goals as goal

pub fill_parts-requires-clause-rows : goal.fill_parts-requires-clause-rows
fill_parts-requires-clause-rows c = subst (All IsRow) (sym c.rows.ensures.same) (row_ranges c.self.inside.tree c.rows.ensures.keeps)

pub returns-clause-same : goal.returns-clause-same
returns-clause-same c =
    c.fill_parts.ensures.same
    ∙ rw c.rows.ensures.same (ap (λ (m : SchedulerState). parts_in m.shape m.rows c.args.window.now) c.self.view_is)

pub returns-clause-few : goal.returns-clause-few
returns-clause-few c = let few = c.rows.ensures.keeps.named.few in omega (arith, few, ap (λ (m : SchedulerState). length m.rows) c.self.view_is)
