use Rattle.std.proofs.Common.{◌+◌, sym, ◌∙◌, ap}
use Rattle.aps_model.specs.Usage.{critical_used, used}
use Rattle.laws_runs.proofs.HeldRows.{tick_in_order}
use Rattle.view_samples.specs.Sample.{critical_at_tick, first_at, used_at}
use Rattle.laws_views.proofs.Printed.{at_each}
use Rattle.laws_views.proofs.samples.usage_is_the_windows.Goals as goal

pub returns-clause-used : goal.returns-clause-used
returns-clause-used c = λ scenario order h j p valid legal exists.
    at_each (used_at scenario h j) p exists
    ∙ ap (λ n. used n h p (first_at scenario h j) (j + 1)) (sym (tick_in_order scenario order h j valid legal).sizes.tick)

pub returns-clause-critical : goal.returns-clause-critical
returns-clause-critical c = λ scenario order h j p valid legal exists.
    at_each (critical_at_tick scenario h j) p exists
    ∙ ap (λ n. critical_used n h p (first_at scenario h j) (j + 1)) (sym (tick_in_order scenario order h j valid legal).sizes.tick)
