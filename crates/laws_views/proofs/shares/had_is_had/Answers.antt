use Rattle.std.proofs.Common.{sym, ◌∙◌}
use Rattle.view_samples.specs.Sample.{had_share}
use Rattle.laws_views.proofs.Had.{had_its_share}
use Rattle.laws_views.proofs.Printed.{so_each}
use Rattle.laws_views.proofs.shares.had_is_had.Goals as goal

pub returns : goal.returns
returns c = λ scenario order h j p valid legal exists finished calm had.
    had_its_share scenario order h valid legal j finished calm p (sym (so_each (had_share scenario h j) p exists) ∙ had)
