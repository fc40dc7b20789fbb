use Rattle.std.proofs.Common.{◌∙◌, drop, ap}
use Rattle.aps_core.specs.Run.{Run}
use Rattle.view_value_changes.specs.declared.retracing.Retraced.{Retraced}
use Rattle.view_value_changes.specs.Dump.{told_with}
use Rattle.view_value_changes.specs.Told.{pick_noted}
use Rattle.view_value_changes.proofs.Dumped.{same_telling}
use Rattle.view_value_changes.proofs.dump.Dump.go_on.Goals as goal

pub returns-clause-telling : goal.returns-clause-telling
returns-clause-telling c =
    let self = c.args.self.now in
    let e = c.args.e.now in
    let left = drop self.passed c.args.overspent.now in
    same_telling _ _ _ _ _ _ _ _
    (ap (λ (x : Retraced). x.core.entries) c.pass.ensures.at ∙ ap (λ (r : Run). r.entries) c.go_on.ensures.core)
    (c.pass.ensures.told ∙ ap (told_with e left) (c.note_pick.ensures ∙ ap (λ (r : Run). pick_noted r e self.told) c.go_on.ensures.core))
    c.pass.ensures.before c.pass.ensures.left
