use Rattle.std.proofs.Common.{◌≡◌, ◌≢◌, ap, subst, ◌∙◌}
use Rattle.aps_model.specs.declared.shape.Shape.{Shape}
use Rattle.aps_model.specs.Limits.{thousandths}
use Rattle.aps_model.specs.Scenario.{Scenario}
use Rattle.aps_model.specs.Valid.{IsScenario}
use Rattle.aps_scenario.proofs.Upgrades.{IsScenario-scaled, parts_small}
use Rattle.aps_scenario.proofs.upgrading.upgrade.Goals as goal

pub new-requires : goal.new-requires
new-requires c =
    let taken = c.into_parts-partitions.ensures.parts in
    let valid = subst IsScenario taken c.into_parts-partitions.ensures.valid in
    let shape : c.shape.result.now ≡ c.into_parts-partitions.result.0 = c.shape.ensures.same ∙ ap (λ (s : Scenario). s.shape) taken in
    let other : c.into_parts-partitions.result.0.parts ≢ thousandths = λ e. c.if-shape-eq-PARTS.false (ap (λ (sizes : Shape). sizes.parts) shape ∙ e) in
    rw (c.upgrade_rows.ensures, c.upgrade_commands.ensures) (IsScenario-scaled _ valid (parts_small c.into_parts-partitions.result.0 valid.shape other))
