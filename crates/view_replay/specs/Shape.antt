-- The parameters of a scenario, with another window.
use Rattle.std.specs.Prelude.{ℕ}
use Rattle.aps_model.specs.declared.shape.Shape.{Shape}
use Rattle.aps_model.specs.Scenario.{Scenario}

-- the scenario's shape with a window of so many ticks
abbrev pub shape_with : Scenario → ℕ → Shape
shape_with scenario window = record scenario.shape { window = window }
