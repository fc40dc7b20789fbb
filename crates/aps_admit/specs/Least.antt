-- What a budget gives, and the least budget that gives some time.
use Rattle.std.specs.Prelude.{ℕ, ◌*◌, ◌/◌, ◌≤◌}
use Rattle.std.specs.Int.{div_ceil}
use Rattle.aps_model.specs.declared.shape.Shape.{Shape}
use Rattle.aps_model.specs.Shape.{whole}

-- the slack of so many demands: one tick of each processor for each of them
abbrev pub total_slack : Shape → ℕ → ℕ
total_slack shape demands = demands * shape.cpus * shape.tick

-- what so many parts give in a window
abbrev pub allowance : Shape → ℕ → ℕ
allowance shape budget = budget * whole shape / shape.parts

-- the budget gives at least this time, and no smaller one does
pub record IsLeastBudget (shape : Shape) (time budget : ℕ) : Type 0 where
  pub enough : time ≤ allowance shape budget
  pub least : (other : ℕ) → time ≤ allowance shape other → budget ≤ other

-- the same by computing
abbrev pub least_budget : Shape → ℕ → ℕ
least_budget shape time = div_ceil (shape.parts * time) (whole shape)
