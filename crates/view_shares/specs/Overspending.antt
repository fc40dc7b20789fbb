-- How far a pass over the entries of a history has come that tells who overspends.
use Rattle.std.specs.Prelude.{◌≡◌, ℕ, ◌-◌, ◌<◌, ◌≤◌, List, ◌&&◌, nat_eq, nat_lt, if◌then◌else◌, slice_index_or, Option, Some, None, IfSome}
use Rattle.aps_model.specs.Limits.{most_partitions}
use Rattle.aps_model.specs.Valid.{IsScenario}
use Rattle.laws_runs.specs.Moments.{moment}
use Rattle.aps_window.specs.Window.{resized, total_of}
use Rattle.view_replay.specs.Retraced.{scenario_of_run}
use Rattle.view_shares.specs.declared.critical_budget.CriticalBudget.{CriticalBudget}
use Rattle.view_shares.specs.declared.usages.Usages.{Usages}
use Rattle.view_shares.specs.declared.overspending.Pass.{Pass}
use Rattle.view_shares.specs.declared.spent.Spent.{Spent}
use Rattle.view_shares.specs.Usages.{AreUsagesCounted}
use Rattle.view_shares.specs.Spent.{AreSpent}

-- the entries of its core are done: the moment is that of the last one's end, their time is counted, and who has overspent is
-- noted
pub record PassFollowsCore (pass : Pass) : Type 0 where
  pub valid : IsScenario (scenario_of_run pass.core)
  pub moment : pass.moment ≡ moment pass.core.entries
  pub counted : AreUsagesCounted (scenario_of_run pass.core) pass.core.entries pass.time
  pub spent : AreSpent (scenario_of_run pass.core) pass.core.entries pass.spent

-- what the partition of the budget used of critical time in the window of the budget
abbrev pub used_by : CriticalBudget → Usages → ℕ
used_by budget time = (total_of (resized budget.window time.window) budget.partition).critical

-- by how much partition p exceeds the budget, where that is its own and so much was used
abbrev pub excess_by : CriticalBudget → ℕ → ℕ → Option ℕ
excess_by budget used p = if nat_eq budget.partition p && nat_lt budget.ns used then Some (used - budget.ns) else None

-- more than there are entries of a run
abbrev pub most_overspent : ℕ
most_overspent = 10000000

-- so often one can go on counting
abbrev pub AreFewOverspent : List (Option Spent) → Type 0
AreFewOverspent spent = (p : ℕ) → p < most_partitions → IfSome (slice_index_or spent p None) (λ s. s.count ≤ most_overspent)
