-- Enough threads of each partition that has a budget, so that nobody is starved.
use Rattle.std.specs.Prelude.{◌≡◌, ℕ, ◌<◌, ◌≤◌, length, Bool, true, false, ◌&&◌, nat_eq}
use Rattle.std.specs.List.{range_with_len, sum_by}
use Rattle.aps_model.specs.declared.state.State.{State}
use Rattle.aps_model.specs.declared.state.State.TheVariants.{Ready, Running}
use Rattle.laws_runs.specs.Waits.{one_if, state_at}
use Rattle.aps_model.specs.Inherit.{facts_of}
use Rattle.aps_model.specs.SchedulerState.{SchedulerState, row_at}

abbrev pub is_active : State → Bool
is_active Ready = true
is_active (Running c) = true
is_active state = false

-- how many threads are ready or run, and have this partition by inheritance
abbrev pub active_of : SchedulerState → ℕ → ℕ
active_of s p =
    sum_by (λ x. one_if (is_active (state_at s x) && nat_eq (facts_of s x).partition p)) (range_with_len 0 (length s.threads))

-- there is no limit, and each partition with a budget has as many of them as there are processors
pub record HasEnough (s : SchedulerState) : Type 0 where
  pub unlimited : s.shape.limit ≡ false
  pub threads : (p : ℕ) → p < length s.rows → 0 < (row_at s p).budget → s.shape.cpus ≤ active_of s p
