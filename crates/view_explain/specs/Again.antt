-- When a partition that is out of budget is in budget again.
use Rattle.std.specs.Prelude.{ℕ, ◌+◌, ◌*◌, Bool, Option}
use Rattle.std.specs.List.{find, range_with_len}
use Rattle.std.specs.Option.{option_map}
use Rattle.aps_model.specs.Budget.{in_budget}
use Rattle.aps_model.specs.SchedulerState.{row_at}
use Rattle.aps_model.specs.Usage.{window_used}
use Rattle.view_explain.specs.Past.{Past, state_of_past, tick_in}

-- no window that is asked about is at a later tick: it lies more than a window after the last tick
abbrev pub last_tick_back : ℕ
last_tick_back = 100001000

-- partition p is in budget in the window at tick k, where nothing more is billed
abbrev pub is_back : Past → ℕ → ℕ → Bool
is_back past p k =
    in_budget (state_of_past past).shape (window_used (state_of_past past).shape past.entries k p) (row_at (state_of_past past) p).budget

-- the first tick from the last entry's on in which that holds. A window on nothing is left of what was billed.
abbrev pub tick_back : Past → ℕ → Option ℕ
tick_back past p = find (is_back past p) (range_with_len (tick_in past) ((state_of_past past).shape.window + 1))

-- the boundary at which that tick begins; there is none where the partition has no budget
abbrev pub again : Past → ℕ → Option ℕ
again past p = option_map (λ k. k * (state_of_past past).shape.tick) (tick_back past p)
