-- Which partitions had work at a pick, and which had had their share.
use Rattle.std.specs.Prelude.{ℕ, ◌++◌, List, [], ◌∷◌, length, Bool, false, not, ◌&&◌, ◌||◌, nat_eq, nat_lt, Option, Some, None}
use Rattle.aps_model.specs.declared.entry.Entry.{Entry}
use Rattle.aps_model.specs.declared.merit.PartFacts.{PartFacts}
use Rattle.aps_model.specs.declared.state.Pick.{Pick}
use Rattle.aps_model.specs.After.{state_after}
use Rattle.aps_model.specs.Budget.{part_at}
use Rattle.aps_model.specs.Pick.{contenders}
use Rattle.aps_model.specs.Scenario.{Scenario}
use Rattle.aps_model.specs.SchedulerState.{SchedulerState, cpu_at}
use Rattle.aps_core.specs.Scan.{has_candidate}
use Rattle.laws_load.specs.Passing.{parts_now}
use Rattle.view_samples.specs.Along.{any_of}

-- the pick bills this partition
abbrev pub bills : Option Pick → ℕ → Bool
bills None p = false
bills (Some pick) p = nat_eq pick.partition p

-- The partition had a candidate at the last pick of processor c, which made this state: it is the one that was picked, or it is
-- left. A row that doesn't exist has none.
abbrev pub had_candidate : SchedulerState → List Entry → ℕ → ℕ → Bool
had_candidate s h c p = bills (cpu_at s c).running p || has_candidate (parts_now s h) p (contenders s)

-- the partition is in budget at the last pick; a row that doesn't exist isn't
abbrev pub is_in_budget : SchedulerState → List Entry → ℕ → Bool
is_in_budget s h p = (part_at (parts_now s h) p).funded

-- somebody was picked, out of budget and not critically: where this is what the pick fixed, and the partitions stand so
abbrev pub is_unfunded : List PartFacts → Option ℕ → Option Pick → Bool
is_unfunded parts None pick = false
is_unfunded parts (Some x) None = false
is_unfunded parts (Some x) (Some pick) = not (part_at parts pick.partition).funded && not pick.critical

-- at the pick of the entry, which follows on these, the partition had no candidate
abbrev pub lacks_test : Scenario → ℕ → List Entry → Entry → Bool
lacks_test scenario p before e = not (had_candidate (state_after scenario (before ++ e ∷ [])) (before ++ e ∷ []) e.cpu p)

-- at some pick of ticks a to b-1 it had none
unfoldable pub lacks : Scenario → List Entry → ℕ → ℕ → ℕ → Bool
lacks scenario h p a b = any_of (lacks_test scenario p) scenario.shape.tick a b h

-- the same of a partition that wasn't in budget: it had had its whole share
abbrev pub out_test : Scenario → ℕ → List Entry → Entry → Bool
out_test scenario p before e = not (is_in_budget (state_after scenario (before ++ e ∷ [])) (before ++ e ∷ []) p)

unfoldable pub was_out : Scenario → List Entry → ℕ → ℕ → ℕ → Bool
was_out scenario h p a b = any_of (out_test scenario p) scenario.shape.tick a b h

-- the step of the entry, which follows on these, made a change
abbrev pub changes_by : Scenario → List Entry → Entry → Bool
changes_by scenario before e =
    nat_lt (length (state_after scenario before).changes) (length (state_after scenario (before ++ e ∷ [])).changes)

-- some step of ticks a to b-1 did
unfoldable pub changes_in : Scenario → List Entry → ℕ → ℕ → Bool
changes_in scenario h a b = any_of (changes_by scenario) scenario.shape.tick a b h
