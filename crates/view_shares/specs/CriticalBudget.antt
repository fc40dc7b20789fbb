-- The critical budget by which a partition is tested for bankruptcy. Times are ns.
use Rattle.std.specs.Prelude.{◌≡◌, ℕ, ◌%◌, ◌<◌, ◌≤◌, List, length, Bool, ◌&&◌, nat_eq, nat_lt, if◌then◌else◌, Option, Some, None}
use Rattle.std.specs.Option.{option_map}
use Rattle.aps_model.specs.declared.entry.Entry.{Entry}
use Rattle.aps_model.specs.declared.shape.Shape.{Shape}
use Rattle.aps_model.specs.declared.state.Pick.{Pick}
use Rattle.aps_model.specs.Partition.{row_or_none}
use Rattle.aps_model.specs.Scenario.{Scenario}
use Rattle.aps_model.specs.Shape.{horizon}
use Rattle.view_samples.specs.Pass.{entry_at}
use Rattle.view_shares.specs.declared.critical_budget.CriticalBudget.{CriticalBudget}
use Rattle.view_shares.specs.Spent.{state_tested}
use Rattle.view_shares.specs.Standing.{Standing, standing_of}

-- that of partition p, in the window of the shape
abbrev pub budget_by : Standing → ℕ → CriticalBudget
budget_by s p = record { partition = p; ns = (row_or_none s.rows p).critical; window = s.shape.window }

-- the partition that is tested after an entry: the one that it bills, where it bills critical time
abbrev pub tested_by : Entry → Option ℕ
tested_by e = if e.critical && nat_lt e.from e.to then e.billed else None

-- no entry from this place on is tested
abbrev pub AreUntestedFrom : ℕ → List Entry → Type 0
AreUntestedFrom n h = (i : ℕ) → n ≤ i → i < length h → tested_by (entry_at h i) ≡ None

-- its critical budget at the test, where the entry follows on these
abbrev pub budget_at : Scenario → List Entry → Entry → Option CriticalBudget
budget_at scenario before e = option_map (budget_by (standing_of (state_tested scenario before e))) (tested_by e)

-- the partition that a pick bills for critical time, if it does
abbrev pub billed_critically : Pick → Option ℕ
billed_critically pick = if pick.critical then Some pick.partition else None

abbrev pub critical_on : Option Pick → Option ℕ
critical_on None = None
critical_on (Some pick) = billed_critically pick

-- a budget, where the entry takes time
abbrev pub if_lasts : Entry → Option CriticalBudget → Option CriticalBudget
if_lasts e budget = if nat_lt e.from e.to then budget else None

-- a tick below the horizon begins at this moment
abbrev pub begins_tick : Shape → ℕ → Bool
begins_tick shape moment = nat_eq (moment % shape.tick) 0 && nat_lt moment (horizon shape)
