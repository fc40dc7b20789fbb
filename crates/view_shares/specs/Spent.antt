-- By how much partitions overspend their critical budgets. Times are ns.
use Rattle.std.specs.Prelude.{◌≡◌, ◌<◌, slice_index_or, ℕ, ◌+◌, ◌-◌, ◌/◌, ◌++◌, List, [], ◌∷◌, nat_lt, if◌then◌else◌, Option, Some, None, option_and_then}
use Rattle.aps_model.specs.declared.entry.Entry.{Entry}
use Rattle.aps_model.specs.After.{state_after}
use Rattle.aps_model.specs.Bill.{bankrupt}
use Rattle.aps_model.specs.Limits.{most_partitions}
use Rattle.aps_model.specs.Scenario.{Scenario}
use Rattle.aps_model.specs.SchedulerState.{SchedulerState, row_at}
use Rattle.aps_model.specs.Usage.{names, window_critical}
use Rattle.laws_runs.specs.Between.{after_tick}
use Rattle.view_samples.specs.declared.overspent.Overspent.{Overspent}
use Rattle.view_shares.specs.declared.spent.Spent.{Spent}

-- the rows and the shape at the test of bankruptcy in the step of the entry, which follows on these: those after the work of the
-- tick, which the bill leaves as they are
abbrev pub state_tested : Scenario → List Entry → Entry → SchedulerState
state_tested scenario before e = after_tick scenario (state_after scenario before) before e.cpu

-- by how much the partition's critical usage in the window at tick j exceeds its critical budget
abbrev pub excess_in : SchedulerState → List Entry → ℕ → ℕ → ℕ
excess_in s h j p = window_critical s.shape h j p - (row_at s p).critical

-- the same, where the entry, which ends h, makes partition p bankrupt
abbrev pub excess_at : SchedulerState → List Entry → Entry → ℕ → Option ℕ
excess_at s h e p = if names (bankrupt s h e) p then Some (excess_in s h (e.to / s.shape.tick) p) else None

-- the partition overspends so much at this moment, if it does
abbrev pub overspent_as : ℕ → ℕ → Option ℕ → Option Overspent
overspent_as moment p None = None
overspent_as moment p (Some excess) = Some (record { moment = moment; partition = p; excess = excess })

-- what there is, as a list
abbrev pub overspent_listed : Option Overspent → List Overspent
overspent_listed None = []
overspent_listed (Some overspent) = overspent ∷ []

abbrev pub excess_of : Scenario → ℕ → List Entry → Entry → Option ℕ
excess_of scenario p before e = excess_at (state_tested scenario before e) (before ++ e ∷ []) e p

-- what the entry, which follows on these, overspends: the partition that it bills, at its end
abbrev pub overspent_by : Scenario → List Entry → Entry → Option Overspent
overspent_by scenario before e = option_and_then (λ p. overspent_as e.to p (excess_of scenario p before e)) e.billed

-- what the entries overspend, which follow on these
abbrev pub overspent_from : Scenario → List Entry → List Entry → List Overspent
overspent_from scenario before [] = []
overspent_from scenario before (e ∷ es) = overspent_listed (overspent_by scenario before e) ++ overspent_from scenario (before ++ e ∷ []) es

-- each entry of a history that makes its partition bankrupt, in order
unfoldable pub overspent_of : Scenario → List Entry → List Overspent
overspent_of scenario h = overspent_from scenario [] h

-- overspent once more, at this moment, by so much
abbrev pub spent_once : Option Spent → ℕ → ℕ → Spent
spent_once None moment excess = record { count = 1; first = moment; worst = excess; at = moment }
spent_once (Some s) moment excess = record {
  count = s.count + 1;
  first = s.first;
  worst = if nat_lt s.worst excess then excess else s.worst;
  at = if nat_lt s.worst excess then moment else s.at;
}

abbrev pub spent_with : Option Spent → ℕ → Option ℕ → Option Spent
spent_with spent moment None = spent
spent_with spent moment (Some excess) = Some (spent_once spent moment excess)

-- over the entries, which follow on these
abbrev pub spent_from : Scenario → ℕ → Option Spent → List Entry → List Entry → Option Spent
spent_from scenario p spent before [] = spent
spent_from scenario p spent before (e ∷ es) =
    spent_from scenario p (spent_with spent e.to (excess_of scenario p before e)) (before ++ e ∷ []) es

-- how often entries make partition p bankrupt, first when, and the first of the greatest excess
unfoldable pub spent_of : Scenario → List Entry → ℕ → Option Spent
spent_of scenario h p = spent_from scenario p None [] h

-- this is so of each partition
abbrev pub AreSpent : Scenario → List Entry → List (Option Spent) → Type 0
AreSpent scenario h spent = (p : ℕ) → p < most_partitions → slice_index_or spent p None ≡ spent_of scenario h p
