-- Whom the test in a step finds bankrupt.
use Rattle.std.specs.Prelude.{ℕ, ◌/◌, ◌++◌, List, [], ◌∷◌, Option}
use Rattle.aps_model.specs.declared.entry.Entry.{Entry}
use Rattle.aps_model.specs.After.{state_after}
use Rattle.aps_model.specs.Bill.{bankrupt}
use Rattle.aps_model.specs.Scenario.{Scenario}
use Rattle.aps_model.specs.SchedulerState.{SchedulerState, cpu_at}
use Rattle.aps_model.specs.Step.{billed}
use Rattle.view_samples.specs.declared.overspent.Overspent.{Overspent}
use Rattle.laws_runs.specs.Between.{after_tick, bill_in}
use Rattle.view_shares.specs.Spent.{excess_in, state_tested}

-- the state in which the step of processor c tests, after these entries: its tick's work is done, and its time is billed
abbrev pub state_billed : Scenario → List Entry → ℕ → SchedulerState
state_billed scenario h c =
    billed (after_tick scenario (state_after scenario h) h c) (bill_in (state_after scenario h) h c)
    (cpu_at (state_after scenario h) c).running

-- the partition that this test finds bankrupt
abbrev pub bankrupt_in : Scenario → List Entry → ℕ → Option ℕ
bankrupt_in scenario h c =
    bankrupt (state_billed scenario h c) (h ++ bill_in (state_after scenario h) h c ∷ []) (bill_in (state_after scenario h) h c)

-- the partition overspends at the entry's end, by what its critical usage exceeds its critical budget
abbrev pub overspent_at : Scenario → List Entry → Entry → ℕ → Overspent
overspent_at scenario h e p = record {
  moment = e.to;
  partition = p;
  excess = excess_in (state_tested scenario h e) (h ++ e ∷ []) (e.to / (state_tested scenario h e).shape.tick) p;
}
