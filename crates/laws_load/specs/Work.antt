-- Who has work at a pick, and who is of class 1 there.
use Rattle.std.specs.Prelude.{◌≡◌, ℕ, ◌/◌, ◌++◌, List, [], ◌∷◌, true}
use Rattle.aps_model.specs.declared.entry.Entry.{Entry}
use Rattle.aps_model.specs.declared.state.State.TheVariants.{Ready}
use Rattle.aps_model.specs.After.{state_after}
use Rattle.aps_model.specs.Budget.{all_parts, part_at}
use Rattle.aps_model.specs.Inherit.{facts_of}
use Rattle.aps_model.specs.Merit.{class_of}
use Rattle.aps_model.specs.Scenario.{Scenario}
use Rattle.aps_model.specs.SchedulerState.{SchedulerState}
use Rattle.laws_runs.specs.Choices.{state_to_pick}
use Rattle.laws_runs.specs.Waits.{state_at}
use Rattle.laws_bounds.specs.Kinds.{is_funded}
use Rattle.laws_bounds.specs.Served.{IsServedPick}

-- the state that the entry's pick chooses from; these are the entries before it
abbrev pub chosen_from : Scenario → List Entry → Entry → SchedulerState
chosen_from scenario before e = state_to_pick scenario (state_after scenario before) before e.cpu

-- the class that a thread has in this state, with the partitions by their usage in this history at this moment
abbrev pub class_at : SchedulerState → List Entry → ℕ → ℕ → ℕ
class_at s h now x =
    class_of (facts_of s x) (part_at (all_parts s.shape s.rows h (now / s.shape.tick)) (facts_of s x).partition)

-- at the pick some ready thread is of class 1
pub record HasClassOne (scenario : Scenario) (before : List Entry) (e : Entry) : Type 0 where
  pub thread : ℕ
  pub ready : state_at (chosen_from scenario before e) thread ≡ Ready
  pub class : class_at (chosen_from scenario before e) (before ++ e ∷ []) e.to thread ≡ 1

-- at the pick the partition has work: some ready thread, the one that is picked among them, is scheduled by it
pub record HasWork (scenario : Scenario) (before : List Entry) (e : Entry) (p : ℕ) : Type 0 where
  pub thread : ℕ
  pub ready : state_at (chosen_from scenario before e) thread ≡ Ready
  pub partition : (facts_of (chosen_from scenario before e) thread).partition ≡ p

-- the pick is of class 1 exactly where some ready thread is; so it is where a partition that is in budget has work
pub record ServesClassOne (scenario : Scenario) (before : List Entry) (e : Entry) : Type 0 where
  pub serves : HasClassOne scenario before e → IsServedPick scenario before e
  pub only : IsServedPick scenario before e → HasClassOne scenario before e
  pub work : (p : ℕ) → is_funded scenario (before ++ e ∷ []) p ≡ true → HasWork scenario before e p
      → IsServedPick scenario before e
