-- What a pick tells of the budgets of its partition.
use Rattle.std.specs.Prelude.{◌≡◌, ℕ, ◌*◌, ◌/◌, ◌<◌, ◌⊎◌, ◌++◌, Bool, false, List, [], ◌∷◌, length, Some}
use Rattle.aps_model.specs.declared.entry.Entry.{Entry}
use Rattle.aps_model.specs.After.{after, state_after}
use Rattle.aps_model.specs.Partition.{row_or_none}
use Rattle.aps_model.specs.Scenario.{Scenario}
use Rattle.aps_model.specs.SchedulerState.{SchedulerState}
use Rattle.aps_model.specs.Shape.{whole}
use Rattle.aps_model.specs.Usage.{window_critical, window_used}
use Rattle.laws_runs.specs.Choices.{MadeNoPick}
use Rattle.laws_runs.specs.Window.{Wide, wide_of}

-- the entry after these, with what its pick fixed
abbrev pub wide_at : Scenario → List Entry → Entry → Wide
wide_at scenario before e = wide_of e (state_after scenario (before ++ e ∷ []))

-- the tick of the pick
abbrev pub tick_of : SchedulerState → Entry → ℕ
tick_of t e = e.to / t.shape.tick

-- the pick keeps a partition that there is, and one that isn't critical is in budget
pub record IsFundedPick (scenario : Scenario) (h : List Entry) (e : Entry) (t : SchedulerState) : Type 0 where
  pub partition : ℕ
  pub mark : Bool
  pub keeps : (wide_at scenario h e).keeps ≡ Some (partition, mark)
  pub inside : partition < length t.rows
  pub ordinary : mark ≡ false
      → t.shape.parts * window_used t.shape (h ++ e ∷ []) (tick_of t e) partition
      < (row_or_none t.rows partition).budget * whole t.shape

-- the entry makes no pick, or its pick is such a one
abbrev pub PicksFunded : Scenario → List Entry → Entry → Type 0
PicksFunded scenario h e =
    MadeNoPick (state_after scenario h) e (after scenario (h ++ e ∷ [])).reboot
    ⊎ IsFundedPick scenario h e (state_after scenario (h ++ e ∷ []))

-- in the state that such an entry left the partition has critical budget left
abbrev pub HasCriticalLeft : List Entry → Entry → SchedulerState → ℕ → Type 0
HasCriticalLeft h e t p = window_critical t.shape (h ++ e ∷ []) (tick_of t e) p < (row_or_none t.rows p).critical
