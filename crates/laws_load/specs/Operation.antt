-- An operation that loses no time.
use Rattle.std.specs.Prelude.{◌≡◌, ℕ, ◌+◌, ◌<◌, ◌⊎◌, ◌++◌, List, ◌∷◌, Some}
use Rattle.aps_model.specs.declared.entry.Entry.{Entry}
use Rattle.aps_model.specs.declared.state.State.TheVariants.{Ready, Running}
use Rattle.aps_model.specs.After.{state_after}
use Rattle.aps_model.specs.Due.{last_end}
use Rattle.aps_model.specs.Scenario.{Scenario}
use Rattle.aps_model.specs.SchedulerState.{SchedulerState, thread_at}
use Rattle.laws_runs.specs.Moments.{moment}
use Rattle.laws_runs.specs.Waits.{state_at}
use Rattle.laws_load.specs.Response.{IsRunning, class_now, rivals}

-- from where on the thread's operation goes: the last moment where it is ready, its processor's last step where it runs
abbrev pub GoesFrom : SchedulerState → List Entry → ℕ → ℕ → Type 0
GoesFrom s h x start =
    ((state_at s x ≡ Ready) × (start ≡ moment h)) ⊎ ((c : ℕ) × (state_at s x ≡ Running c) × (start ≡ last_end h c))

-- thread x is in the operation at this place of its program, and will have done it at the moment `end` if it loses no time
pub record IsInOperation (s : SchedulerState) (h : List Entry) (x place end : ℕ) : Type 0 where
  pub start : ℕ
  pub left : ℕ
  pub stands : (thread_at s x).place ≡ place
  pub left_is : (thread_at s x).left ≡ Some left
  pub from : GoesFrom s h x start
  pub sum : start + left ≡ end

-- the thread runs whenever time passes, after the history and before one of these further entries
abbrev pub RunsOn : Scenario → List Entry → List Entry → ℕ → Type 0
RunsOn scenario h more x =
    (before later : List Entry) (e : Entry)
    → more ≡ before ++ e ∷ later
    → moment (h ++ before) < e.to
    → IsRunning (state_after scenario (h ++ before)) x

-- up to one of these further entries the operation was under way, and that entry ran the thread until the moment `end`
pub record RanUntil (scenario : Scenario) (h more : List Entry) (x place end : ℕ) : Type 0 where
  pub before : List Entry
  pub later : List Entry
  pub e : Entry
  pub same : more ≡ before ++ e ∷ later
  pub way : IsInOperation (state_after scenario (h ++ before)) (h ++ before) x place end
  pub ran : e.ran ≡ Some x
  pub to : e.to ≡ end

-- the thread is of class 1, and fewer outrank it than there are processors
pub record HasFewRivals (s : SchedulerState) (h : List Entry) (x : ℕ) : Type 0 where
  pub class : class_now s h x ≡ 1
  pub few : rivals s h x < s.shape.cpus

-- it is so whenever time passes, after the history and before one of these further entries
abbrev pub StaysAhead : Scenario → List Entry → List Entry → ℕ → Type 0
StaysAhead scenario h more x =
    (before later : List Entry) (e : Entry)
    → more ≡ before ++ e ∷ later
    → moment (h ++ before) < e.to
    → HasFewRivals (state_after scenario (h ++ before)) (h ++ before) x

-- after these further entries the operation is under way with the same end, or one of them ran the thread until then; and
-- if a moment later than that has come, one did
pub record IsDoneInTime (scenario : Scenario) (h more : List Entry) (x place end : ℕ) : Type 0 where
  pub so_far : IsInOperation (state_after scenario (h ++ more)) (h ++ more) x place end ⊎ RanUntil scenario h more x place end
  pub at_last : end < moment (h ++ more) → RanUntil scenario h more x place end
