-- What holds whenever time passes.
use Rattle.std.specs.Prelude.{◌≡◌, ℕ, ◌/◌, ◌<◌, ◌++◌, List, [], ◌∷◌, Option, Some, None, IsFalse}
use Rattle.aps_model.specs.declared.entry.Entry.{Entry}
use Rattle.aps_model.specs.declared.merit.Contender.{Contender}
use Rattle.aps_model.specs.declared.merit.PartFacts.{PartFacts}
use Rattle.aps_model.specs.declared.state.Pick.{Pick}
use Rattle.aps_model.specs.After.{after, state_after}
use Rattle.aps_model.specs.Budget.{all_parts}
use Rattle.aps_model.specs.Due.{due}
use Rattle.aps_model.specs.Flag.{merit_now}
use Rattle.aps_model.specs.Merit.{is_below}
use Rattle.aps_model.specs.Pick.{contenders, greatest, merit_among}
use Rattle.aps_model.specs.Scenario.{Scenario}
use Rattle.aps_model.specs.SchedulerState.{SchedulerState, cpu_at}
use Rattle.aps_model.specs.Shape.{horizon}
use Rattle.laws_runs.specs.Moments.{moment}

-- time passes after the entry, which follows on these: it stands below the end of the run and didn't end it, and every
-- processor steps later than it
pub record PassesTime (scenario : Scenario) (before : List Entry) (e : Entry) : Type 0 where
  pub early : e.to < horizon scenario.shape
  pub calm : (after scenario (before ++ e ∷ [])).reboot ≡ None
  pub later : (c : ℕ) → c < scenario.shape.cpus → e.to < due (state_after scenario (before ++ e ∷ [])) (before ++ e ∷ []) c

-- the partitions by their usage in the window at the last moment
abbrev pub parts_now : SchedulerState → List Entry → List PartFacts
parts_now s h = all_parts s.shape s.rows h (moment h / s.shape.tick)

-- the greatest candidate among the threads that are ready
abbrev pub greatest_ready : SchedulerState → List Entry → Option Contender
greatest_ready s h = greatest s.shape.free (parts_now s h) (contenders s)

-- the processor runs a thread that isn't below this candidate: the class of its thread is no lower, and where the classes
-- are equal so is its priority, which counts unless both have class 0 and go by ratio
pub record RunsNoLess (s : SchedulerState) (h : List Entry) (left : Contender) (c : ℕ) : Type 0 where
  pub pick : Pick
  pub runs : (cpu_at s c).running ≡ Some pick
  pub no_less : IsFalse (is_below s.shape.free (merit_now s (parts_now s h) pick.thread) (merit_among (parts_now s h) left))

-- where a candidate is left, each processor does so
abbrev pub PassesNobodyOver : SchedulerState → List Entry → Type 0
PassesNobodyOver s h = (left : Contender) → greatest_ready s h ≡ Some left → (c : ℕ) → c < s.shape.cpus → RunsNoLess s h left c

-- the same after each entry of the history
abbrev pub NeverPassesOver : Scenario → List Entry → Type 0
NeverPassesOver scenario h =
    (before later : List Entry) (e : Entry)
    → h ≡ before ++ e ∷ later
    → PassesTime scenario before e
    → PassesNobodyOver (state_after scenario (before ++ e ∷ [])) (before ++ e ∷ [])
