-- Runs up to an end, with a limit, and in fixed order.
use Rattle.std.specs.Prelude.{◌≡◌, ℕ, ◌-◌, ◌++◌, List, [], ◌∷◌, length, None, IsSome}
use Rattle.aps_model.specs.declared.entry.Entry.{Entry}
use Rattle.aps_model.specs.declared.entry.Order.{Order}
use Rattle.aps_model.specs.declared.entry.Order.TheVariants.{Fixed}
use Rattle.aps_model.specs.After.{after, end_of, left_by, over, state_after}
use Rattle.aps_model.specs.Due.{HasTurn, first_due}
use Rattle.aps_model.specs.Legal.{IsLegal, fixed_steps}
use Rattle.aps_model.specs.Scenario.{Scenario}
use Rattle.aps_model.specs.SchedulerState.{SchedulerState}
use Rattle.aps_model.specs.Step.{step}

-- one processor has the turn in fixed order
pub record IsTurnOfOne (s : SchedulerState) (h : List Entry) : Type 0 where
  pub has : HasTurn Fixed s h (first_due s h s.shape.cpus)
  pub only : (c : ℕ) → HasTurn Fixed s h c → c ≡ first_due s h s.shape.cpus

-- the history goes on by this entry: it isn't over, and this is the step of a processor that has the turn
pub record GoesOn (scenario : Scenario) (order : Order) (h : List Entry) (e : Entry) : Type 0 where
  pub running : over (after scenario h) h ≡ None
  pub turn : HasTurn order (state_after scenario h) h e.cpu
  pub same : e ≡ (step scenario (state_after scenario h) h e.cpu).entry

-- a legal history goes on by this entry to one that leaves what the step leaves
pub record IsOneMore (scenario : Scenario) (order : Order) (h : List Entry) (e : Entry) : Type 0 where
  pub before : IsLegal scenario order h
  pub goes_on : GoesOn scenario order h e
  pub leaves : after scenario (h ++ e ∷ []) ≡ left_by (step scenario (state_after scenario h) h e.cpu)

-- no shorter prefix of the history has ended with this limit
abbrev pub EndsNoSooner : Scenario → ℕ → List Entry → Type 0
EndsNoSooner scenario limit h = (before later : List Entry) (e : Entry) → h ≡ before ++ e ∷ later → end_of scenario limit before ≡ None

-- a legal history that has ended with this limit, and no sooner
pub record IsEndedRun (scenario : Scenario) (order : Order) (limit : ℕ) (h : List Entry) : Type 0 where
  pub legal : IsLegal scenario order h
  pub ended : IsSome (end_of scenario limit h)
  pub no_sooner : EndsNoSooner scenario limit h

-- the history, and then steps in fixed order until it has ended with this limit
abbrev pub finished : Scenario → ℕ → List Entry → List Entry
finished scenario limit h = fixed_steps scenario (limit - length h) (after scenario h) h

-- the history with the step of the lowest processor that is due least
abbrev pub with_fixed_step : Scenario → List Entry → List Entry
with_fixed_step scenario h =
    let s = state_after scenario h in
    h ++ (step scenario s h (first_due s h s.shape.cpus)).entry ∷ []

-- the history, and more
abbrev pub Extends : List Entry → List Entry → Type 0
Extends h g = (more : List Entry) × (g ≡ h ++ more)
