-- No sleeper's moment is late.
use Rattle.std.proofs.Common.{◌≡◌, ℕ, ◌≤◌, List, refl, sym, ◌∙◌}
use Rattle.aps_model.specs.declared.entry.Entry.{Entry}
use Rattle.aps_model.specs.declared.entry.Order.{Order}
use Rattle.aps_model.specs.declared.state.State.{State}
use Rattle.aps_model.specs.declared.state.State.TheVariants.{Ready, Running, Sleeping, Sending, Receiving, Replying, Gone}
use Rattle.aps_model.specs.After.{state_after}
use Rattle.aps_model.specs.Legal.{IsLegal}
use Rattle.aps_model.specs.Scenario.{Scenario}
use Rattle.aps_model.specs.SchedulerState.{thread_at}
use Rattle.aps_model.specs.Valid.{IsScenario}
use Rattle.laws_runs.proofs.ThreadFacts.{within}
use Rattle.laws_runs.proofs.ThreadFit.{fits_law}
use Rattle.view_explain.specs.Past.{WakesAt, WakesSoon, last_wake}

wakes_by : (st : State) → ((u : ℕ) → st ≡ Sleeping u → u ≤ last_wake) → WakesAt st
wakes_by (Sleeping until) soon = soon until refl
wakes_by Ready soon = tt
wakes_by (Running c) soon = tt
wakes_by (Sending c) soon = tt
wakes_by (Receiving c) soon = tt
wakes_by (Replying y) soon = tt
wakes_by Gone soon = tt

pub wake_soon : (scenario : Scenario) (order : Order) (h : List Entry) → IsScenario scenario → IsLegal scenario order h → WakesSoon (state_after scenario h)
wake_soon scenario order h valid legal x =
    let s = state_after scenario h in
    wakes_by (thread_at s x).state (λ u asleep. (fits_law scenario order h valid legal x (within s.threads x (λ gone. clash u (sym asleep ∙ gone)))).0.wakes_soon u asleep)
  where
    clash : (u : ℕ) → Sleeping u ≡ Gone → ⊥
    clash u e = cc
