-- The window bound, of steady ticks since they are served, and the critical bound.
use Rattle.std.proofs.Common.{ℕ, ◌+◌, List}
use Rattle.aps_model.specs.declared.entry.Entry.{Entry}
use Rattle.aps_model.specs.declared.entry.Order.{Order}
use Rattle.aps_model.specs.After.{state_after}
use Rattle.aps_model.specs.Bound.{KeepsCriticalBound, KeepsWindowBound}
use Rattle.aps_model.specs.Legal.{IsLegal}
use Rattle.aps_model.specs.Loaded.{state_of_tick}
use Rattle.aps_model.specs.Scenario.{Scenario}
use Rattle.aps_model.specs.Valid.{IsScenario}
use Rattle.laws_bounds.proofs.Critical.{critical_above, critical_none}
use Rattle.laws_bounds.proofs.ServedTicks.{served_window_bound, steady_is_served}
use Rattle.laws_bounds.proofs.Spans.{span_of}
use Rattle.laws_bounds.proofs.SteadyTicks.{steady_parts}

-- each finished window of steady ticks keeps the bound
pub window_bound : (scenario : Scenario) (order : Order) (h : List Entry) → IsScenario scenario → IsLegal scenario order h → KeepsWindowBound scenario h
window_bound scenario order h r legal a p finished steady inside =
    let b : ℕ = a + (state_of_tick scenario h a).shape.window in
    let parts = steady_parts scenario.shape.tick h (state_after scenario h).changes a b steady in
    served_window_bound scenario order h r legal a p finished parts.0 (steady_is_served scenario order h r legal a b finished steady) inside

-- each finished window without a change keeps the critical bound
pub critical_bound : (scenario : Scenario) (order : Order) (h : List Entry) → IsScenario scenario → IsLegal scenario order h → KeepsCriticalBound scenario h
critical_bound scenario order h r legal a p finished none inside =
    let s = state_of_tick scenario h a in
    let w = span_of scenario order h a (a + s.shape.window) r legal none in
    record {
      above = critical_above scenario order h r legal a s w p;
      none = critical_none scenario order h r legal a s w p;
    }
