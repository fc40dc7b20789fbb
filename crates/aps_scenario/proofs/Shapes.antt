-- The sizes that are read have their ranges.
use Rattle.std.proofs.Common.{◌≡◌, ℕ, Bool, true, false, cond, ◌⊎◌, inl, inr, Ok, refl, subst, arith, nat_eq}
use Rattle.toml.specs.Data.{Members}
use Rattle.aps_model.specs.declared.shape.Shape.{Shape}
use Rattle.aps_model.specs.Limits.{longest_call, longest_tick, longest_window, microsecond, most_cpus, most_ticks, percent, shortest_tick, shortest_window, thousandths}
use Rattle.aps_model.specs.Shape.{IsShape}
use Rattle.aps_scenario.specs.declared.key.Key.TheVariants.{Cpus, Tick, Window, Ticks, CallNs}
use Rattle.aps_scenario.specs.declared.refusal.Place.TheVariants.{Top}
use Rattle.aps_scenario.specs.Row.{value_of}
use Rattle.aps_scenario.specs.Sizes.{shape_at, parts_of, row_version, row_cpus, row_tick, row_window, row_ticks, row_call_ns, row_free, row_limit, row_bankruptcy}
use Rattle.aps_scenario.proofs.Values.{bind-ok, ok-same, required-ok, defaulted-ok}

pub parts_of-either : (version : ℕ) → (parts_of version ≡ percent) ⊎ (parts_of version ≡ thousandths)
parts_of-either version = let low : ℕ = percent in let high : ℕ = thousandths in either (nat_eq version 1) low high
  where
    either : (b : Bool) (low high : ℕ) → (cond b low high ≡ low) ⊎ (cond b low high ≡ high)
    either true low high = inl refl
    either false low high = inr refl

pub shape_at-ok : (t : Members) (shape : Shape) → shape_at t ≡ Ok shape → IsShape shape
unfolding shape_at
shape_at-ok t shape e =
    let version = bind-ok (value_of row_version Top t) _ shape e in
    let cpus = bind-ok (value_of row_cpus Top t) _ shape version.2 in
    let tick = bind-ok (value_of row_tick Top t) _ shape cpus.2 in
    let window = bind-ok (value_of row_window Top t) _ shape tick.2 in
    let ticks = bind-ok (value_of row_ticks Top t) _ shape window.2 in
    let call_ns = bind-ok (value_of row_call_ns Top t) _ shape ticks.2 in
    let free = bind-ok (value_of row_free Top t) _ shape call_ns.2 in
    let limit = bind-ok (value_of row_limit Top t) _ shape free.2 in
    let bankruptcy = bind-ok (value_of row_bankruptcy Top t) _ shape limit.2 in
    let found : Shape = record {
      parts = parts_of version.0;
      cpus = cpus.0;
      tick = tick.0;
      window = window.0;
      ticks = ticks.0;
      call_ns = call_ns.0;
      free = free.0;
      limit = limit.0;
      bankruptcy = bankruptcy.0;
    } in
    let same : found ≡ shape = ok-same found shape _ refl bankruptcy.2 in
    let million : ℕ = 1000000 in
    let hundred : ℕ = 100 in
    let thousand : ℕ = 1000 in
    let cpus_range = required-ok Cpus 1 most_cpus 1 Top t cpus.0 cpus.1 in
    let tick_range = defaulted-ok Tick shortest_tick longest_tick microsecond million Top t tick.0 (record { above = omega arith; below = omega arith; whole = refl }) tick.1 in
    let window_range = defaulted-ok Window shortest_window longest_window 1 hundred Top t window.0 (record { above = omega arith; below = omega arith; whole = refl }) window.1 in
    let ticks_range = required-ok Ticks 1 most_ticks 1 Top t ticks.0 ticks.1 in
    let call_range = defaulted-ok CallNs 1 longest_call 1 thousand Top t call_ns.0 (record { above = omega arith; below = omega arith; whole = refl }) call_ns.1 in
    subst IsShape same (record {
      parts = parts_of-either version.0;
      some_cpu = cpus_range.above;
      few_cpus = cpus_range.below;
      tick_long = tick_range.above;
      tick_short = tick_range.below;
      tick_whole = tick_range.whole;
      window_long = window_range.above;
      window_short = window_range.below;
      some_tick = ticks_range.above;
      few_ticks = ticks_range.below;
      some_call = call_range.above;
      short_call = call_range.below;
    })
