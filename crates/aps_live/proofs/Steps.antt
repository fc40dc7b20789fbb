-- What a call of the core adds.
use Rattle.std.proofs.Common.{◌≡◌, ℕ, ◌<◌, ◌≤◌, refl, ap, inl, inr}
use Rattle.aps_live.specs.declared.event.LiveEvent.{LiveEvent}
use Rattle.aps_live.specs.declared.turn.LiveTurn.{LiveTurn}
use Rattle.aps_live.specs.declared.turn.LiveTurn.TheVariants.{Back, Full, Took}
use Rattle.aps_live.specs.LiveRun.{IsOwn, LiveRun, after_live_turn}
use Rattle.aps_live.specs.RunLog.{live_log}
use Rattle.aps_seats.specs.Kinds.{IsStepped}
use Rattle.aps_seats.specs.Seen.{IsSeenIn}

-- a call adds nothing, or one step of its processor
pub turn_steps : (first after : ℕ) (run : LiveRun) (cpu : ℕ) (event : LiveEvent) (turn : LiveTurn) → IsOwn cpu turn → first ≤ cpu → cpu < after → IsStepped live_log first after run (after_live_turn run event turn)
turn_steps first after run cpu event (Back seen) own low high = inl refl
turn_steps first after run cpu event Full own low high = inl refl
turn_steps first after run cpu event (Took e) own low high =
    let after_first : first ≤ e.cpu = rw own low in
    let before_last : e.cpu < after = rw own high in
    inr ((record { entry = e; event = event }), refl, after_first, before_last)

-- the run that was seen and the one that was found are of one scenario
pub seen_scenario : (first after : ℕ) (seen run : LiveRun) → IsSeenIn live_log first after seen run → run.setup.scenario ≡ seen.setup.scenario
seen_scenario first after seen run h = ap (λ (x : LiveRun). x.setup.scenario) h.1
