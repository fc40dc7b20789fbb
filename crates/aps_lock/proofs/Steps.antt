-- What a turn of the core adds.
use Rattle.std.proofs.Common.{◌≡◌, ℕ, ◌<◌, ◌≤◌, refl, inl, inr}
use Rattle.aps_core.specs.declared.turn.Turn.{Turn}
use Rattle.aps_core.specs.declared.turn.Turn.TheVariants.{Took, NotYet, Ended}
use Rattle.aps_core.specs.Run.{Run}
use Rattle.aps_core.specs.Turn.{IsOwnEntry, after_turn}
use Rattle.aps_lock.specs.RunLog.{run_log}
use Rattle.aps_seats.specs.Kinds.{IsStepped}

-- a turn adds nothing, or one entry of its processor
pub turn_steps : (first after : ℕ) (run : Run) (cpu : ℕ) (turn : Turn) → IsOwnEntry cpu turn → first ≤ cpu → cpu < after → IsStepped run_log first after run (after_turn run turn)
turn_steps first after run cpu (Ended end) own low high = inl refl
turn_steps first after run cpu (NotYet c moment) own low high = inl refl
turn_steps first after run cpu (Took e) own low high =
    let after_first : first ≤ e.cpu = rw own low in
    let before_last : e.cpu < after = rw own high in
    inr (e, refl, after_first, before_last)
