-- The own steps of a seat: nothing comes of its processors but by its turns.
use Rattle.std.proofs.Common.{◌≡◌, ℕ, ◌+◌, ◌≤◌, ◌++◌, sym, ap, ◌∙◌, append-nil}
use Rattle.aps_live.specs.declared.event.LiveEvent.{LiveEvent}
use Rattle.aps_live.specs.declared.turn.LiveTurn.{LiveTurn}
use Rattle.aps_live.specs.declared.turn.LiveTurn.TheVariants.{Back, Full, Took}
use Rattle.aps_live.specs.LiveRun.{IsOwn, LiveRun, after_live_turn}
use Rattle.aps_live.specs.RunLog.{live_log}
use Rattle.aps_live.specs.Seats.{own_steps, taken}
use Rattle.aps_seats.specs.Seen.{IsSeenIn}
use Rattle.aps_seats.proofs.Own.{own_one, seen_own}

own_taken : (first last cpu : ℕ) (found : LiveRun) (event : LiveEvent) (turn : LiveTurn) → first ≤ cpu → cpu ≤ last → IsOwn cpu turn
    → own_steps first last (after_live_turn found event turn).steps ≡ own_steps first last found.steps ++ taken event turn
own_taken first last cpu found event (Back seen) low high own = sym (append-nil (own_steps first last found.steps))
own_taken first last cpu found event Full low high own = sym (append-nil (own_steps first last found.steps))
own_taken first last cpu found event (Took e) low high own =
    let after_first : first ≤ e.cpu = rw own low in
    let before_last : e.cpu ≤ last = rw own high in
    own_one live_log first last found.steps (record { entry = e; event = event }) after_first before_last

-- a call for one of these processors adds to their steps just what it took
pub turn_own : (first last cpu : ℕ) (seen found : LiveRun) (event : LiveEvent) (turn : LiveTurn) → first ≤ cpu → cpu ≤ last → IsOwn cpu turn → IsSeenIn live_log first (last + 1) seen found
    → own_steps first last (after_live_turn found event turn).steps ≡ own_steps first last seen.steps ++ taken event turn
turn_own first last cpu seen found event turn low high own in_run =
    own_taken first last cpu found event turn low high own ∙ ap (λ l. l ++ taken event turn) (seen_own live_log first last seen found in_run)
