-- The own entries of a seat: nothing comes of its processors but by its turns.
use Rattle.std.proofs.Common.{◌≡◌, ℕ, ◌+◌, ◌≤◌, ◌++◌, sym, ap, ◌∙◌, append-nil}
use Rattle.aps_model.specs.Seat.{IsSeen, own_entries}
use Rattle.aps_core.specs.declared.turn.Turn.{Turn}
use Rattle.aps_core.specs.declared.turn.Turn.TheVariants.{Took, NotYet, Ended}
use Rattle.aps_core.specs.Run.{Run}
use Rattle.aps_core.specs.Turn.{IsOwnEntry, after_turn}
use Rattle.aps_lock.specs.RunLog.{run_log}
use Rattle.aps_lock.specs.Seats.{taken}
use Rattle.aps_seats.specs.Seen.{IsSeenIn}
use Rattle.aps_seats.proofs.Own.{own_one, seen_own}

pub seen_begins : (first after : ℕ) (seen run : Run) → IsSeenIn run_log first after seen run → IsSeen seen.entries run.entries
seen_begins first after seen run h = (h.0, ap (λ (x : Run). x.entries) h.1)

own_taken : (first last cpu : ℕ) (found : Run) (turn : Turn) → first ≤ cpu → cpu ≤ last → IsOwnEntry cpu turn → own_entries first last (after_turn found turn).entries ≡ own_entries first last found.entries ++ taken turn
own_taken first last cpu found (Ended end) low high own = sym (append-nil (own_entries first last found.entries))
own_taken first last cpu found (NotYet c moment) low high own = sym (append-nil (own_entries first last found.entries))
own_taken first last cpu found (Took e) low high own =
    let after_first : first ≤ e.cpu = rw own low in
    let before_last : e.cpu ≤ last = rw own high in
    own_one run_log first last found.entries e after_first before_last

-- a turn of one of these processors adds to their entries just what it took
pub turn_own : (first last cpu : ℕ) (seen found : Run) (turn : Turn) → first ≤ cpu → cpu ≤ last → IsOwnEntry cpu turn → IsSeenIn run_log first (last + 1) seen found
    → own_entries first last (after_turn found turn).entries ≡ own_entries first last seen.entries ++ taken turn
turn_own first last cpu seen found turn low high own in_run =
    own_taken first last cpu found turn low high own ∙ ap (λ l. l ++ taken turn) (seen_own run_log first last seen found in_run)
