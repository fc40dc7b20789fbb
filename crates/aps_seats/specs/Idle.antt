-- What a seat keeps between two calls.
use Rattle.std.specs.Prelude.{◌≡◌, ℕ, ◌+◌, ◌≤◌, ◌<◌, true, Option, List, [], length}
use Rattle.aps_seats.specs.declared.view.View.{View}
use Rattle.aps_seats.specs.declared.view.Ticket.TheVariants.{NoTicket}
use Rattle.aps_seats.specs.Log.{Log}

-- the seat has this view, no ticket, no slot in hand, and these processors, of which there is one
pub record IsIdle {Run : Type 0} (log : Log Run) (v : View Run) (hand : List (ℕ × Option Run)) (first last seen : ℕ) : Type 0 where
  pub live : v.live ≡ true
  pub no_ticket : v.ticket ≡ NoTicket
  pub empty_hand : hand ≡ []
  pub from : v.first ≡ first
  pub to : v.after ≡ last + 1
  pub some_cpu : first ≤ last
  pub within : last < log.cpus_of v.seen
  pub counted : seen ≡ length (log.entries_of v.seen)
