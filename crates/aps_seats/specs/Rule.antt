-- The rule of the lock. The words are the next ticket, the ticket that is served, and the length of the history. The
-- slot holds the core.
use Rattle.std.specs.Prelude.{◌≡◌, ℕ, ◌+◌, ◌-◌, ◌%◌, ◌^◌, ◌<◌, ◌≤◌, ◌⊎◌, true, Option, Some, List, [], ◌∷◌, length, ⊤}
use mathlib.Core.Option.{some}
use lib.ListN.{get_elem?}
use Rattle.atomic_table.specs.Table.{State}
use Rattle.atomic_table.specs.Seated.{TableId}
use Rattle.aps_seats.specs.declared.view.Ticket.{Ticket}
use Rattle.aps_seats.specs.declared.view.Ticket.TheVariants.{NoTicket, Waiting, Served}
use Rattle.aps_seats.specs.declared.view.View.{View}
use Rattle.aps_seats.specs.Log.{Log}
use Rattle.aps_seats.specs.Seen.{IsSeenIn}
use Rattle.aps_model.specs.Limits.{most_cpus}

-- how many tickets that is
abbrev pub count_ticket : Ticket → ℕ
count_ticket NoTicket = 0
count_ticket (Waiting t) = 1
count_ticket (Served t) = 1

abbrev pub sum_of : {V : Type 0} → (V → ℕ) → List V → ℕ
sum_of f [] = 0
sum_of f (v ∷ vs) = f v + sum_of f vs

module _ {Run : Type 0} where
  abbrev pub tickets : View Run → ℕ
  tickets v = count_ticket v.ticket

  -- how many processors the seat has
  abbrev pub room : View Run → ℕ
  room v = v.after - v.first

abbrev pub IsServed : Ticket → Type 0
IsServed NoTicket = ⊥
IsServed (Waiting t) = ⊥
IsServed (Served t) = ⊤

-- Of the ticket of the seat j, which has so many processors: only a seat that has one has a ticket. A waiting ticket is
-- some places behind the served one, and the seat is the one that waits at that place
abbrev pub HasPlace : ℕ → ℕ → (ℕ → ℕ) → ℕ → ℕ → Ticket → Type 0
HasPlace serving queued waiter j size NoTicket = ⊤
HasPlace serving queued waiter j size (Waiting t) =
    (0 < size) × ((k : ℕ) × (k < queued) × (t ≡ (serving + k) % 2 ^ 64) × (waiter k ≡ j))
HasPlace serving queued waiter j size (Served t) = (0 < size) × (0 < queued) × (t ≡ serving) × (waiter 0 ≡ j)

-- what a live seat knows of the run
pub record Knows {Run : Type 0} (log : Log Run) (run : Run) (v : View Run) : Type 0 where
  pub seen : IsSeenIn log v.first v.after v.seen run
  pub own : IsSeenIn log v.own.first v.own.after v.own.seen v.joined
  pub other : IsSeenIn log v.other.first v.other.after v.other.seen v.joined
  pub served : IsServed v.ticket → v.seen ≡ run

-- what is true of the seat j
pub record IsKept {Run : Type 0} (log : Log Run) (run : Run) (serving queued : ℕ) (waiter owner : ℕ → ℕ) (j : ℕ)
    (v : View Run) : Type 0 where
  pub order : v.first ≤ v.after
  pub within : v.after ≤ log.cpus_of run
  pub owns : (cpu : ℕ) → v.first ≤ cpu → cpu < v.after → owner cpu ≡ j
  pub place : HasPlace serving queued waiter j (room v) v.ticket
  pub knows : v.live ≡ true → Knows log run v

-- The run is that of the core: at home, or as the served seat has seen it. So many tickets are out; the waiter tells
-- which seat waits at each place behind the served ticket, and the owner which seat has each processor
pub record KeepsRule {Run : Type 0} (log : Log Run) (s : State (Option Run) (View Run)) : Type 0 where
  pub run : Run
  pub serving : ℕ
  pub queued : ℕ
  pub waiter : ℕ → ℕ
  pub owner : ℕ → ℕ
  pub words : s.words ≡ ((serving + queued) % 2 ^ 64) ∷ serving ∷ length (log.entries_of run) ∷ []
  pub fits : serving < 2 ^ 64
  pub counted : queued ≡ sum_of tickets s.views
  pub shared_out : sum_of room s.views ≡ log.cpus_of run
  pub few : log.cpus_of run ≤ most_cpus
  pub core : (get_elem? s.homes 0 ≡ some (some (Some run))) ⊎ ((v : View Run) × (get_elem? s.views (waiter 0) ≡ some v) × IsServed v.ticket)
  pub seats : (j : ℕ) (v : View Run) → get_elem? s.views j ≡ some v → IsKept log run serving queued waiter owner j v

-- the second names the first one's table, which has three words and one slot
abbrev pub IsFor : TableId → TableId → Type 0
IsFor shared seat = (seat ≡ shared) × (shared.words ≡ 3) × (shared.slots ≡ 1)
