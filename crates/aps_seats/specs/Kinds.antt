-- What each kind of step on the words does to the view of the seat that takes it, and what it tells.
use Rattle.std.specs.Prelude.{◌≡◌, ◌≢◌, ℕ, ◌+◌, ◌<◌, ◌≤◌, ◌⊎◌, true, false, Option, Some, [], ◌∷◌, length}
use Rattle.atomic_table.specs.Table.{Me, Step}
use Rattle.aps_seats.specs.declared.view.Before.{Before}
use Rattle.aps_seats.specs.declared.view.Ticket.TheVariants.{NoTicket, Waiting, Served}
use Rattle.aps_seats.specs.declared.view.View.{View}
use Rattle.aps_seats.specs.Log.{Log}
use Rattle.aps_seats.specs.Rule.{room}
use Rattle.aps_seats.specs.Seen.{IsSeenIn, longer, with_one}

-- a seat's view, and the slots in its hand
abbrev pub Seated : Type 0 → Type 0
Seated Run = Me (Option Run) (View Run)

module _ {Run : Type 0} where
  abbrev pub before : Run → ℕ → ℕ → Before Run
  before run first after = record { seen = run; first = first; after = after }

  -- a ticket was taken
  abbrev pub TakesTicket : Step (Option Run) → Seated Run → ℕ → Seated Run → Type 0
  TakesTicket step me found now = now ≡ (record me.0 { ticket = Waiting found }, me.1)

  -- the seat has seen the run of the core in its hand
  abbrev pub Publishes : Step (Option Run) → Seated Run → ℕ → Seated Run → Type 0
  Publishes step me found now = (run : Run) → me.1 ≡ (0, Some run) ∷ [] → now ≡ (record me.0 { seen = run }, me.1)

  -- the ticket was given back, and the core with it
  abbrev pub Releases : Step (Option Run) → Seated Run → ℕ → Seated Run → Type 0
  Releases step me found now = now ≡ (record me.0 { ticket = NoTicket }, [])

  -- a seat was cut in two at a processor
  abbrev pub cut_left : ℕ → View Run → View Run
  cut_left at v = record v { after = at }

  abbrev pub cut_right : ℕ → View Run → View Run
  cut_right at v = record v { first = at; ticket = NoTicket }

  -- a seat with no processor, which has seen as much
  abbrev pub witness_of : View Run → View Run
  witness_of v = record v { first = 0; after = 0; ticket = NoTicket }

module _ {Run : Type 0} (log : Log Run) where
  -- the one seat at the start, which has all processors
  abbrev pub started : Run → View Run
  started run = record {
    live = true;
    seen = run;
    first = 0;
    after = log.cpus_of run;
    own = before run 0 0;
    other = before run 0 0;
    joined = run;
    ticket = NoTicket;
  }

  -- where its ticket is served, the seat has the core, and has seen all of its run
  abbrev pub Looks : Step (Option Run) → Seated Run → ℕ → Seated Run → Type 0
  Looks step me found now = (t : ℕ) → me.0.ticket ≡ Waiting t
      → (found ≡ t → (run : Run) × IsSeenIn log me.0.first me.0.after me.0.seen run
      × (now ≡ (record me.0 { seen = run; ticket = Served t }, (0, Some run) ∷ me.1)))
      × (found ≢ t → now ≡ me)

  -- the same run, or the run with one entry more, of a processor from first on and before after
  abbrev pub IsStepped : ℕ → ℕ → Run → Run → Type 0
  IsStepped first after run later =
      (later ≡ run) ⊎ ((e : log.Entry) × (later ≡ with_one log run e) × (first ≤ log.cpu_of e) × (log.cpu_of e < after))

  -- both seats of the last join had seen the beginning of the longer of what they had seen; and what the seat has seen is
  -- the beginning of a run of so many entries
  abbrev pub Tells : Step (Option Run) → Seated Run → ℕ → Seated Run → Type 0
  Tells step me found now =
      (now ≡ me)
      × IsSeenIn log me.0.own.first me.0.own.after me.0.own.seen me.0.joined
      × IsSeenIn log me.0.other.first me.0.other.after me.0.other.seen me.0.joined
      × ((run : Run) × IsSeenIn log me.0.first me.0.after me.0.seen run × (found ≡ length (log.entries_of run)))

  -- a seat that took in another
  abbrev pub joined : View Run → View Run → View Run
  joined v w = record v {
    seen = longer log v.seen w.seen;
    after = v.after + room w;
    own = before v.seen v.first v.after;
    other = before w.seen w.first w.after;
    joined = longer log v.seen w.seen;
  }

  -- what is left of a seat that was taken in: it has no processor, and nothing is said of its run
  abbrev pub spent : View Run
  spent = record {
    live = false;
    seen = log.no_run;
    first = 0;
    after = 0;
    own = before log.no_run 0 0;
    other = before log.no_run 0 0;
    joined = log.no_run;
    ticket = NoTicket;
  }
