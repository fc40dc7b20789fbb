-- What a seat is through a turn: it enters, has the core in hand, and leaves.
use Rattle.std.proofs.Common.{Option, Some, ◌≡◌, ℕ, List, [], ◌∷◌, true, sym, refl, ap, ◌∙◌, subst}
use Rattle.aps_seats.specs.declared.view.View.{View}
use Rattle.aps_seats.specs.declared.view.Ticket.{Ticket}
use Rattle.aps_seats.specs.declared.view.Ticket.TheVariants.{NoTicket, Waiting, Served}
use Rattle.aps_seats.specs.Kinds.{IsStepped, Seated, joined}
use Rattle.aps_seats.specs.Log.{Log}
use Rattle.aps_seats.specs.Rule.{IsServed}
use Rattle.aps_seats.specs.Seen.{IsSeenIn}
use Rattle.aps_seats.proofs.Queue.{same_held}

module _ {Run : Type 0} (log : Log Run) where
  -- the seat as it was before, the core's run as the step found it and left it, and the seat with the core in hand. It has the
  -- ticket t, and has seen the run that was found
  pub record InTurn (me : Seated Run) (found later : Run) (hand : Seated Run) : Type 0 where
    pub ticket : ℕ
    pub seen : IsSeenIn log me.0.first me.0.after me.0.seen found
    pub now : hand ≡ (record me.0 { seen = found; ticket = Served ticket }, (0, Some later) ∷ [])

  -- what a seat that waited for its ticket has seen, it has seen since it took the ticket
  pub entered : (me waiting now : Seated Run) (t : ℕ) → waiting ≡ (record me.0 { ticket = Waiting t }, [])
      → (run : Run) × IsSeenIn log waiting.0.first waiting.0.after waiting.0.seen run × (now ≡ (record waiting.0 { seen = run; ticket = Served t }, (0, Some run) ∷ []))
      → (run : Run) × (ticket : ℕ) × IsSeenIn log me.0.first me.0.after me.0.seen run × (now ≡ (record me.0 { seen = run; ticket = Served ticket }, (0, Some run) ∷ []))
  entered me waiting now t took got = subst
      (λ (m : Seated Run). (run : Run) × (ticket : ℕ) × IsSeenIn log m.0.first m.0.after m.0.seen run × (now ≡ (record m.0 { seen = run; ticket = Served ticket }, (0, Some run) ∷ [])))
      took (got.0, t, got.1, got.2)

  -- the core was stepped in the seat's hand
  pub stepped_in_hand : (me hand now : Seated Run) (found later : Run)
      → (run : Run) × (ticket : ℕ) × IsSeenIn log me.0.first me.0.after me.0.seen run × (hand ≡ (record me.0 { seen = run; ticket = Served ticket }, (0, Some run) ∷ []))
      → hand.1 ≡ (0, Some found) ∷ [] → now ≡ (hand.0, (0, Some later) ∷ []) → InTurn me found later now
  stepped_in_hand me hand now found later (run, ticket, seen, is) held same =
      let one : run ≡ found = same_held hand.1 run found (ap (λ m. m.1) is) held in record {
        ticket = ticket;
        seen = subst (IsSeenIn log me.0.first me.0.after me.0.seen) one seen;
        now = same ∙ ap (λ (m : Seated Run). let n : Seated Run = (m.0, (0, Some later) ∷ []) in n) is
            ∙ ap (λ (r : Run). let n : Seated Run = (record me.0 { seen = r; ticket = Served ticket }, (0, Some later) ∷ []) in n) one;
      }

  -- a seat in its turn has what it needs to leave
  pub may_leave : (me hand : Seated Run) (found later : Run) → InTurn me found later hand → me.0.live ≡ true → IsStepped log me.0.first me.0.after found later
      → (hand.0.live ≡ true) × IsServed hand.0.ticket × (hand.1 ≡ (0, Some later) ∷ []) × IsStepped log hand.0.first hand.0.after hand.0.seen later
  may_leave me hand found later turn live steps = subst
      (λ (m : Seated Run). (m.0.live ≡ true) × IsServed m.0.ticket × (m.1 ≡ (0, Some later) ∷ []) × IsStepped log m.0.first m.0.after m.0.seen later)
      (sym turn.now) (live, tt, refl, steps)

  -- after its turn a seat is as before, but that it has seen the run as the core left it
  pub after_turn_of : (me hand now : Seated Run) (found later : Run) → InTurn me found later hand → me.0.ticket ≡ NoTicket
      → (run : Run) × (hand.1 ≡ (0, Some run) ∷ []) × (now ≡ (record hand.0 { seen = run; ticket = NoTicket }, []))
      → now ≡ (record me.0 { seen = later }, [])
  after_turn_of me hand now found later turn away (run, held, left) =
      let one : run ≡ later = same_held hand.1 run later held (ap (λ m. m.1) turn.now) in
      left ∙ ap (λ (m : Seated Run). let n : Seated Run = (record m.0 { seen = run; ticket = NoTicket }, []) in n) turn.now
      ∙ ap (λ (r : Run). let n : Seated Run = (record me.0 { seen = r; ticket = NoTicket }, []) in n) one
      ∙ ap (λ (k : Ticket). let n : Seated Run = (record me.0 { seen = later; ticket = k }, []) in n) (sym away)

  -- a seat that has published the run in its hand and released the core
  pub gone : (me told now : Seated Run) (run : Run) → told ≡ (record me.0 { seen = run }, me.1) → now ≡ (record told.0 { ticket = NoTicket }, [])
      → now ≡ (record me.0 { seen = run; ticket = NoTicket }, [])
  gone me told now run same left = left ∙ ap (λ (m : Seated Run). let n : Seated Run = (record m.0 { ticket = NoTicket }, []) in n) same

  -- a seat that took in another and then looked knows that both had seen the beginning of one run
  pub met : (v w : View Run) (both now : Seated Run) (hand : List (ℕ × Option Run)) → both ≡ (joined log v w, hand) → now ≡ both
      → IsSeenIn log both.0.own.first both.0.own.after both.0.own.seen both.0.joined × IsSeenIn log both.0.other.first both.0.other.after both.0.other.seen both.0.joined
      → IsSeenIn log v.first v.after v.seen now.0.seen × IsSeenIn log w.first w.after w.seen now.0.seen
  met v w both now hand is told seen =
      let T : View Run → Type 0 = λ x. IsSeenIn log x.own.first x.own.after x.own.seen x.joined × IsSeenIn log x.other.first x.other.after x.other.seen x.joined in
      subst (λ (x : View Run). IsSeenIn log v.first v.after v.seen x.seen × IsSeenIn log w.first w.after w.seen x.seen)
      (sym (ap (λ m. m.0) (told ∙ is))) (subst T (ap (λ m. m.0) is) seen)
