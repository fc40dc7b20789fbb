-- The queue of tickets: who waits at which place, and where the core is.
use Rattle.std.proofs.Common.{Option, ◌≡◌, ◌≢◌, ℕ, ◌+◌, ◌-◌, ◌%◌, ◌^◌, ◌<◌, ◌≤◌, Some, unwrap_or, List, [], ◌∷◌, ◌++◌, set, sym, refl, ap, ◌∙◌, subst, arith}
use mathlib.Core.Option.{some, some-injective}
use lib.ListN.{get_elem?}
use Rattle.std.proofs.Math.Nat.{mod-add-mod}
use Rattle.aps_model.specs.Limits.{most_cpus}
use Rattle.atomic_table.specs.Table.{State}
use Rattle.atomic_table.proofs.Lists.{set_else, at_longer}
use Rattle.aps_seats.specs.declared.view.View.{View}
use Rattle.aps_seats.specs.declared.view.Ticket.{Ticket}
use Rattle.aps_seats.specs.declared.view.Ticket.TheVariants.{NoTicket, Waiting, Served}
use Rattle.aps_seats.specs.Log.{Log}
use Rattle.aps_seats.specs.Rule.{tickets, count_ticket, room, IsServed, HasPlace, KeepsRule}
use Rattle.aps_seats.proofs.Sums.{sum_le, put, put_else, one_place}

-- a ticket is only with a seat that has a processor
pub ticket_le : (serving queued : ℕ) (waiter : ℕ → ℕ) (j size : ℕ) (ticket : Ticket) → HasPlace serving queued waiter j size ticket → count_ticket ticket ≤ size
ticket_le serving queued waiter j size NoTicket h = omega arith
ticket_le serving queued waiter j size (Waiting t) h = h.0
ticket_le serving queued waiter j size (Served t) h = h.0

-- so there are no more tickets than processors
pub few_queued : {Run : Type 0} (log : Log Run) (s : State (Option Run) (View Run)) (k : KeepsRule log s) → k.queued ≤ most_cpus
few_queued log s k = omega (arith, k.counted, k.shared_out, k.few, sum_le tickets room s.views (λ j v at. ticket_le k.serving k.queued k.waiter j (room v) v.ticket (k.seats j v at).place))

pub served_first : (serving queued : ℕ) (waiter : ℕ → ℕ) (j size : ℕ) (ticket : Ticket) → HasPlace serving queued waiter j size ticket → IsServed ticket → (0 < queued) × (waiter 0 ≡ j)
served_first serving queued waiter j size NoTicket h is = absurd is
served_first serving queued waiter j size (Waiting t) h is = absurd is
served_first serving queued waiter j size (Served t) h is = (h.1, h.3)

pub one_ticket : (ticket : Ticket) → IsServed ticket → count_ticket ticket ≡ 1
one_ticket NoTicket is = absurd is
one_ticket (Waiting t) is = absurd is
one_ticket (Served t) is = refl

-- one more waits at the end of the queue
pub place_later : (serving queued : ℕ) (waiter : ℕ → ℕ) (id j size : ℕ) (ticket : Ticket) → HasPlace serving queued waiter j size ticket → HasPlace serving (queued + 1) (put waiter queued id) j size ticket
place_later serving queued waiter id j size NoTicket h = tt
place_later serving queued waiter id j size (Waiting t) h = let k = h.1.0 in let near : k < queued = h.1.1 in (h.0, (k, omega arith, h.1.2, put_else waiter queued id k (λ e. absurd (omega arith)) ∙ h.1.3))
place_later serving queued waiter id j size (Served t) h = let someone : 0 < queued = h.1 in (h.0, omega arith, h.2, put_else waiter queued id 0 (λ e. absurd (omega arith)) ∙ h.3)

-- the seat whose ticket is served leaves the queue
pub place_sooner : (serving queued : ℕ) (waiter : ℕ → ℕ) (id j size : ℕ) (ticket : Ticket) → waiter 0 ≡ id → j ≢ id → 0 < queued → HasPlace serving queued waiter j size ticket
    → HasPlace ((serving + 1) % 2 ^ 64) (queued - 1) (λ i. waiter (i + 1)) j size ticket
place_sooner serving queued waiter id j size NoTicket head other someone h = tt
place_sooner serving queued waiter id j size (Waiting t) head other someone h =
    let p = h.1.0 in
    let near : p < queued = h.1.1 in
    let further : p ≢ 0 = λ e. other (sym h.1.3 ∙ ap waiter e ∙ head) in
    let back : p - 1 + 1 ≡ p = omega arith in
    let next : serving + 1 + (p - 1) ≡ serving + p = omega arith in
    (h.0, (p - 1, omega arith, h.1.2 ∙ ap (λ (n : ℕ). n % 2 ^ 64) (sym next) ∙ sym (mod-add-mod (serving + 1) (2 ^ 64) (p - 1)), ap waiter back ∙ h.1.3))
place_sooner serving queued waiter id j size (Served t) head other someone h = absurd (other (sym h.3 ∙ head))

pub waits_at : (serving queued : ℕ) (waiter : ℕ → ℕ) (j size t : ℕ) → serving < 2 ^ 64 → queued ≤ most_cpus → serving ≡ t → HasPlace serving queued waiter j size (Waiting t) → (0 < size) × (0 < queued) × (waiter 0 ≡ j)
waits_at serving queued waiter j size t fits few_queued same h =
    let p = h.1.0 in
    let near : p < queued = h.1.1 in
    let first : p ≡ 0 = one_place serving p fits (omega arith) (sym h.1.2 ∙ sym same) in
    (h.0, omega arith, ap waiter (sym first) ∙ h.1.3)

pub same_ticket : (held : Ticket) (t u : ℕ) → held ≡ Waiting t → held ≡ Waiting u → t ≡ u
same_ticket held t u a b = cc

pub unserved : (held : Ticket) → held ≡ NoTicket → ¬ (IsServed held)
unserved held away = subst (λ (x : Ticket). ¬ (IsServed x)) (sym away) (λ h. h)

module _ {Run : Type 0} where
  run_or : Run → List (ℕ × Option Run) → Run
  run_or d [] = d
  run_or d (x ∷ xs) = unwrap_or x.1 d

  -- one slot in hand has one core
  pub same_held : (hand : List (ℕ × Option Run)) (a b : Run) → hand ≡ (0, Some a) ∷ [] → hand ≡ (0, Some b) ∷ [] → a ≡ b
  unfolding run_or
  same_held hand a b p q = sym (ap (run_or a) p) ∙ ap (run_or a) q

  abbrev pub Out : (views : List (View Run)) (waiter : ℕ → ℕ) → Type 0
  Out views waiter = (v : View Run) × (get_elem? views (waiter 0) ≡ some v) × IsServed v.ticket

  -- a step of a seat that isn't served leaves the served one where it is
  pub out_stays : (views : List (View Run)) (waiter : ℕ → ℕ) (id : ℕ) (v w : View Run) → get_elem? views id ≡ some v → ¬ (IsServed v.ticket) → Out views waiter → Out (set views id w) waiter
  out_stays views waiter id v w at none-served (u, there, is) = (u, set_else views id (waiter 0) w (λ e. none-served (subst (λ (x : View Run). IsServed x.ticket) (some-injective u v (sym there ∙ ap (get_elem? views) e ∙ at)) is)) ∙ there, is)

  pub out_longer : (views : List (View Run)) (waiter : ℕ → ℕ) (right : View Run) → Out views waiter → Out (views ++ right ∷ []) waiter
  out_longer views waiter right (u, there, is) = (u, at_longer views (right ∷ []) (waiter 0) u there, is)
