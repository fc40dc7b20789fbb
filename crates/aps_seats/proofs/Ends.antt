-- The rule of the lock holds at the start, and gives the core at the end.
use Rattle.std.specs.Option.{IsSome}
use Rattle.std.proofs.Common.{Option, Some, ◌≡◌, ℕ, zero, suc, ◌-◌, ◌<◌, ◌≤◌, List, [], ◌∷◌, ◌++◌, length, true, sym, refl, ap, ◌∙◌, subst, ⊎_elim, inl, arith}
use mathlib.Core.Option.{some, some-ne-none, some-injective}
use lib.ListN.{get_elem?}
use Rattle.std.proofs.Common.{lit<, subst₂, le_refl, zero-le}
use Rattle.aps_model.specs.Limits.{most_cpus}
use Rattle.atomic_table.specs.Table.{opening, Final, Seen}
use Rattle.aps_seats.specs.declared.view.View.{View}
use Rattle.aps_seats.specs.declared.view.Ticket.{Ticket}
use Rattle.aps_seats.specs.declared.view.Ticket.TheVariants.{NoTicket, Waiting, Served}
use Rattle.aps_seats.specs.Log.{Log}
use Rattle.aps_seats.specs.Seen.{IsSeenIn}
use Rattle.aps_seats.specs.Rule.{room, IsServed, HasPlace, IsKept, KeepsRule}
use Rattle.aps_seats.specs.Kinds.{started}
use Rattle.aps_seats.proofs.Others.{seen_self, seen_whole}
use Rattle.aps_seats.proofs.Queue.{unserved, Out}

pub some_core : {Run : Type 0} (found : Option Run) (run : Run) → found ≡ Some run → IsSome found
some_core found run same = subst IsSome (sym same) refl

pub same_core : {Run : Type 0} (a b : Run) → Some a ≡ Some b → a ≡ b
same_core a b same = cc

module _ {Run : Type 0} (log : Log Run) where
  pub begins : (c : Run) (words : List ℕ) → log.cpus_of c ≤ most_cpus → words ≡ 0 ∷ 0 ∷ length (log.entries_of c) ∷ [] → KeepsRule log (opening words (Some c ∷ []) (started log c))
  begins c words few is = record {
    run = c;
    serving = 0;
    queued = 0;
    waiter = λ i. 0;
    owner = λ i. 0;
    words = is;
    fits = lit< tt;
    counted = refl;
    shared_out = omega arith;
    few = few;
    core = inl refl;
    seats = one;
  }
    where
      one : (j : ℕ) (v : View Run) → get_elem? (started log c ∷ []) j ≡ some v → IsKept log c 0 0 (λ i. 0) (λ i. 0) j v
      one zero v e = subst (IsKept log c 0 0 (λ i. 0) (λ i. 0) 0) (some-injective (started log c) v e) record {
        order = zero-le;
        within = le_refl (log.cpus_of c);
        owns = λ cpu a b. refl;
        place = tt;
        knows = λ _. record { seen = seen_self log 0 (log.cpus_of c) c; own = seen_self log 0 0 c; other = seen_self log 0 0 c; served = λ h. absurd h };
      }
      one (suc j) v e = absurd (some-ne-none v (sym e))

  -- the same, of slots to which the core was pushed, and of a key that is the core
  pub begins_at : (c key : Run) (len : ℕ) (none one : List (Option Run)) → log.cpus_of c ≤ most_cpus → len ≡ length (log.entries_of c) → key ≡ c → none ≡ [] → one ≡ none ++ Some c ∷ []
      → KeepsRule log (opening (0 ∷ 0 ∷ len ∷ []) one (started log key))
  begins_at c key len none one few counted told empty pushed = subst₂
      (λ (xs : List (Option Run)) (k : Run). KeepsRule log (opening (0 ∷ 0 ∷ len ∷ []) xs (started log k)))
      (sym (pushed ∙ ap (λ xs. xs ++ Some c ∷ []) empty)) (sym told) (begins c (0 ∷ 0 ∷ len ∷ []) few (ap (λ (n : ℕ). 0 ∷ 0 ∷ n ∷ []) counted))

  -- where one seat has all processors and no ticket, the core is at home, and its history is what the seat has seen
  pub closes : (id : ℕ) (v : View Run) (ws : List ℕ) (xs : List (Option Run)) → v.live ≡ true → v.ticket ≡ NoTicket → v.first ≡ 0 → v.after ≡ log.cpus_of v.seen → Final (Seen (KeepsRule log) id v) ws xs → get_elem? xs 0 ≡ some (Some v.seen)
  closes id v ws xs live away low high (s, (k, at), is, deep, at_home) =
      let mine = k.seats id v at in
      let known = mine.knows live in
      let whole : k.run ≡ v.seen = seen_whole log v.seen k.run (subst₂ (λ (a b : ℕ). IsSeenIn log a b v.seen k.run) low high known.seen) in
      let cpus : log.cpus_of v.seen ≡ log.cpus_of k.run = ap (λ c. log.cpus_of c) (sym whole) in
      ⊎_elim (λ (h : get_elem? s.homes 0 ≡ some (some (Some k.run))). at_home 0 (Some k.run) h ∙ ap (λ (c : Run). some (Some c)) whole)
      (λ (h : Out s.views k.waiter).
      let u : View Run = h.0 in
      let it = k.seats (k.waiter 0) u h.1 in
      let some_room : 0 < u.after - u.first = served_room k.serving k.queued k.waiter (k.waiter 0) (room u) u.ticket it.place h.2 in
      let first : u.first < u.after = omega arith in
      let last : u.first < v.after = omega (arith, it.within, high, cpus) in
      let same : k.waiter 0 ≡ id = sym (it.owns u.first (le_refl u.first) first) ∙ mine.owns u.first (omega (arith, low)) last in
      absurd (unserved v.ticket away (subst (λ (x : View Run). IsServed x.ticket) (some-injective u v (sym h.1 ∙ ap (get_elem? s.views) same ∙ at)) h.2)))
      k.core
    where
      served_room : (serving queued : ℕ) (waiter : ℕ → ℕ) (j size : ℕ) (ticket : Ticket) → HasPlace serving queued waiter j size ticket → IsServed ticket → 0 < size
      served_room serving queued waiter j size NoTicket h is = absurd is
      served_room serving queued waiter j size (Waiting t) h is = h.0
      served_room serving queued waiter j size (Served t) h is = h.0
