-- Splitting and joining seats keeps the rule of the lock.
use Rattle.std.proofs.Common.{◌≡◌, ◌≢◌, ℕ, ◌+◌, ◌-◌, ◌<◌, ◌≤◌, ◌⊎◌, List, [], ◌∷◌, ◌++◌, length, set, true, sym, ap, ◌∙◌, subst, ⊎_elim, inl, inr, arith}
use mathlib.Core.Option.{some}
use lib.ListN.{get_elem?}
use Rattle.std.proofs.Common.{le_refl, le_trans, zero-le, length-set}
use Rattle.atomic_table.specs.Table.{Splits, Joins}
use Rattle.atomic_table.proofs.Lists.{at_set}
use Rattle.aps_seats.specs.declared.view.View.{View}
use Rattle.aps_seats.specs.declared.view.Ticket.TheVariants.{NoTicket}
use Rattle.aps_seats.specs.Log.{Log}
use Rattle.aps_seats.specs.Rule.{tickets, count_ticket, room, HasPlace, IsKept, KeepsRule}
use Rattle.aps_seats.specs.Kinds.{cut_left, cut_right, witness_of, joined, spent}
use Rattle.aps_seats.proofs.Sums.{sum_set, sum_snoc, deal, deal_in, deal_out, seats_stay, snoc_at, there_lt}
use Rattle.aps_seats.proofs.Others.{seen_both, seen_longer, others_less, others_empty, in_or_out}
use Rattle.aps_seats.proofs.Queue.{unserved, Out, out_stays, out_longer}

module _ {V : Type 0} where
  -- the seats after one of them was cut in two
  pub seats_cut : (K : ℕ → V → Type 0) (vs : List V) (id : ℕ) (left right : V) → id < length vs → K id left → K (length vs) right → ((j : ℕ) (d : V) → j ≢ id → j < length vs → get_elem? vs j ≡ some d → K j d)
      → (j : ℕ) (d : V) → get_elem? (set vs id left ++ right ∷ []) j ≡ some d → K j d
  seats_cut K vs id left right near a b others j d there = ⊎_elim
      (λ (t : (get_elem? (set vs id left) j ≡ some d) × (j < length (set vs id left))).
      seats_stay (λ i u. i < length vs → K i u) vs id left (λ _. a) (λ i u apart at l. others i u apart l at) j d t.0 (omega (arith, t.1, length-set vs id left)))
      (λ (t : (right ≡ d) × (j ≡ length (set vs id left))). subst (λ (x : ℕ × V). K x.0 x.1) (λ i. (sym (t.1 ∙ length-set vs id left) i, t.0 i)) b)
      (snoc_at (set vs id left) right d j there)

-- a processor of either seat is of the first one, or of the second one
pub within_both : (after low high cpu : ℕ) → ((high - low) ≡ 0) ⊎ (after ≡ low) → after ≤ cpu → cpu < after + (high - low) → (low ≤ cpu) × (cpu < high)
within_both after low high cpu (inl empty) a b = absurd (omega arith)
within_both after low high cpu (inr same) a b = (omega arith, omega arith)

module _ {Run : Type 0} (log : Log Run) where
  pub cuts : (id : ℕ) (v : View Run) (at : ℕ) → v.ticket ≡ NoTicket → v.first ≤ at → at ≤ v.after → Splits (KeepsRule log) id v (cut_left at v) (cut_right at v)
  cuts id v at away low high s k there =
      let left : View Run = cut_left at v in
      let right : View Run = cut_right at v in
      let n : ℕ = length s.views in
      let mine = k.seats id v there in
      let owner : ℕ → ℕ = deal k.owner at v.after n in
      let inside : id < n = there_lt s.views id v there in record {
        run = k.run;
        serving = k.serving;
        queued = k.queued;
        waiter = k.waiter;
        owner = owner;
        words = k.words;
        fits = k.fits;
        counted = omega (arith, k.counted, sum_snoc tickets (set s.views id left) right, sum_set tickets s.views id v left there);
        shared_out = omega (arith, k.shared_out, sum_snoc room (set s.views id left) right, sum_set room s.views id v left there);
        few = k.few;
        core = ⊎_elim (λ h. inl h) (λ (h : Out s.views k.waiter). inr (out_longer (set s.views id left) k.waiter right (out_stays s.views k.waiter id v left there (unserved v.ticket away) h))) k.core;
        seats = seats_cut (IsKept log k.run k.serving k.queued k.waiter owner) s.views id left right inside
            (record {
              order = low;
              within = omega (arith, mine.within);
              owns = λ cpu a b. deal_out k.owner at v.after n cpu (inl b) ∙ mine.owns cpu a (omega arith);
              place = subst (HasPlace k.serving k.queued k.waiter id (at - v.first)) (sym away) tt;
              knows = λ live. let it = mine.knows live in
                  record { seen = (it.seen.0, it.seen.1, others_less log v.first v.after v.first at (log.cpus_of v.seen) it.seen.0 (le_refl v.first) high it.seen.2); own = it.own; other = it.other; served = it.served };
            })
            (record {
              order = high;
              within = mine.within;
              owns = λ cpu a b. deal_in k.owner at v.after n cpu a b;
              place = tt;
              knows = λ live. let it = mine.knows live in
                  record { seen = (it.seen.0, it.seen.1, others_less log v.first v.after at v.after (log.cpus_of v.seen) it.seen.0 low (le_refl v.after) it.seen.2); own = it.own; other = it.other; served = λ h. absurd h };
            })
            (λ j d apart l here. let it = k.seats j d here in record {
              order = it.order;
              within = it.within;
              owns = λ cpu a b. ⊎_elim (λ (out : (cpu < at) ⊎ (v.after ≤ cpu)). deal_out k.owner at v.after n cpu out ∙ it.owns cpu a b)
                  (λ (i : (at ≤ cpu) × (cpu < v.after)). absurd (apart (sym (it.owns cpu a b) ∙ mine.owns cpu (le_trans low i.0) i.1))) (in_or_out at v.after cpu);
              place = it.place;
              knows = it.knows;
            });
      }

  pub cuts_at : (id : ℕ) (v : View Run) (told at : ℕ) → told ≡ at → v.ticket ≡ NoTicket → v.first ≤ at → at ≤ v.after → Splits (KeepsRule log) id v (cut_left told v) (cut_right told v)
  cuts_at id v told at same away low high = subst (λ (n : ℕ). Splits (KeepsRule log) id v (cut_left n v) (cut_right n v)) (sym same) (cuts id v at away low high)

  pub witnesses : (id : ℕ) (v : View Run) → v.ticket ≡ NoTicket → Splits (KeepsRule log) id v v (witness_of v)
  witnesses id v away s k there =
      let right : View Run = witness_of v in
      let mine = k.seats id v there in record {
        run = k.run;
        serving = k.serving;
        queued = k.queued;
        waiter = k.waiter;
        owner = k.owner;
        words = k.words;
        fits = k.fits;
        counted = omega (arith, k.counted, sum_snoc tickets (set s.views id v) right, sum_set tickets s.views id v v there);
        shared_out = omega (arith, k.shared_out, sum_snoc room (set s.views id v) right, sum_set room s.views id v v there);
        few = k.few;
        core = ⊎_elim (λ h. inl h) (λ (h : Out s.views k.waiter). inr (out_longer (set s.views id v) k.waiter right (out_stays s.views k.waiter id v v there (unserved v.ticket away) h))) k.core;
        seats = seats_cut (IsKept log k.run k.serving k.queued k.waiter k.owner) s.views id v right (there_lt s.views id v there) mine
            (record {
              order = le_refl 0;
              within = zero-le;
              owns = λ cpu a b. absurd (omega arith);
              place = tt;
              knows = λ live. let it = mine.knows live in record { seen = (it.seen.0, it.seen.1, others_empty log v.first v.after (log.cpus_of v.seen) it.seen.0 it.seen.2); own = it.own; other = it.other; served = λ h. absurd h };
            })
            (λ j d apart l here. k.seats j d here);
      }

  pub joins : (id : ℕ) (v : View Run) (other : ℕ) (w : View Run) → v.live ≡ true → w.live ≡ true → v.ticket ≡ NoTicket → w.ticket ≡ NoTicket → ((w.after - w.first) ≡ 0) ⊎ (v.after ≡ w.first)
      → Joins (KeepsRule log) id v other w (joined log v w) (spent log)
  joins id v other w v_live w_live v_away w_away near s k there apart there' =
      let both : View Run = joined log v w in
      let mine = k.seats id v there in
      let there_w : get_elem? s.views other ≡ some w = ⊎_elim (λ (t : (other ≡ id) × (both ≡ w)). absurd (apart t.0)) (λ (t : (other ≢ id) × (get_elem? s.views other ≡ some w)). t.1) (at_set s.views id other both w there') in
      let theirs = k.seats other w there_w in
      let known = mine.knows v_live in
      let known_w = theirs.knows w_live in
      let owner : ℕ → ℕ = deal k.owner v.after (v.after + room w) id in
      let met = seen_longer log v.first v.after w.first w.after v.seen w.seen k.run known.seen known_w.seen in
      let views : List (View Run) = set s.views id both in
      let size : v.after + room w ≤ log.cpus_of k.run = ⊎_elim (λ (empty : (w.after - w.first) ≡ 0). let z : v.after + room w ≤ log.cpus_of k.run = omega (arith, mine.within) in z) (λ (same : v.after ≡ w.first). let z : v.after + room w ≤ log.cpus_of k.run = omega (arith, theirs.within, theirs.order) in z) near in record {
        run = k.run;
        serving = k.serving;
        queued = k.queued;
        waiter = k.waiter;
        owner = owner;
        words = k.words;
        fits = k.fits;
        counted = omega (arith, k.counted, sum_set tickets s.views id v both there, sum_set tickets views other w (spent log) there', ap count_ticket w_away);
        shared_out = omega (arith, k.shared_out, sum_set room s.views id v both there, sum_set room views other w (spent log) there', mine.order);
        few = k.few;
        core = ⊎_elim (λ h. inl h) (λ (h : Out s.views k.waiter). inr (out_stays views k.waiter other w (spent log) there' (unserved w.ticket w_away) (out_stays s.views k.waiter id v both there (unserved v.ticket v_away) h))) k.core;
        seats = seats_stay (IsKept log k.run k.serving k.queued k.waiter owner) views other (spent log)
            (record { order = le_refl 0; within = zero-le; owns = λ cpu a b. absurd (omega arith); place = tt; knows = λ live. absurd (cc) })
            (λ j d elsewhere here. ⊎_elim
            (λ (t : (j ≡ id) × (both ≡ d)). subst (λ (x : ℕ × View Run). IsKept log k.run k.serving k.queued k.waiter owner x.0 x.1) (λ i. (sym t.0 i, t.1 i)) record {
              order = omega (arith, mine.order);
              within = size;
              owns = λ cpu a b. ⊎_elim
                  (λ (out : (cpu < v.after) ⊎ (v.after + room w ≤ cpu)). deal_out k.owner v.after (v.after + room w) id cpu out
                  ∙ mine.owns cpu a (⊎_elim (λ (l : cpu < v.after). l) (λ (h : v.after + room w ≤ cpu). absurd (omega arith)) out))
                  (λ (i : (v.after ≤ cpu) × (cpu < v.after + room w)). deal_in k.owner v.after (v.after + room w) id cpu i.0 i.1) (in_or_out v.after (v.after + room w) cpu);
              place = subst (HasPlace k.serving k.queued k.waiter id (room both)) (sym v_away) tt;
              knows = λ _. record {
                seen = seen_both log v.first v.after w.first w.after v.seen w.seen k.run near known.seen known_w.seen;
                own = met.0;
                other = met.1;
                served = λ h. absurd (unserved v.ticket v_away h);
              };
            })
            (λ (t : (j ≢ id) × (get_elem? s.views j ≡ some d)). let it = k.seats j d t.1 in record {
              order = it.order;
              within = it.within;
              owns = λ cpu a b. ⊎_elim (λ (out : (cpu < v.after) ⊎ (v.after + room w ≤ cpu)). deal_out k.owner v.after (v.after + room w) id cpu out ∙ it.owns cpu a b)
                  (λ (i : (v.after ≤ cpu) × (cpu < v.after + room w)). let l = within_both v.after w.first w.after cpu near i.0 i.1 in absurd (elsewhere (sym (it.owns cpu a b) ∙ theirs.owns cpu l.0 l.1)))
                  (in_or_out v.after (v.after + room w) cpu);
              place = it.place;
              knows = it.knows;
            })
            (at_set s.views id j both d here));
      }
