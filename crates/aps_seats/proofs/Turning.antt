-- The kinds of step of a turn keep the rule of the lock, and so does a look at the length.
use Rattle.std.proofs.Common.{Option, Some, ◌≡◌, ◌≢◌, ℕ, ◌+◌, ◌-◌, ◌%◌, ◌^◌, ◌<◌, ◌≤◌, ◌⊎◌, List, [], ◌∷◌, ◌++◌, length, set, slice_index, slice_set, true, sym, refl, ap, ◌∙◌, subst, ⊎_elim, inl, inr, arith}
use mathlib.Core.Option.{none, some, some-injective}
use native.Mathlib.Decide.{ℕ_discrete}
use mathlib.Core.Logic.{dite}
use lib.ListN.{get_elem?}
use lib.Seq.{set-get_or}
use Rattle.std.proofs.Common.{mod-lt, lit<, subst₂}
use Rattle.std.proofs.Math.Nat.{mod-add-mod}
use Rattle.atomic_table.specs.Table.{State, Me, step, keeps, takes, gives, Allows}
use Rattle.atomic_table.proofs.Lists.{set_here, set_again}
use Rattle.aps_seats.specs.declared.view.View.{View}
use Rattle.aps_seats.specs.declared.view.Ticket.{Ticket}
use Rattle.aps_seats.specs.declared.view.Ticket.TheVariants.{NoTicket, Waiting, Served}
use Rattle.aps_seats.specs.Log.{Log}
use Rattle.aps_seats.specs.Seen.{IsSeenIn, with_one}
use Rattle.aps_seats.specs.Rule.{tickets, count_ticket, room, IsServed, HasPlace, Knows, IsKept, KeepsRule}
use Rattle.aps_seats.specs.Kinds.{IsStepped, Seated, TakesTicket, Looks, Publishes, Releases, Tells}
use Rattle.aps_seats.proofs.Sums.{sum_set, put, put_here, put_else, seats_stay, set_there}
use Rattle.aps_seats.proofs.Others.{seen_cpus, seen_grows, seen_self, in_or_out}
use Rattle.aps_seats.proofs.Queue.{few_queued, served_first, one_ticket, place_later, place_sooner, waits_at, same_ticket, unserved, same_held, Out, out_stays}

module _ {Run : Type 0} (log : Log Run) where
  pub takes_ticket : (id : ℕ) (v : View Run) → v.ticket ≡ NoTicket → v.first < v.after → Allows (KeepsRule log) 1 id (v, []) 0 (λ n. (n + 1) % 2 ^ 64) (TakesTicket (step 1 0 1 0 none) (v, []))
  takes_ticket id v away some_room s k deep at small =
      let t : ℕ = slice_index s.words 0 in
      let w : View Run = record v { ticket = Waiting t } in
      let mine = k.seats id v at in
      let waiter : ℕ → ℕ = put k.waiter k.queued id in
      let unserved : ¬ (IsServed v.ticket) = subst (λ (x : Ticket). ¬ (IsServed x)) (sym away) (λ is. is) in
      let is_t : t ≡ (k.serving + k.queued) % 2 ^ 64 = ap (λ ws. slice_index ws 0) k.words in (
        w,
        keeps,
        tt,
        record {
          run = k.run;
          serving = k.serving;
          queued = k.queued + 1;
          waiter = waiter;
          owner = k.owner;
          words = ap (λ ws. slice_set ws 0 ((slice_index ws 0 + 1) % 2 ^ 64)) k.words
              ∙ ap (λ (n : ℕ). n ∷ k.serving ∷ length (log.entries_of k.run) ∷ []) (mod-add-mod (k.serving + k.queued) (2 ^ 64) 1 ∙ ap (λ (n : ℕ). n % 2 ^ 64) (let e : k.serving + k.queued + 1 ≡ k.serving + (k.queued + 1) = omega arith in e));
          fits = k.fits;
          counted = omega (arith, k.counted, sum_set tickets s.views id v w at, ap count_ticket away);
          shared_out = omega (arith, k.shared_out, sum_set room s.views id v w at);
          few = k.few;
          core = ⊎_elim (λ h. inl h)
              (λ (h : Out s.views k.waiter).
              let head = served_first k.serving k.queued k.waiter (k.waiter 0) (room h.0) h.0.ticket (k.seats (k.waiter 0) h.0 h.1).place h.2 in
              let someone : 0 < k.queued = head.0 in
              let same : waiter 0 ≡ k.waiter 0 = put_else k.waiter k.queued id 0 (λ e. absurd (omega arith)) in
              inr (subst (λ (i : ℕ). (u : View Run) × (get_elem? (set s.views id w) i ≡ some u) × IsServed u.ticket) (sym same) (out_stays s.views k.waiter id v w at unserved h)))
              k.core;
          seats = seats_stay (IsKept log k.run k.serving (k.queued + 1) waiter k.owner) s.views id w
              (record {
                order = mine.order;
                within = mine.within;
                owns = mine.owns;
                place = (omega arith, (k.queued, omega arith, is_t, put_here k.waiter k.queued id));
                knows = λ live. let it = mine.knows live in record { seen = it.seen; own = it.own; other = it.other; served = λ is. absurd is };
              })
              (λ j d other there. let it = k.seats j d there in record { order = it.order; within = it.within; owns = it.owns; place = place_later k.serving k.queued k.waiter id j (room d) d.ticket it.place; knows = it.knows });
        },
        refl,
      )

  -- a look that changes nothing
  pub unmoved : (s : State (Option Run) (View Run)) (k : KeepsRule log s) (i id : ℕ) (v : View Run) → get_elem? s.views id ≡ some v → KeepsRule log record { words = set s.words i (slice_index s.words i); homes = s.homes; views = set s.views id v }
  unmoved s k i id v at = subst₂ (λ (ws : List ℕ) (vs : List (View Run)). KeepsRule log record { words = ws; homes = s.homes; views = vs }) (sym (set-get_or s.words i 0)) (sym (set_again s.views id v at)) k

  pub looks : (id : ℕ) (v : View Run) (t : ℕ) → v.live ≡ true → v.ticket ≡ Waiting t → Allows (KeepsRule log) 1 id (v, []) 1 (λ n. n) (Looks log (step 1 1 0 0 none) (v, []))
  looks id v t live waits s k deep at small =
      let found : ℕ = slice_index s.words 1 in
      let is : found ≡ k.serving = ap (λ ws. slice_index ws 1) k.words in
      let mine = k.seats id v at in
      let known = mine.knows live in
      let unserved : ¬ (IsServed v.ticket) = subst (λ (x : Ticket). ¬ (IsServed x)) (sym waits) (λ h. h) in
      dite (ℕ_discrete found t)
      (λ hit.
      let head = waits_at k.serving k.queued k.waiter id (room v) t k.fits (few_queued log s k) (sym is ∙ hit) (subst (HasPlace k.serving k.queued k.waiter id (room v)) waits mine.place) in
      let w : View Run = record v { seen = k.run; ticket = Served t } in
      let home : get_elem? s.homes 0 ≡ some (some (Some k.run)) = ⊎_elim (λ (h : get_elem? s.homes 0 ≡ some (some (Some k.run))). h)
      (λ (h : Out s.views k.waiter). absurd (unserved (subst (λ (x : View Run). IsServed x.ticket) (some-injective h.0 v (sym h.1 ∙ ap (get_elem? s.views) head.2 ∙ at)) h.2))) k.core in
      let now : Me (Option Run) (View Run) = (w, (0, Some k.run) ∷ []) in
      let T : ℕ → Type 0 = λ x. (found ≡ x → (core : Run) × IsSeenIn log v.first v.after v.seen core × (now ≡ (record v { seen = core; ticket = Served x }, (0, Some core) ∷ []))) × (found ≢ x → now ≡ (v, [])) in (
        w,
        takes 0 (Some k.run),
        home,
        record {
          run = k.run;
          serving = k.serving;
          queued = k.queued;
          waiter = k.waiter;
          owner = k.owner;
          words = ap (λ ws. slice_set ws 1 (slice_index ws 1)) k.words;
          fits = k.fits;
          counted = omega (arith, k.counted, sum_set tickets s.views id v w at, ap count_ticket waits);
          shared_out = omega (arith, k.shared_out, sum_set room s.views id v w at);
          few = k.few;
          core = inr (w, ap (get_elem? (set s.views id w)) head.2 ∙ set_there s.views id v w at, tt);
          seats = seats_stay (IsKept log k.run k.serving k.queued k.waiter k.owner) s.views id w
              (record {
                order = mine.order;
                within = mine.within;
                owns = mine.owns;
                place = (head.0, head.1, sym hit ∙ is, head.2);
                knows = λ _. record { seen = seen_self log v.first v.after k.run; own = known.own; other = known.other; served = λ _. refl };
              })
              (λ j d other there. k.seats j d there);
        },
        (λ u waits_u. subst T (same_ticket v.ticket t u waits waits_u) ((λ _. (k.run, known.seen, refl)), (λ miss. absurd (miss hit)))),
      ))
      (λ miss. (v, keeps, tt, unmoved s k 1 id v at, (λ u waits_u. ((λ hit. absurd (miss (hit ∙ same_ticket v.ticket u t waits_u waits))), (λ _. refl)))))

  -- what a seat that isn't served knows, once another seat's processor has stepped
  pub knows_more : (core : Run) (d : View Run) (e : log.Entry) → Knows log core d → ¬ (IsServed d.ticket) → (log.cpu_of e < d.first) ⊎ (d.after ≤ log.cpu_of e) → log.cpu_of e < log.cpus_of core → Knows log (with_one log core e) d
  knows_more core d e it unserved out is = record {
    seen = seen_grows log d.first d.after d.seen core e it.seen out (omega (arith, is, seen_cpus log d.first d.after d.seen core it.seen));
    own = it.own;
    other = it.other;
    served = λ h. absurd (unserved h);
  }

  -- The served seat has the core c in hand, and publishes it. What other seats know of the history they know of that of c
  pub moved_on : (s : State (Option Run) (View Run)) (k : KeepsRule log s) (id : ℕ) (v : View Run) (c : Run) (x : ℕ) → get_elem? s.views id ≡ some v → v.live ≡ true → IsServed v.ticket → log.cpus_of c ≡ log.cpus_of k.run → x ≡ length (log.entries_of c)
      → ((j : ℕ) (d : View Run) → j ≢ id → get_elem? s.views j ≡ some d → d.live ≡ true → Knows log c d)
      → KeepsRule log record { words = set s.words 2 x; homes = s.homes; views = set s.views id (record v { seen = c }) }
  moved_on s k id v c x at live served cpus len others =
      let w : View Run = record v { seen = c } in
      let mine = k.seats id v at in
      let known = mine.knows live in
      let head = served_first k.serving k.queued k.waiter id (room v) v.ticket mine.place served in record {
        run = c;
        serving = k.serving;
        queued = k.queued;
        waiter = k.waiter;
        owner = k.owner;
        words = ap (λ ws. slice_set ws 2 x) k.words ∙ ap (λ (n : ℕ). ((k.serving + k.queued) % 2 ^ 64) ∷ k.serving ∷ n ∷ []) len;
        fits = k.fits;
        counted = omega (arith, k.counted, sum_set tickets s.views id v w at);
        shared_out = omega (arith, k.shared_out, cpus, sum_set room s.views id v w at);
        few = omega (arith, k.few, cpus);
        core = inr (w, ap (get_elem? (set s.views id w)) head.1 ∙ set_there s.views id v w at, served);
        seats = seats_stay (IsKept log c k.serving k.queued k.waiter k.owner) s.views id w
            (record {
              order = mine.order;
              within = omega (arith, mine.within, cpus);
              owns = mine.owns;
              place = mine.place;
              knows = λ _. record { seen = seen_self log v.first v.after c; own = known.own; other = known.other; served = λ _. refl };
            })
            (λ j d apart there. let it = k.seats j d there in
            record { order = it.order; within = omega (arith, it.within, cpus); owns = it.owns; place = it.place; knows = others j d apart there });
      }

  pub publishes : (id : ℕ) (v : View Run) (core c : Run) (x : ℕ) → v.live ≡ true → IsServed v.ticket → v.seen ≡ core → IsStepped log v.first v.after core c → x ≡ length (log.entries_of c)
      → Allows (KeepsRule log) 1 id (v, (0, Some c) ∷ []) 2 (λ _. x) (Publishes (step 1 2 x 0 none) (v, (0, Some c) ∷ []))
  publishes id v core c x live served seen steps len s k deep at small =
      let mine = k.seats id v at in
      let known = mine.knows live in
      let is : core ≡ k.run = sym seen ∙ known.served served in
      let head = served_first k.serving k.queued k.waiter id (room v) v.ticket mine.place served in
      let rule : KeepsRule log record { words = set s.words 2 x; homes = s.homes; views = set s.views id (record v { seen = c }) } = ⊎_elim
      (λ (same : c ≡ core).
      let to : k.run ≡ c = sym is ∙ sym same in
      moved_on s k id v c x at live served (ap log.cpus_of (sym to)) len
      (λ j d apart there alive. subst (λ (z : Run). Knows log z d) to ((k.seats j d there).knows alive)))
      (λ (new : (e : log.Entry) × (c ≡ with_one log core e) × (v.first ≤ log.cpu_of e) × (log.cpu_of e < v.after)).
      let e : log.Entry = new.0 in
      let to : with_one log k.run e ≡ c = ap (λ (d : Run). with_one log d e) (sym is) ∙ sym new.1 in
      let below : log.cpu_of e < v.after = new.3 in
      let lies : log.cpu_of e < log.cpus_of k.run = omega (arith, mine.within) in
      moved_on s k id v c x at live served (ap log.cpus_of (sym to) ∙ log.same_cpus k.run (log.entries_of k.run ++ e ∷ [])) len
      (λ j d apart there alive. let it = k.seats j d there in
      subst (λ (z : Run). Knows log z d) to
      (knows_more k.run d e (it.knows alive) (λ h. apart (sym (served_first k.serving k.queued k.waiter j (room d) d.ticket it.place h).1 ∙ head.1))
      (⊎_elim (λ (out : (log.cpu_of e < d.first) ⊎ (d.after ≤ log.cpu_of e)). out) (λ (inside : (d.first ≤ log.cpu_of e) × (log.cpu_of e < d.after)). absurd (apart (sym (it.owns (log.cpu_of e) inside.0 inside.1) ∙ mine.owns (log.cpu_of e) new.2 new.3))) (in_or_out d.first d.after (log.cpu_of e))) lies)))
      steps in
      (record v { seen = c }, keeps, tt, rule, (λ run held. ap (λ (r : Run). let m : Seated Run = (record v { seen = r }, (0, Some c) ∷ []) in m) (same_held _ c run refl held)))

  pub releases : (id : ℕ) (v : View Run) (core : Run) → v.live ≡ true → IsServed v.ticket → v.seen ≡ core
      → Allows (KeepsRule log) 1 id (v, (0, Some core) ∷ []) 1 (λ n. (n + 1) % 2 ^ 64) (Releases (step 1 1 1 0 none) (v, (0, Some core) ∷ []))
  releases id v core live served seen s k deep at small =
      let w : View Run = record v { ticket = NoTicket } in
      let mine = k.seats id v at in
      let known = mine.knows live in
      let head = served_first k.serving k.queued k.waiter id (room v) v.ticket mine.place served in
      let someone : 0 < k.queued = head.0 in
      let more : k.serving + 1 + (k.queued - 1) ≡ k.serving + k.queued = omega arith in (
        w,
        gives,
        tt,
        record {
          run = k.run;
          serving = (k.serving + 1) % 2 ^ 64;
          queued = k.queued - 1;
          waiter = λ i. k.waiter (i + 1);
          owner = k.owner;
          words = ap (λ ws. slice_set ws 1 ((slice_index ws 1 + 1) % 2 ^ 64)) k.words
              ∙ ap (λ (n : ℕ). n ∷ ((k.serving + 1) % 2 ^ 64) ∷ length (log.entries_of k.run) ∷ []) (ap (λ (n : ℕ). n % 2 ^ 64) (sym more) ∙ sym (mod-add-mod (k.serving + 1) (2 ^ 64) (k.queued - 1)));
          fits = mod-lt (k.serving + 1) (lit< tt);
          counted = omega (arith, k.counted, sum_set tickets s.views id v w at, one_ticket v.ticket served);
          shared_out = omega (arith, k.shared_out, sum_set room s.views id v w at);
          few = k.few;
          core = inl (set_here s.homes 0 (some (Some core)) (omega arith) ∙ ap (λ (c : Run). some (some (Some c))) (sym seen ∙ known.served served));
          seats = seats_stay (IsKept log k.run ((k.serving + 1) % 2 ^ 64) (k.queued - 1) (λ i. k.waiter (i + 1)) k.owner) s.views id w
              (record { order = mine.order; within = mine.within; owns = mine.owns; place = tt; knows = λ _. record { seen = known.seen; own = known.own; other = known.other; served = λ is. absurd is } })
              (λ j d other there. let it = k.seats j d there in
              record { order = it.order; within = it.within; owns = it.owns; place = place_sooner k.serving k.queued k.waiter id j (room d) d.ticket head.1 other someone it.place; knows = it.knows });
        },
        refl,
      )

  pub tells : (id : ℕ) (v : View Run) → v.live ≡ true → Allows (KeepsRule log) 1 id (v, []) 2 (λ n. n) (Tells log (step 1 2 0 0 none) (v, []))
  tells id v live s k deep at small = let it = (k.seats id v at).knows live in
      (v, keeps, tt, unmoved s k 2 id v at, (refl, it.own, it.other, (k.run, it.seen, ap (λ ws. slice_index ws 2) k.words)))

  -- the same, of a seat as it stands at a step of a table with one slot
  pub takes_ticket_at : (slots id : ℕ) (me : Seated Run) → slots ≡ 1 → me.0.ticket ≡ NoTicket → me.0.first < me.0.after → me.1 ≡ []
      → Allows (KeepsRule log) slots id me 0 (λ n. (n + 1) % 2 ^ 64) (TakesTicket (step slots 0 1 0 none) me)
  takes_ticket_at slots id me one away some_room empty = subst₂
      (λ (n : ℕ) (hand : List (ℕ × Option Run)). Allows (KeepsRule log) n id (me.0, hand) 0 (λ x. (x + 1) % 2 ^ 64) (TakesTicket (step n 0 1 0 none) (me.0, hand)))
      (sym one) (sym empty) (takes_ticket id me.0 away some_room)

  pub looks_at : (slots id t : ℕ) (me now : Seated Run) → slots ≡ 1 → me.0.live ≡ true → me.0.ticket ≡ Waiting t → me.1 ≡ [] → now ≡ me
      → Allows (KeepsRule log) slots id now 1 (λ n. n) (Looks log (step slots 1 0 0 none) now)
  looks_at slots id t me now one live waits empty same = subst₂
      (λ (n : ℕ) (m : Seated Run). Allows (KeepsRule log) n id m 1 (λ x. x) (Looks log (step n 1 0 0 none) m))
      (sym one) (sym (same ∙ (λ i. (me.0, empty i)))) (looks id me.0 t live waits)

  pub publishes_at : (slots id x : ℕ) (me : Seated Run) (run : Run) → slots ≡ 1 → me.0.live ≡ true → IsServed me.0.ticket → me.1 ≡ (0, Some run) ∷ []
      → IsStepped log me.0.first me.0.after me.0.seen run → x ≡ length (log.entries_of run)
      → Allows (KeepsRule log) slots id me 2 (λ _. x) (Publishes (step slots 2 x 0 none) me)
  publishes_at slots id x me run one live served held steps len = subst₂
      (λ (n : ℕ) (hand : List (ℕ × Option Run)). Allows (KeepsRule log) n id (me.0, hand) 2 (λ _. x) (Publishes (step n 2 x 0 none) (me.0, hand)))
      (sym one) (sym held) (publishes id me.0 me.0.seen run x live served refl steps len)

  pub releases_at : (slots id : ℕ) (me now : Seated Run) (run : Run) → slots ≡ 1 → me.0.live ≡ true → IsServed me.0.ticket → me.1 ≡ (0, Some run) ∷ []
      → now ≡ (record me.0 { seen = run }, me.1) → Allows (KeepsRule log) slots id now 1 (λ n. (n + 1) % 2 ^ 64) (Releases (step slots 1 1 0 none) now)
  releases_at slots id me now run one live served held same =
      let v : View Run = record me.0 { seen = run } in subst₂
      (λ (n : ℕ) (m : Seated Run). Allows (KeepsRule log) n id m 1 (λ x. (x + 1) % 2 ^ 64) (Releases (step n 1 1 0 none) m))
      (sym one) (sym (same ∙ (λ i. (v, held i)))) (releases id v run live served refl)

  pub tells_at : (slots id : ℕ) (me : Seated Run) (v : View Run) → slots ≡ 1 → v.live ≡ true → me ≡ (v, [])
      → Allows (KeepsRule log) slots id me 2 (λ n. n) (Tells log (step slots 2 0 0 none) me)
  tells_at slots id me v one live same = subst₂
      (λ (n : ℕ) (m : Seated Run). Allows (KeepsRule log) n id m 2 (λ x. x) (Tells log (step n 2 0 0 none) m))
      (sym one) (sym same) (tells id v live)
