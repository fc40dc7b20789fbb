-- What a processor keeps of its pick.
use Rattle.std.proofs.Common.{◌≡◌, ℕ, ◌+◌, ◌-◌, ◌/◌, ◌<◌, List, [], ◌∷◌, ◌++◌, map, length, refl, sym, ◌∙◌, ap, subst, cond, ◌&&◌, Option, Some, None, arith, inl, inr}
use Rattle.std.specs.List.{sum_by, range_with_len}
use Rattle.std.specs.Option.{option_map}
use Rattle.std.proofs.lemmas.List.Sums.{sum_by-append}
use Rattle.aps_model.specs.declared.state.State.TheVariants.{Running}
use Rattle.aps_model.specs.declared.state.ThreadNow.{ThreadNow}
use Rattle.aps_model.specs.declared.state.CpuNow.{CpuNow}
use Rattle.aps_model.specs.declared.state.Facts.{Facts}
use Rattle.aps_model.specs.declared.state.Pick.{Pick}
use Rattle.aps_model.specs.declared.shape.Shape.{Shape}
use Rattle.aps_model.specs.declared.merit.PartFacts.{PartFacts}
use Rattle.aps_model.specs.declared.merit.Contender.{Contender}
use Rattle.aps_model.specs.declared.partition.PartitionRow.{PartitionRow}
use Rattle.aps_model.specs.declared.entry.Entry.{Entry}
use Rattle.laws_runs.specs.Waits.{IsPlain}
use Rattle.laws_runs.specs.Bears.{NamesChannels}
use Rattle.laws_runs.specs.Untouched.{AgreesOnRunning, IsComplete, IsPickSaid}
use Rattle.laws_runs.specs.Sizes.{IsSameSizes}
use Rattle.std.proofs.Math.Seq.{map-set_same}
use Rattle.laws_runs.proofs.Mid.{test_mid, back_mid}
use Rattle.laws_runs.proofs.Picked.{IsReadyBest, greatest_ready, flag_running, flag_shape, flag_rows, cpu_same}
use Rattle.laws_runs.proofs.StepOf.{step_by, bill_says, mid_count, bill_at, tested_at, horizon_same}
use Rattle.aps_model.specs.Bill.{bill_of}
use Rattle.aps_model.specs.Budget.{all_parts, has_standing, in_budget, is_shut, part_at, part_facts}
use Rattle.aps_model.specs.Due.{due, last_end}
use Rattle.aps_model.specs.Flag.{flag_for, with_flag}
use Rattle.aps_model.specs.Inherit.{facts_of, inherited, top_of}
use Rattle.aps_model.specs.Merit.{is_critical_pick}
use Rattle.aps_model.specs.Partition.{row_or_none}
use Rattle.aps_model.specs.Pick.{contenders, greatest}
use Rattle.aps_model.specs.Scenario.{Scenario}
use Rattle.aps_model.specs.SchedulerState.{ChannelNow, SchedulerState, cpu_at, no_thread, thread_at}
use Rattle.aps_model.specs.Step.{Step, billed, chosen, pick, settled, step}
use Rattle.aps_model.specs.Usage.{billed_by, critical_by, names, overlap, window_critical, window_used}

-- neither a pick nor a flag changes what a thread inherits
pub facts_picked : (r : SchedulerState) (ps : List PartFacts) (c : ℕ) (best : Option Contender) (x : ℕ) → facts_of (chosen r ps c best) x ≡ facts_of r x
facts_picked r ps c None x = refl
facts_picked r ps c (Some b) x =
    ap (λ (own : List Facts). inherited (record { own = own; triples = r.triples; tops = map (λ (c : ChannelNow). top_of c.messages) r.channels }) x)
    (map-set_same (λ (t : ThreadNow). t.own) r.threads b.thread (record (thread_at r b.thread) { state = Running c }) no_thread refl)

facts_flagged : (s : SchedulerState) (now : ℕ) (o : Option ℕ) (x : ℕ) → facts_of (with_flag s now o) x ≡ facts_of s x
facts_flagged s now None x = refl
facts_flagged s now (Some d) x = refl

chosen_cpu : (r : SchedulerState) (ps : List PartFacts) (c : ℕ) (best : Option Contender) → c < length r.cpus
    → (cpu_at (chosen r ps c best) c).running ≡ option_map (λ (b : Contender). record { thread = b.thread; partition = b.facts.partition; critical = is_critical_pick b.facts (part_at ps b.facts.partition) }) best
chosen_cpu r ps c None below = ap (λ (z : CpuNow). z.running) (cpu_same r.cpus c _ below)
chosen_cpu r ps c (Some b) below = ap (λ (z : CpuNow). z.running) (cpu_same r.cpus c _ below)

pub chosen_shape : (r : SchedulerState) (ps : List PartFacts) (c : ℕ) (best : Option Contender) → (chosen r ps c best).shape ≡ r.shape
chosen_shape r ps c None = refl
chosen_shape r ps c (Some b) = refl

pub chosen_rows : (r : SchedulerState) (ps : List PartFacts) (c : ℕ) (best : Option Contender) → (chosen r ps c best).rows ≡ r.rows
chosen_rows r ps c None = refl
chosen_rows r ps c (Some b) = refl

-- what partitions used doesn't depend on what the last entry says of its pick
module _ (shape : Shape) (rows : List PartitionRow) (h : List Entry) (j : ℕ) (e d : Entry) (from : d.from ≡ e.from) (to : d.to ≡ e.to) (billed : d.billed ≡ e.billed) (critical : d.critical ≡ e.critical) where
  billed_same : (tick p a b : ℕ) → billed_by tick p a b d ≡ billed_by tick p a b e
  billed_same tick p a b = ap (λ o. cond (names o p) (overlap tick a b d.from d.to) 0) billed ∙ ap (λ n. cond (names e.billed p) (overlap tick a b n d.to) 0) from ∙ ap (λ n. cond (names e.billed p) (overlap tick a b e.from n) 0) to

  critical_same : (tick p a b : ℕ) → critical_by tick p a b d ≡ critical_by tick p a b e
  critical_same tick p a b =
      ap (λ o. cond (names o p && d.critical) (overlap tick a b d.from d.to) 0) billed ∙ ap (λ c. cond (names e.billed p && c) (overlap tick a b d.from d.to) 0) critical
      ∙ ap (λ n. cond (names e.billed p && e.critical) (overlap tick a b n d.to) 0) from ∙ ap (λ n. cond (names e.billed p && e.critical) (overlap tick a b e.from n) 0) to

  sum_same : (f : Entry → ℕ) → f d ≡ f e → sum_by f (h ++ d ∷ []) ≡ sum_by f (h ++ e ∷ [])
  sum_same f same = omega (arith, sum_by-append f h (d ∷ []), sum_by-append f h (e ∷ []), same)

  part_same : (p : ℕ) → part_facts shape rows (h ++ d ∷ []) j p ≡ part_facts shape rows (h ++ e ∷ []) j p
  part_same p =
      let row = row_or_none rows p in
      let facts : ℕ → ℕ → PartFacts = λ spent critical. record {
        funded = in_budget shape spent row.budget;
        standing = has_standing critical row.critical;
        shut = is_shut shape spent row.max;
        used = spent;
        budget = row.budget;
      } in
      ap (λ n. facts n (window_critical shape (h ++ d ∷ []) j p)) (sum_same (billed_by shape.tick p (j + 1 - shape.window) (j + 1)) (billed_same shape.tick p (j + 1 - shape.window) (j + 1)))
      ∙ ap (facts (window_used shape (h ++ e ∷ []) j p)) (sum_same (critical_by shape.tick p (j + 1 - shape.window) (j + 1)) (critical_same shape.tick p (j + 1 - shape.window) (j + 1)))

  map_same : (xs : List ℕ) → map (part_facts shape rows (h ++ d ∷ []) j) xs ≡ map (part_facts shape rows (h ++ e ∷ []) j) xs
  map_same [] = refl
  map_same (p ∷ ps) = ap (λ k. k ∷ map (part_facts shape rows (h ++ d ∷ []) j) ps) (part_same p) ∙ ap (λ ks. part_facts shape rows (h ++ e ∷ []) j p ∷ ks) (map_same ps)

  pub parts_same : all_parts shape rows (h ++ d ∷ []) j ≡ all_parts shape rows (h ++ e ∷ []) j
  parts_same = map_same (range_with_len 0 (length rows))

-- the pick, over variables
said : (r t : SchedulerState) (ps : List PartFacts) (c x : ℕ) (best : Option Contender) → c < length r.cpus
    → ((b : Contender) → best ≡ Some b → IsReadyBest r b)
    → (cpu_at t c).running ≡ (cpu_at (chosen r ps c best) c).running
    → ((y : ℕ) → facts_of t y ≡ facts_of r y)
    → option_map (λ (b : Contender). b.thread) best ≡ Some x
    → (cpu_at t c).running ≡ Some (record { thread = x; partition = (facts_of t x).partition; critical = is_critical_pick (facts_of t x) (part_at ps (facts_of t x).partition) })
said r t ps c x None below ready running facts e = absurd cc
said r t ps c x (Some b) below ready running facts e =
    let same = (ready b refl).same in
    let number : b.thread ≡ x = some_same b.thread x e in
    let values : b.facts ≡ facts_of t x = ap (λ (k : Contender). k.facts) same ∙ ap (facts_of r) number ∙ sym (facts x) in
    running ∙ chosen_cpu r ps c (Some b) below
    ∙ ap (λ (f : Facts). Some (record { thread = b.thread; partition = f.partition; critical = is_critical_pick f (part_at ps f.partition) })) values
    ∙ ap (λ n. Some (record { thread = n; partition = (facts_of t x).partition; critical = is_critical_pick (facts_of t x) (part_at ps (facts_of t x).partition) })) number
  where
    some_same : (a b : ℕ) → Some a ≡ Some b → a ≡ b
    some_same a b e = cc

-- with the parts of the history that the entry ends
said_at : (r t : SchedulerState) (h : List Entry) (c now : ℕ) (e0 e : Entry) (best : Option Contender) → c < length r.cpus
    → best ≡ greatest r.shape.free (all_parts r.shape r.rows (h ++ e0 ∷ []) (now / r.shape.tick)) (contenders r)
    → e.from ≡ e0.from → e.to ≡ e0.to → e.billed ≡ e0.billed → e.critical ≡ e0.critical → e0.to ≡ now
    → t.shape ≡ r.shape → t.rows ≡ r.rows
    → (cpu_at t c).running ≡ (cpu_at (chosen r (all_parts r.shape r.rows (h ++ e0 ∷ []) (now / r.shape.tick)) c best) c).running
    → ((y : ℕ) → facts_of t y ≡ facts_of r y)
    → e.picked ≡ option_map (λ (b : Contender). b.thread) best
    → (x : ℕ) → e.picked ≡ Some x
    → (cpu_at t c).running ≡ Some (record { thread = x; partition = (facts_of t x).partition; critical = is_critical_pick (facts_of t x) (part_at (all_parts t.shape t.rows (h ++ e ∷ []) (e.to / t.shape.tick)) (facts_of t x).partition) })
said_at r t h c now e0 e best below is from to billed critical now_is shape rows running facts picked x some =
    let ps0 = all_parts r.shape r.rows (h ++ e0 ∷ []) (now / r.shape.tick) in
    let f = facts_of t x in
    let pss : ps0 ≡ all_parts t.shape t.rows (h ++ e ∷ []) (e.to / t.shape.tick) =
    sym (parts_same r.shape r.rows h (now / r.shape.tick) e0 e from to billed critical)
    ∙ ap (λ n. all_parts r.shape r.rows (h ++ e ∷ []) (n / r.shape.tick)) (sym now_is ∙ sym to)
    ∙ ap (λ (z : Shape). all_parts z r.rows (h ++ e ∷ []) (e.to / z.tick)) (sym shape)
    ∙ ap (λ rs. all_parts t.shape rs (h ++ e ∷ []) (e.to / t.shape.tick)) (sym rows) in
    said r t ps0 c x best below (λ b k. greatest_ready r r.shape.free ps0 b (sym is ∙ k)) running facts (sym picked ∙ some)
    ∙ ap (λ ps. Some (record { thread = x; partition = f.partition; critical = is_critical_pick f (part_at ps f.partition) })) pss

none_picked : (c from now : ℕ) (running : Option Pick) (x : ℕ) → (bill_of c from now running).picked ≡ Some x → ⊥
none_picked c from now None x e = cc
none_picked c from now (Some p) x e = cc

pub no_best : (r : SchedulerState) (ps : List PartFacts) (c : ℕ) (best : Option Contender) → c < length r.cpus → option_map (λ (b : Contender). b.thread) best ≡ None → (cpu_at (chosen r ps c best) c).running ≡ None
no_best r ps c None below e = chosen_cpu r ps c None below
no_best r ps c (Some b) below e = absurd cc

pub complete_in : (s r : SchedulerState) (now : ℕ) (o : Option ℕ) → IsSameSizes s.shape r.shape → IsComplete r now o → IsComplete s now o
complete_in s r now o sizes (inl z) = inl (z ∙ horizon_same s.shape r.shape sizes)
complete_in s r now o sizes (inr z) = inr z

pub pick_says : (scenario : Scenario) (s : SchedulerState) (h : List Entry) (c : ℕ) → NamesChannels scenario → IsPlain scenario s → AgreesOnRunning s → c < length s.cpus
    → IsPickSaid s h c (step scenario s h c).entry (step scenario s h c).state (step scenario s h c).reboot
pick_says scenario s h c names plain k below =
    let now = due s h c in
    let running = (cpu_at s c).running in
    let e = bill_at s h c in
    let says = bill_says c (last_end h c) now running in
    let b = test_mid scenario s h c now e running plain k refl in
    let back = back_mid scenario s (tested_at scenario s h c).state c now running names k refl b in
    step_by scenario s h c (λ (out : Step). IsPickSaid s h c out.entry out.state out.reboot)
    (λ o why. record {
      some = λ x f. absurd (none_picked c (last_end h c) now running x f);
      none = λ f. inr (subst (λ n. IsComplete s n o) (sym says.to) (complete_in s (tested_at scenario s h c).state now o b.mid.sizes why));
    })
    (λ early.
    let did = settled scenario (tested_at scenario s h c).state now running in
    let r = did.state in
    let e0 = record e { done = did.done } in
    let ps = all_parts r.shape r.rows (h ++ e0 ∷ []) (now / r.shape.tick) in
    let best = greatest r.shape.free ps (contenders r) in
    let below_r : c < length r.cpus = rw (mid_count scenario s c r back.mid) below in
    let q = chosen r ps c best in
    let other = flag_for q h ps c now (greatest r.shape.free ps (contenders q)) in
    let out = pick r h c now e0 in
    let own : (cpu_at out.state c).running ≡ (cpu_at q c).running = flag_running q now other c in
    record {
      some = said_at r out.state h c now e0 out.entry best below_r refl refl refl refl refl says.to
          (flag_shape q now other ∙ chosen_shape r ps c best) (flag_rows q now other ∙ chosen_rows r ps c best) own
          (λ y. facts_flagged q now other y ∙ facts_picked r ps c best y) refl;
      none = λ f. inl (own ∙ no_best r ps c best below_r f);
    })
