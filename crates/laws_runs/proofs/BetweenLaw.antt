-- What holds in the states that a step goes through.
use Rattle.std.proofs.Common.{◌≡◌, ◌≢◌, ℕ, ◌+◌, ◌-◌, ◌<◌, ◌≤◌, List, length, refl, sym, ◌∙◌, ap, subst, Option, Some, None, arith, inl, inr, length-set}
use Rattle.std.specs.Prelude.{unwrap_or}
use Rattle.std.proofs.lemmas.Bool.{cases_eq}
use Rattle.aps_model.specs.declared.entry.Entry.{Entry}
use Rattle.aps_model.specs.declared.entry.Order.{Order}
use Rattle.aps_model.specs.declared.partition.PartitionRow.{PartitionRow}
use Rattle.aps_model.specs.declared.state.CpuNow.{CpuNow}
use Rattle.aps_model.specs.declared.state.Pick.{Pick}
use Rattle.aps_model.specs.declared.state.State.TheVariants.{Running}
use Rattle.aps_model.specs.declared.state.ThreadNow.{ThreadNow}
use Rattle.aps_model.specs.Limits.{greatest_priority}
use Rattle.laws_runs.specs.Between.{IsBetween, IsWellFormed, after_bill, after_tick, before_pick}
use Rattle.laws_runs.specs.Moments.{IsGrounded}
use Rattle.laws_runs.specs.Sizes.{IsSameSizes}
use Rattle.laws_runs.specs.Sound.{IsSound}
use Rattle.laws_runs.specs.Stamps.{IsStamped}
use Rattle.laws_runs.specs.ThreadFits.{Each, IsThreadFit}
use Rattle.laws_runs.specs.Waits.{IsPlain, state_at}
use Rattle.laws_runs.proofs.EachStep.{IsTestedEach, back_each, tested_each}
use Rattle.laws_runs.proofs.IdsLaw.{all_fit}
use Rattle.laws_runs.proofs.Inherits.{all_more, facts_fit}
use Rattle.laws_runs.proofs.ListsFit.{AreListsFit, begun_lists, lists_same, settled_lists, tested_lists}
use Rattle.laws_runs.proofs.Mid.{back_mid, sizes_trans, test_mid, tested_by, ticked, unflagged}
use Rattle.laws_runs.proofs.MomentLaws.{first_is_due}
use Rattle.laws_runs.proofs.Ranges.{pairs_within}
use Rattle.laws_runs.proofs.RowsGrow.{settled_rows, tested_rows}
use Rattle.laws_runs.proofs.StampCounts.{settled_stamps, tested_stamps, ticked_stamps}
use Rattle.laws_runs.proofs.StepOf.{bill_at, horizon_same, mid_count}
use Rattle.laws_runs.proofs.ThreadFacts.{running_within}
use Rattle.laws_runs.proofs.ThreadFit.{IsBeforeBill, IsInStep, IsSpent, prepared}
use Rattle.laws_runs.proofs.ThreadLaws.{back_both, stamps_borne, stamps_law, ticked_both}
use Rattle.laws_runs.proofs.ThreadMoves.{alike_state}
use Rattle.aps_model.specs.After.{after, over, state_after}
use Rattle.aps_model.specs.Bill.{spend}
use Rattle.aps_model.specs.Due.{HasTurn, due, last_end, last_to, left_running}
use Rattle.aps_model.specs.Legal.{IsLegal}
use Rattle.aps_model.specs.Program.{IsPriority}
use Rattle.aps_model.specs.Scenario.{Scenario}
use Rattle.aps_model.specs.SchedulerState.{Message, SchedulerState, Triple, channel_at, cpu_at, thread_at}
use Rattle.aps_model.specs.Step.{billed, tested}
use Rattle.aps_model.specs.Shape.{horizon}
use Rattle.aps_model.specs.Valid.{IsScenario}

-- ---- stamps

stamped_spent : (s : SchedulerState) (c ns : ℕ) (running : Option Pick) → ((p : Pick) → running ≡ Some p → state_at s p.thread ≡ Running c) → IsStamped s.threads s.stamps → IsStamped (spend s ns running).threads (spend s ns running).stamps
stamped_spent s c ns None runs m = m
stamped_spent s c ns (Some p) runs m =
    let run = runs p refl in
    (stamps_borne.moves c p.thread).quiet s.threads s.stamps p.thread _ m (running_within s p.thread c run) (inl (refl, run, inl run)) refl

-- ---- each of the states

well : (scenario : Scenario) (now : ℕ) (s : SchedulerState) → IsPlain scenario s → length s.threads ≡ length scenario.threads → length s.cpus ≡ scenario.shape.cpus → IsSameSizes scenario.shape s.shape
    → Each (IsThreadFit scenario (length s.rows)) s.threads → Each (λ x t. t.since ≤ now) s.threads → IsStamped s.threads s.stamps → AreListsFit (length scenario.channels) s.channels s.triples → IsWellFormed scenario now s
well scenario now s plain threads cpus sizes fit since stamped lists = record {
  waiting = plain.waiting;
  threads = threads;
  cpus = cpus;
  channels = plain.channels;
  sizes = sizes;
  fit = fit;
  since = since;
  stamped = stamped;
  messages = lists.messages;
  inherited = λ x below.
      facts_fit s (length s.rows) x (λ y l. let f = fit y l in record { partition = f.partition; priority = f.priority })
      (λ d. all_more (λ (k : Message). IsPriority k.priority) (λ (k : Message). k.priority ≤ greatest_priority) (channel_at s d).messages (λ k f. f.few) (lists.messages d))
      (all_more (λ (t : Triple). (t.server < length s.threads) × (t.client < length s.threads)) (λ (t : Triple). t.client < length s.threads) s.triples (λ t f. f.1) (pairs_within s plain.waiting)) below;
}

-- fit, and not run too long
abbrev FitsSince : Scenario → ℕ → ℕ → ℕ → ThreadNow → Type 0
FitsSince scenario now rows y t = IsThreadFit scenario rows y t × (t.since ≤ now)

tested_fits : (scenario : Scenario) (h : List Entry) (now c rows : ℕ) (running : Option Pick) (s : SchedulerState) → IsTestedEach scenario c rows running (IsInStep scenario h now c rows) (IsSpent scenario now rows) s → Each (FitsSince scenario now rows) s.threads
tested_fits scenario h now c rows None s m y below = let f = m.idle refl y below in (f.fit, f.since)
tested_fits scenario h now c rows (Some p) s m y below =
    let r = m.ready p refl in
    elim (cases_eq y p.thread) [
      | inl same ↦ subst (λ k. FitsSince scenario now rows k (thread_at s k)) (sym same) (r.own.fit, r.own.since)
      | inr ne ↦ let f = r.others y below ne in (f.fit, f.since)
    ]

pub between : (scenario : Scenario) (order : Order) (h : List Entry) (c : ℕ) → IsScenario scenario → IsLegal scenario order h → over (after scenario h) h ≡ None → HasTurn order (state_after scenario h) h c → IsBetween scenario (state_after scenario h) h c
between scenario order h c r legal running turn =
    let m = all_fit scenario order h r legal in
    let s = state_after scenario h in
    let g = m.sound.grounded in
    let now = due s h c in
    let run = (cpu_at s c).running in
    let channels = length scenario.channels in
    let s1 = after_tick scenario s h c in
    let s3 = after_bill scenario s h c in
    let r' = before_pick scenario s h c in
    let rows = length s1.rows in
    let p = prepared scenario order (after scenario h) h c rows r m.sound running turn m.fit (omega arith) in
    let st = p.standing in
    let tick = ticked scenario (unflagged s c) h now (record { waiting = g.plain.waiting; channels = g.plain.channels }) in
    let mid = test_mid scenario s h c now (bill_at s h c) run g.plain g.kept refl in
    let back = back_mid scenario s s3 c now run st.names g.kept refl mid in
    let tested = tested_each scenario s h c rows (IsBeforeBill scenario h now c rows) (IsInStep scenario h now c rows) (IsSpent scenario now rows) p.bears st p.few p.begun' in
    let settled' = back_each scenario s h c rows (IsBeforeBill scenario h now c rows) (IsInStep scenario h now c rows) (IsSpent scenario now rows) p.bears st tested in
    let fits3 = tested_fits scenario h now c rows run s3 tested in
    let rows3 : length s3.rows ≡ rows = tested_rows scenario s h c in
    let rows' : length r'.rows ≡ rows = ap (λ (l : List PartitionRow). length l) (settled_rows scenario s3 c now run st.names mid.mid.plain mid.runs) ∙ rows3 in
    let runs1 : (q : Pick) → run ≡ Some q → state_at s1 q.thread ≡ Running c = λ q e. alike_state (tick.as_before q.thread c (g.kept.runs c q e)) ∙ g.kept.runs c q e in
    let stamped0 = stamps_law scenario order r h legal in
    let stamped1 = (ticked_both scenario IsStamped stamps_borne s h c now (g.plain, stamped0)).1 in
    let stamped2 = stamped_spent s1 c ((bill_at s h c).to - (bill_at s h c).from) run runs1 stamped1 in
    let stamped3 = tested_stamped s1 (bill_at s h c) h run stamped2 in
    let lists1 = lists_same channels s s1 (begun_lists scenario s h c now) m.lists in
    let lists3 = lists_same channels s s3 (tested_lists scenario s h c) m.lists in
    let well1 : IsWellFormed scenario now s1 = well scenario now s1 tick.plain (tick.count ∙ m.count) (ap (λ (l : List CpuNow). length l) tick.framed.cpus ∙ length-set s.cpus c _ ∙ g.cpu_count ∙ g.sizes.cpus) (sizes_trans g.sizes tick.framed.sizes)
    (λ y below. (p.begun' y below).in_step.fit) (λ y below. (p.begun' y below).in_step.since) stamped1 lists1 in
    let well3 : IsWellFormed scenario now s3 = well scenario now s3 mid.mid.plain (mid.mid.count ∙ m.count) (mid_count scenario s c s3 mid.mid ∙ g.cpu_count ∙ g.sizes.cpus) (sizes_trans g.sizes mid.mid.sizes)
    (λ y below. subst (λ n. IsThreadFit scenario n y (thread_at s3 y)) (sym rows3) (fits3 y below).0) (λ y below. (fits3 y below).1) stamped3 lists3 in
    let stamped' = (back_both scenario IsStamped stamps_borne s3 c now run st.names ((mid.mid.plain, stamped3), mid.runs)).1 in
    let lists' = settled_lists scenario st.names s3 now run (λ q e. (well3.inherited q.thread (running_within s3 q.thread c (mid.runs q e))).priority) lists3 in
    record {
      ticked = well1;
      billed' = well3;
      settled' = well scenario now r' back.mid.plain (back.mid.count ∙ m.count) (mid_count scenario s c r' back.mid ∙ g.cpu_count ∙ g.sizes.cpus) (sizes_trans g.sizes back.mid.sizes)
          (λ y below. subst (λ n. IsThreadFit scenario n y (thread_at r' y)) (sym rows') (settled' y below).fit) (λ y below. (settled' y below).since) stamped' lists';
      runs_ticked = runs1;
      runs_billed = mid.runs;
      exact = λ q n e left. by_last s h c q n (last_to h c) refl m.sound g p.stepped.moving.early e (sym (tick.as_before q.thread c (g.kept.runs c q e)).left ∙ left);
      vacant = λ x k. back.off x k;
      ready = λ y below. (settled' y below).ready;
      stamps_ticked = ticked_stamps scenario (unflagged s c) h now;
      stamps_billed = tested_stamps scenario s h c;
      stamps_settled = let a = tested_stamps scenario s h c in let b = settled_stamps scenario s3 now run in omega (arith, a, b);
    }
  where
    tested_stamped : (s1 : SchedulerState) (e : Entry) (h : List Entry) (running : Option Pick) → IsStamped (billed s1 e running).threads (billed s1 e running).stamps → IsStamped (tested (billed s1 e running) h e).state.threads (tested (billed s1 e running) h e).state.stamps
    tested_stamped s1 e h running m = tested_by (billed s1 e running).shape.bankruptcy (billed s1 e running) _ _ (λ t. IsStamped t.threads t.stamps) m (λ p. m)

    by_last : (s : SchedulerState) (h : List Entry) (c : ℕ) (q : Pick) (n : ℕ) (last : Option ℕ) → last_to h c ≡ last → IsSound scenario s h → IsGrounded scenario s → last_to h c ≢ Some (horizon scenario.shape) → (cpu_at s c).running ≡ Some q
        → (thread_at s q.thread).left ≡ Some n → due s h c ≤ last_end h c + n
    by_last s h c q n None is m g early e left = omega (arith, first_is_due s h c is)
    by_last s h c q n (Some z) is m g early e left =
        let bound = m.timely.exact c z n is (ap (left_running s) e ∙ left) (λ k. early (is ∙ ap (λ i. Some i) (k ∙ horizon_same scenario.shape s.shape g.sizes))) in
        omega (arith, bound, ap (λ o. unwrap_or o 0) is)
