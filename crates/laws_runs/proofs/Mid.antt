-- The state of a step just before its pick: what it has in common with the state before.
use Rattle.std.proofs.Common.{◌≡◌, ◌≢◌, ℕ, ◌-◌, ◌<◌, List, length, refl, sym, ◌∙◌, ap, subst, Option, Some, None, slice_index_or, slice_set, arith, inl, inr}
use Rattle.std.proofs.lemmas.Bool.{cases_eq, cases_lt}
use Rattle.std.proofs.lemmas.List.{set_past}
use Rattle.aps_model.specs.declared.state.State.TheVariants.{Running}
use Rattle.aps_model.specs.declared.state.ThreadNow.{ThreadNow}
use Rattle.aps_model.specs.declared.state.Facts.{Facts}
use Rattle.aps_model.specs.declared.state.Pick.{Pick}
use Rattle.aps_model.specs.declared.shape.Shape.{Shape}
use Rattle.aps_model.specs.declared.shape.Bankruptcy.{Bankruptcy}
use Rattle.aps_model.specs.declared.shape.Bankruptcy.TheVariants.{Basic, Cancel, Reboot}
use Rattle.aps_model.specs.declared.command.CommandRow.{CommandRow}
use Rattle.aps_model.specs.declared.entry.Entry.{Entry}
use Rattle.laws_runs.specs.Sizes.{IsSameSizes}
use Rattle.laws_runs.specs.Waits.{IsPlain, IsPlaced, state_at}
use Rattle.laws_runs.specs.Bears.{Bears, NamesChannels}
use Rattle.laws_runs.specs.Untouched.{AgreesOnRunning, IsAlike, thread_kept}
use Rattle.laws_runs.proofs.ThreadFacts.{set_same, set_other, running_within, go_on_by}
use Rattle.laws_runs.proofs.WaitBears.{state_of}
use Rattle.laws_runs.proofs.Walk.{IsOnOrOff, tick_kept, returned_kept, spent_kept}
use Rattle.laws_runs.proofs.Commands.{command_by, sizes_same}
use Rattle.laws_runs.proofs.ThreadMoves.{IsSpared, ThreadsBear, threads_bear, spared_bears, spared_same, alike_state, alike_trans}
use Rattle.aps_model.specs.After.{after}
use Rattle.aps_model.specs.Bill.{after_test, cancel, spend}
use Rattle.aps_model.specs.Operation.{go_on}
use Rattle.aps_model.specs.Scenario.{Scenario}
use Rattle.aps_model.specs.SchedulerState.{SchedulerState, channel_at, cpu_at, no_thread, thread_at, with_cpu, with_own}
use Rattle.aps_model.specs.Step.{begun, billed, settled, tested}
use Rattle.aps_model.specs.TickWork.{do_command, tick_work}
use Rattle.aps_model.specs.Usage.{names}

pub sizes_trans : {a b c : Shape} → IsSameSizes a b → IsSameSizes b c → IsSameSizes a c
sizes_trans m n = record { cpus = n.cpus ∙ m.cpus; tick = n.tick ∙ m.tick; ticks = n.ticks ∙ m.ticks; call_ns = n.call_ns ∙ m.call_ns; parts = n.parts ∙ m.parts }

-- what no move changes
pub record IsFramed (s t : SchedulerState) : Type 0 where
  pub cpus : t.cpus ≡ s.cpus
  pub sizes : IsSameSizes s.shape t.shape

framed_go_on : (scenario : Scenario) (s t : SchedulerState) (y now : ℕ) → IsFramed s t → IsFramed s (go_on scenario t y now)
framed_go_on scenario s t y now f =
    go_on_by scenario t y now (IsFramed s)
    (λ u e o. record { cpus = f.cpus; sizes = f.sizes })
    (λ u n e o st l. record { cpus = f.cpus; sizes = f.sizes })

-- a frame beside a property that bears each move
pub framed_bears : (scenario : Scenario) (now c x : ℕ) (s : SchedulerState) (M : SchedulerState → Type 0) → Bears scenario now c x M → Bears scenario now c x (λ t. M t × IsFramed s t)
framed_bears scenario now c x s M b = record {
  waiting = λ t m. b.waiting t m.0;
  woken = λ t y u m e. (b.woken t y u m.0 e, framed_go_on scenario s t y now m.1);
  put = λ t u m run loose st. (b.put t u m.0 run loose st, record { cpus = m.1.cpus; sizes = m.1.sizes });
  stamped = λ t u m run up. (b.stamped t u m.0 run up, record { cpus = m.1.cpus; sizes = m.1.sizes });
  send_waits = λ t d named m run e. (b.send_waits t d named m.0 run e, record { cpus = m.1.cpus; sizes = m.1.sizes });
  send_meets = λ t d r rest named m run e. (b.send_meets t d r rest named m.0 run e, framed_go_on scenario s _ r now (record { cpus = m.1.cpus; sizes = m.1.sizes }));
  receive_waits = λ t d named m run free e. (b.receive_waits t d named m.0 run free e, record { cpus = m.1.cpus; sizes = m.1.sizes });
  receive_takes = λ t d msg named m run free e. (b.receive_takes t d msg named m.0 run free e, record { cpus = m.1.cpus; sizes = m.1.sizes });
  replies = λ t y m run e. (b.replies t y m.0 run e, framed_go_on scenario s _ y now (record { cpus = m.1.cpus; sizes = m.1.sizes }));
  leaves = λ t m run free. (b.leaves t m.0 run free, record { cpus = m.1.cpus; sizes = m.1.sizes });
}

-- ---- an own value alone

-- where another own value of one of the threads keeps a property, that of any number does
pub own_kept : (ts : List ThreadNow) (x : ℕ) (own : Facts) (N : List ThreadNow → Type 0) → N ts → (x < length ts → N (slice_set ts x (record (slice_index_or ts x no_thread) { own = own })))
    → N (slice_set ts x (record (slice_index_or ts x no_thread) { own = own }))
own_kept ts x own N n inside = elim (cases_lt x (length ts)) [
  | inl below ↦ inside below
  | inr past ↦ subst N (sym (set_past ts x _ past)) n
]

state_own : (ts : List ThreadNow) (x y : ℕ) (own : Facts) → state_of (slice_set ts x (record (slice_index_or ts x no_thread) { own = own })) y ≡ state_of ts y
state_own ts x y own =
    own_kept ts x own (λ us. state_of us y ≡ state_of ts y) refl (λ below.
    elim (cases_eq y x) [
      | inl e ↦ ap (state_of (slice_set ts x (record (slice_index_or ts x no_thread) { own = own }))) e ∙ ap (λ (z : ThreadNow). z.state) (set_same ts x _ below) ∙ ap (state_of ts) (sym e)
      | inr ne ↦ ap (λ (z : ThreadNow). z.state) (set_other ts x y _ ne)
    ])

pub plain_own : (scenario : Scenario) (s : SchedulerState) (x : ℕ) (own : Facts) → IsPlain scenario s → IsPlain scenario (with_own s x own)
plain_own scenario s x own p = record {
  waiting = record { at = λ y. subst (λ st. IsPlaced st (channel_at s) s.triples y) (sym (state_own s.threads x y own)) (p.waiting.at y); made = p.waiting.made; either = p.waiting.either };
  channels = p.channels;
}

-- a command keeps a property of threads and stamps that bears another own value, where threads stand, and the frame
pub command_kept : (scenario : Scenario) (c x : ℕ) (s0 : SchedulerState) (N : List ThreadNow → ℕ → Type 0) → ThreadsBear c x N → (h : List Entry) (j : ℕ) (s : SchedulerState) (k : ℕ × CommandRow)
    → (IsPlain scenario s × N s.threads s.stamps) × IsFramed s0 s → (IsPlain scenario (do_command h j s k) × N (do_command h j s k).threads (do_command h j s k).stamps) × IsFramed s0 (do_command h j s k)
command_kept scenario c x s0 N b h j s k m =
    command_by h j s k (λ t. (IsPlain scenario t × N t.threads t.stamps) × IsFramed s0 t) (λ t. (IsPlain scenario t × N t.threads t.stamps) × (t.cpus ≡ s0.cpus))
    (λ mid rows shape replies changes q sizes. ((record { waiting = q.0.0.waiting; channels = q.0.0.channels }, q.0.1), record { cpus = q.1; sizes = sizes_trans m.1.sizes sizes }))
    (m.0, m.1.cpus)
    (λ y own. ((plain_own scenario s y own m.0.0, own_kept s.threads y own (λ ts. N ts s.stamps) m.0.1 (λ below. b.owned s.threads s.stamps y own m.0.1 below)), m.1.cpus))

-- threads beside x are spared, with the frame
abbrev pub IsCalm : Scenario → ℕ → SchedulerState → SchedulerState → Type 0
IsCalm scenario x s t = (IsPlain scenario t × IsSpared x s.threads t.threads) × IsFramed s t

calm_bears : (scenario : Scenario) (now c x : ℕ) (s : SchedulerState) → Bears scenario now c x (IsCalm scenario x s)
calm_bears scenario now c x s =
    framed_bears scenario now c x s (λ t. IsPlain scenario t × IsSpared x s.threads t.threads)
    (threads_bear scenario now c x (λ ts n. IsSpared x s.threads ts) (spared_bears c x s.threads))

calm_same : (scenario : Scenario) (x : ℕ) (s : SchedulerState) → IsPlain scenario s → IsCalm scenario x s s
calm_same scenario x s p = ((p, spared_same x s.threads), record { cpus = refl; sizes = sizes_same s.shape })

-- the test of bankruptcy changes rows and changes alone
pub tested_by : (policy : Bankruptcy) (s : SchedulerState) (j : ℕ) (o : Option ℕ) (P : SchedulerState → Type 0) → P s → ((p : ℕ) → P (cancel s j p)) → P (after_test policy s j o).state
tested_by policy s j None P same cancels = same
tested_by Basic s j (Some p) P same cancels = same
tested_by Cancel s j (Some p) P same cancels = cancels p
tested_by Reboot s j (Some p) P same cancels = same

-- the state before the pick, or after a complete entry
pub record IsMid (scenario : Scenario) (s : SchedulerState) (c : ℕ) (r : SchedulerState) : Type 0 where
  pub plain : IsPlain scenario r
  pub cpus : r.cpus ≡ slice_set s.cpus c (record (cpu_at s c) { flag = None })
  pub sizes : IsSameSizes s.shape r.shape
  pub count : length r.threads ≡ length s.threads
  pub as_before : (y d : ℕ) → d ≢ c → state_at s y ≡ Running d → IsAlike (thread_at s y) (thread_at r y)
  pub no_more : (y d : ℕ) → d ≢ c → state_at r y ≡ Running d → state_at s y ≡ Running d

-- the work of the tick spares whoever runs
pub record IsTicked (scenario : Scenario) (s t : SchedulerState) : Type 0 where
  pub plain : IsPlain scenario t
  pub framed : IsFramed s t
  pub count : length t.threads ≡ length s.threads
  pub as_before : (y d : ℕ) → state_at s y ≡ Running d → IsAlike (thread_at s y) (thread_at t y)
  pub no_more : (y d : ℕ) → state_at t y ≡ Running d → state_at s y ≡ Running d

pub ticked : (scenario : Scenario) (s : SchedulerState) (h : List Entry) (now : ℕ) → IsPlain scenario s → IsTicked scenario s (tick_work scenario s h now)
ticked scenario s h now p =
    let x = length s.threads in
    let b = calm_bears scenario now 0 x s in
    let m = tick_kept scenario now (IsCalm scenario x s) (λ t y u. b.woken t y u) (λ g j t k. command_kept scenario 0 x s (λ ts n. IsSpared x s.threads ts) (spared_bears 0 x s.threads) g j t k) s h (calm_same scenario x s p) in
    record {
      plain = m.0.0;
      framed = m.1;
      count = m.0.1.count;
      as_before = λ y d e. m.0.1.as_before y d (λ k. absurd (below y d k e)) e;
      no_more = λ y d e. m.0.1.no_more y d (λ k. absurd (below' y d k e m.0.1.count)) e;
    }
  where
    below : (y d : ℕ) → y ≡ length s.threads → state_at s y ≡ Running d → ⊥
    below y d k e = let l : y < length s.threads = running_within s y d e in omega arith

    below' : (y d : ℕ) → y ≡ length s.threads → state_at (tick_work scenario s h now) y ≡ Running d → length (tick_work scenario s h now).threads ≡ length s.threads → ⊥
    below' y d k e n = let l : y < length (tick_work scenario s h now).threads = running_within (tick_work scenario s h now) y d e in omega (arith, n, k, l)

abbrev pub unflagged : SchedulerState → ℕ → SchedulerState
unflagged s c = with_cpu s c (record (cpu_at s c) { flag = None })

same_cpu : (d c : ℕ) → Running d ≡ Running c → d ≡ c
same_cpu d c e = cc

-- x ran on c alone
only_x : (s : SchedulerState) (c : ℕ) (p : Pick) → AgreesOnRunning s → (cpu_at s c).running ≡ Some p → (y : ℕ) → state_at s y ≡ Running c → y ≡ p.thread
only_x s c p k e y run = some_same y p.thread (sym (k.kept y c run) ∙ ap thread_kept e)
  where
    some_same : (a b : ℕ) → Some a ≡ Some b → a ≡ b
    some_same a b e = cc

-- from the state after the tick's work, what spares all beside x leaves
mid_from : (scenario : Scenario) (s : SchedulerState) (c x : ℕ) (t r : SchedulerState) → IsTicked scenario (unflagged s c) t → state_at s x ≡ Running c → IsOnOrOff c (state_at r x) → IsCalm scenario x t r → IsMid scenario s c r
mid_from scenario s c x t r k run after m = record {
  plain = m.0.0;
  cpus = m.1.cpus ∙ k.framed.cpus;
  sizes = sizes_trans k.framed.sizes m.1.sizes;
  count = m.0.1.count ∙ k.count;
  as_before = λ y d ne e.
      let here : IsAlike (thread_at s y) (thread_at t y) = k.as_before y d e in
      alike_trans here (m.0.1.as_before y d (λ same. ne (same_cpu d c (sym e ∙ ap (state_at s) same ∙ run))) (alike_state here ∙ e));
  no_more = λ y d ne e. elim (cases_eq y x) [
    | inl same ↦ absurd (elsewhere d ne (ap (state_at r) (sym same) ∙ e) after)
    | inr nx ↦ k.no_more y d (m.0.1.no_more y d nx e)
  ];
}
  where
    elsewhere : (d : ℕ) → d ≢ c → state_at r x ≡ Running d → IsOnOrOff c (state_at r x) → ⊥
    elsewhere d ne e (inl on) = ne (same_cpu d c (sym e ∙ on))
    elsewhere d ne e (inr off) = off d e

mid_idle : (scenario : Scenario) (s : SchedulerState) (c : ℕ) (t : SchedulerState) → IsTicked scenario (unflagged s c) t → IsMid scenario s c t
mid_idle scenario s c t k = record {
  plain = k.plain;
  cpus = k.framed.cpus;
  sizes = k.framed.sizes;
  count = k.count;
  as_before = λ y d ne e. k.as_before y d e;
  no_more = λ y d ne e. k.no_more y d e;
}

-- after the bill: c's thread still runs there, and nobody else does
pub record IsBilled (scenario : Scenario) (s : SchedulerState) (c : ℕ) (running : Option Pick) (r : SchedulerState) : Type 0 where
  pub mid : IsMid scenario s c r
  pub only : (y : ℕ) → state_at r y ≡ Running c → thread_kept running ≡ Some y
  pub runs : (p : Pick) → running ≡ Some p → state_at r p.thread ≡ Running c
  -- all beside c's thread is spared since the tick's work
  pub calm : (p : Pick) → running ≡ Some p → (t : SchedulerState) × IsTicked scenario (unflagged s c) t × IsCalm scenario p.thread t r

pub billed_mid : (scenario : Scenario) (s : SchedulerState) (h : List Entry) (c now ns : ℕ) (running : Option Pick) → IsPlain scenario s → AgreesOnRunning s → (cpu_at s c).running ≡ running
    → IsBilled scenario s c running (spend (begun scenario s h c now) ns running)
billed_mid scenario s h c now ns None p k e =
    let m = ticked scenario (unflagged s c) h now (record { waiting = p.waiting; channels = p.channels }) in
    record {
      mid = mid_idle scenario s c _ m;
      runs = λ q f. absurd cc;
      only = λ y f. sym (ap thread_kept e) ∙ k.kept y c (m.no_more y c f);
      calm = λ q f. absurd (none q f);
    }
  where
    none : (q : Pick) → None ≡ Some q → ⊥
    none q f = cc
billed_mid scenario s h c now ns (Some p) plain k e =
    let m = ticked scenario (unflagged s c) h now (record { waiting = plain.waiting; channels = plain.channels }) in
    let t = tick_work scenario (unflagged s c) h now in
    let run : state_at s p.thread ≡ Running c = k.runs c p e in
    let run_t : state_at t p.thread ≡ Running c = alike_state (m.as_before p.thread c run) ∙ run in
    let done = spent_kept scenario now c p (IsCalm scenario p.thread t) (calm_bears scenario now c p.thread t) t ns (calm_same scenario p.thread t m.plain) run_t in
    record {
      mid = mid_from scenario s c p.thread t (spend t ns (Some p)) m run (inl done.1) done.0;
      runs = λ q f. subst (λ (z : Pick). state_at (spend t ns (Some p)) z.thread ≡ Running c) (some_same p q f) done.1;
      only = λ y f. elim (cases_eq y p.thread) [
        | inl same ↦ ap (λ z. Some z) (sym same)
        | inr ne ↦ sym (ap thread_kept e) ∙ k.kept y c (m.no_more y c (done.0.0.1.no_more y c ne f))
      ];
      calm = λ q f. (t, m, subst (λ (z : Pick). IsCalm scenario z.thread t (spend t ns (Some p))) (some_same p q f) done.0);
    }
  where
    some_same : (a b : Pick) → Some a ≡ Some b → a ≡ b
    some_same a b e = cc

-- the same after the test
tested_mid : (scenario : Scenario) (s : SchedulerState) (c : ℕ) (running : Option Pick) (r : SchedulerState) (policy : Bankruptcy) (j : ℕ) (o : Option ℕ) → IsBilled scenario s c running r → IsBilled scenario s c running (after_test policy r j o).state
tested_mid scenario s c running r policy j o b =
    tested_by policy r j o (IsBilled scenario s c running) b (λ p. record {
      mid = record {
        plain = record { waiting = b.mid.plain.waiting; channels = b.mid.plain.channels };
        cpus = b.mid.cpus;
        sizes = b.mid.sizes;
        count = b.mid.count;
        as_before = b.mid.as_before;
        no_more = b.mid.no_more;
      };
      only = b.only;
      runs = b.runs;
      calm = λ q f.
          let m = b.calm q f in
          (m.0, m.1, ((record { waiting = m.2.0.0.waiting; channels = m.2.0.0.channels }, m.2.0.1), record { cpus = m.2.1.cpus; sizes = m.2.1.sizes }));
    })

pub test_mid : (scenario : Scenario) (s : SchedulerState) (h : List Entry) (c now : ℕ) (e : Entry) (running : Option Pick) → IsPlain scenario s → AgreesOnRunning s → (cpu_at s c).running ≡ running
    → IsBilled scenario s c running (tested (billed (begun scenario s h c now) e running) h e).state
test_mid scenario s h c now e running p k is =
    tested_mid scenario s c running (billed (begun scenario s h c now) e running) _ _ _ (billed_mid scenario s h c now (e.to - e.from) running p k is)

-- after the way back: nobody runs on c
pub record IsBack (scenario : Scenario) (s : SchedulerState) (c : ℕ) (r : SchedulerState) : Type 0 where
  pub mid : IsMid scenario s c r
  pub off : (y : ℕ) → state_at r y ≡ Running c → ⊥

pub back_mid : (scenario : Scenario) (s r : SchedulerState) (c now : ℕ) (running : Option Pick) → NamesChannels scenario → AgreesOnRunning s → (cpu_at s c).running ≡ running
    → IsBilled scenario s c running r → IsBack scenario s c (settled scenario r now running).state
back_mid scenario s r c now None names k e b = record { mid = b.mid; off = λ y f. nobody y (b.only y f) }
  where
    nobody : (y : ℕ) → None ≡ Some y → ⊥
    nobody y e = cc
back_mid scenario s r c now (Some p) names k e b =
    let m = b.calm p refl in
    let run : state_at s p.thread ≡ Running c = k.runs c p e in
    let back = returned_kept scenario now c p (IsCalm scenario p.thread m.0) (calm_bears scenario now c p.thread m.0) names r m.2 (b.runs p refl) in
    record {
      mid = mid_from scenario s c p.thread m.0 (settled scenario r now (Some p)).state m.1 run (inr back.1) back.0;
      off = λ y f. elim (cases_eq y p.thread) [
        | inl same ↦ absurd (back.1 c (ap (state_at (settled scenario r now (Some p)).state) (sym same) ∙ f))
        | inr ne ↦ absurd (ne (only_x s c p k e y (m.1.no_more y c (back.0.0.1.no_more y c ne f))))
      ];
    }
