-- One step as a whole.
use Rattle.std.proofs.Common.{◌≡◌, ◌≢◌, ℕ, ◌*◌, ◌/◌, ◌<◌, List, [], ◌∷◌, ◌++◌, length, refl, sym, ◌∙◌, ap, subst, Bool, true, false, nat_eq, Option, Some, None, slice_index_or, inl, inr, length-set}
use Rattle.std.proofs.lemmas.Bool.{cases_eq}
use Rattle.aps_model.specs.declared.state.State.TheVariants.{Running}
use Rattle.aps_model.specs.declared.state.ThreadNow.{ThreadNow}
use Rattle.aps_model.specs.declared.state.CpuNow.{CpuNow}
use Rattle.aps_model.specs.declared.state.Pick.{Pick}
use Rattle.aps_model.specs.declared.shape.Shape.{Shape}
use Rattle.aps_model.specs.declared.merit.PartFacts.{PartFacts}
use Rattle.aps_model.specs.declared.merit.Contender.{Contender}
use Rattle.aps_model.specs.declared.entry.Entry.{Entry}
use Rattle.laws_runs.specs.Waits.{IsPlain}
use Rattle.laws_runs.specs.Bears.{NamesChannels}
use Rattle.std.proofs.lemmas.Bool.{eqb-true}
use Rattle.laws_runs.specs.Untouched.{AgreesOnRunning, IsStepOf, IsComplete, IsAlike, thread_kept, partition_kept, mark_kept}
use Rattle.laws_runs.proofs.WaitFacts.{test_eq}
use Rattle.laws_runs.specs.Sizes.{IsSameSizes}
use Rattle.laws_runs.proofs.ThreadMoves.{alike_state, alike_at}
use Rattle.laws_runs.proofs.Mid.{IsMid, IsBilled, IsBack, test_mid, back_mid}
use Rattle.laws_runs.proofs.Picked.{IsOpen, IsPicked, picked, greatest_ready, flagged_later, flag_running, flag_other, flag_threads, flag_shape, flag_count, flag_plain, flag_kept, flag_flag, cpu_same, cpu_other}
use Rattle.aps_model.specs.Bill.{Tested, bill_of}
use Rattle.aps_model.specs.Budget.{all_parts}
use Rattle.aps_model.specs.Due.{due, due_at, last_end, last_to, left_running}
use Rattle.aps_model.specs.Flag.{flag_for, with_flag}
use Rattle.aps_model.specs.Pick.{contenders, greatest}
use Rattle.aps_model.specs.Scenario.{Scenario}
use Rattle.aps_model.specs.SchedulerState.{SchedulerState, cpu_at, idle, no_thread, thread_at}
use Rattle.aps_model.specs.Shape.{horizon}
use Rattle.aps_model.specs.Step.{Step, begun, billed, chosen, complete, pick, settled, step, tested, unless_rebooted}
use Rattle.aps_model.specs.Usage.{names}

-- ---- the two ways that a step ends

complete_by : (scenario : Scenario) (s : SchedulerState) (h : List Entry) (c now : ℕ) (e : Entry) (running : Option Pick) (P : Step → Type 0)
    → ((o : Option ℕ) → IsComplete s now o → P (record { entry = e; state = s; reboot = o }))
    → (nat_eq now (horizon s.shape) ≡ false → P (pick (settled scenario s now running).state h c now (record e { done = (settled scenario s now running).done })))
    → P (complete scenario s h c now e running)
complete_by scenario s h c now e running P ends goes = by_test (nat_eq now (horizon s.shape)) (λ same. ends None (inl (eqb-true now (horizon s.shape) same))) goes
  where
    by_test : (t : Bool) → (t ≡ true → P (record { entry = e; state = s; reboot = None })) → (t ≡ false → P (pick (settled scenario s now running).state h c now (record e { done = (settled scenario s now running).done })))
        → P (elim t [
          | true ↦ record { entry = e; state = s; reboot = None }
          | false ↦
              let did = settled scenario s now running in
              pick did.state h c now (record e { done = did.done })
        ])
    by_test true f g = f refl
    by_test false f g = g refl

after_by : (scenario : Scenario) (test : Tested) (h : List Entry) (c now : ℕ) (e : Entry) (running : Option Pick) (P : Step → Type 0)
    → ((o : Option ℕ) → IsComplete test.state now o → P (record { entry = e; state = test.state; reboot = o }))
    → (nat_eq now (horizon test.state.shape) ≡ false → P (pick (settled scenario test.state now running).state h c now (record e { done = (settled scenario test.state now running).done })))
    → (o : Option ℕ) → P (unless_rebooted scenario test h c now e running o)
after_by scenario test h c now e running P ends goes None = complete_by scenario test.state h c now e running P ends goes
after_by scenario test h c now e running P ends goes (Some p) = ends (Some p) (inr (λ k. cc))

-- the entry of the bill, and the state after the test of bankruptcy
abbrev pub bill_at : SchedulerState → List Entry → ℕ → Entry
bill_at s h c = bill_of c (last_end h c) (due s h c) (cpu_at s c).running

abbrev pub tested_at : Scenario → SchedulerState → List Entry → ℕ → Tested
tested_at scenario s h c = tested (billed (begun scenario s h c (due s h c)) (bill_at s h c) (cpu_at s c).running) h (bill_at s h c)

-- a step ends after its bill, or with a pick
pub step_by : (scenario : Scenario) (s : SchedulerState) (h : List Entry) (c : ℕ) (P : Step → Type 0)
    → ((o : Option ℕ) → IsComplete (tested_at scenario s h c).state (due s h c) o → P (record { entry = bill_at s h c; state = (tested_at scenario s h c).state; reboot = o }))
    → (nat_eq (due s h c) (horizon (tested_at scenario s h c).state.shape) ≡ false
    → P (pick (settled scenario (tested_at scenario s h c).state (due s h c) (cpu_at s c).running).state h c (due s h c) (record (bill_at s h c) { done = (settled scenario (tested_at scenario s h c).state (due s h c) (cpu_at s c).running).done })))
    → P (step scenario s h c)
step_by scenario s h c P ends goes =
    after_by scenario (tested_at scenario s h c) h c (due s h c) (bill_at s h c) (cpu_at s c).running P ends goes (tested_at scenario s h c).reboot

-- ---- the entry

pub record IsBill (c start now : ℕ) (running : Option Pick) : Type 0 where
  pub cpu : (bill_of c start now running).cpu ≡ c
  pub from : (bill_of c start now running).from ≡ start
  pub to : (bill_of c start now running).to ≡ now
  pub ran : (bill_of c start now running).ran ≡ thread_kept running
  pub billed : (bill_of c start now running).billed ≡ partition_kept running
  pub critical : (bill_of c start now running).critical ≡ mark_kept running

pub bill_says : (c start now : ℕ) (running : Option Pick) → IsBill c start now running
bill_says c start now None = record { cpu = refl; from = refl; to = refl; ran = refl; billed = refl; critical = refl }
bill_says c start now (Some p) = record { cpu = refl; from = refl; to = refl; ran = refl; billed = refl; critical = refl }

-- ---- dues of others

left_same : (s t : SchedulerState) (o : Option Pick) → ((p : Pick) → o ≡ Some p → IsAlike (thread_at s p.thread) (thread_at t p.thread)) → left_running t o ≡ left_running s o
left_same s t None same = refl
left_same s t (Some p) same = (same p refl).left

-- what remains of another processor's operation
pub left_kept : (s t : SchedulerState) (d : ℕ) → (cpu_at t d).running ≡ (cpu_at s d).running → ((p : Pick) → (cpu_at s d).running ≡ Some p → IsAlike (thread_at s p.thread) (thread_at t p.thread))
    → left_running t (cpu_at t d).running ≡ left_running s (cpu_at s d).running
left_kept s t d running same = ap (left_running t) running ∙ left_same s t (cpu_at s d).running same

pub horizon_same : (a b : Shape) → IsSameSizes a b → horizon b ≡ horizon a
horizon_same a b m = ap (λ n. n * b.tick) m.ticks ∙ ap (λ n. a.ticks * n) m.tick

-- the due of a processor, where its sizes and what remains of its operation are the same
pub due_like : (s t : SchedulerState) (h g : List Entry) (d : ℕ) → IsSameSizes s.shape t.shape → last_to g d ≡ last_to h d → left_running t (cpu_at t d).running ≡ left_running s (cpu_at s d).running
    → due t g d ≡ due_at s.shape.tick (horizon s.shape) (cpu_at t d).flag (last_to h d) (left_running s (cpu_at s d).running)
due_like s t h g d sizes last left =
    ap (λ n. due_at n (horizon t.shape) (cpu_at t d).flag (last_to g d) (left_running t (cpu_at t d).running)) sizes.tick
    ∙ ap (λ n. due_at s.shape.tick n (cpu_at t d).flag (last_to g d) (left_running t (cpu_at t d).running)) (horizon_same s.shape t.shape sizes)
    ∙ ap (λ o. due_at s.shape.tick (horizon s.shape) (cpu_at t d).flag o (left_running t (cpu_at t d).running)) last
    ∙ ap (due_at s.shape.tick (horizon s.shape) (cpu_at t d).flag (last_to h d)) left

pub due_same : (s t : SchedulerState) (h : List Entry) (d : ℕ) → IsSameSizes s.shape t.shape → cpu_at t d ≡ cpu_at s d → ((p : Pick) → (cpu_at s d).running ≡ Some p → IsAlike (thread_at s p.thread) (thread_at t p.thread)) → due t h d ≡ due s h d
due_same s t h d sizes cpu same =
    due_like s t h h d sizes refl (left_kept s t d (ap (λ (z : CpuNow). z.running) cpu) same)
    ∙ ap (λ (z : CpuNow). due_at s.shape.tick (horizon s.shape) z.flag (last_to h d) (left_running s (cpu_at s d).running)) cpu

-- ---- the whole

-- a processor's thread runs there, so it is untouched where another one steps
others_thread_of : (scenario : Scenario) (s : SchedulerState) (c : ℕ) (r : SchedulerState) → AgreesOnRunning s → IsMid scenario s c r → (d : ℕ) (p : Pick) → d ≢ c → (cpu_at s d).running ≡ Some p → IsAlike (thread_at s p.thread) (thread_at r p.thread)
others_thread_of scenario s c r k m d p ne e = m.as_before p.thread d ne (k.runs d p e)

pub mid_cpu : (scenario : Scenario) (s : SchedulerState) (c : ℕ) (r : SchedulerState) → IsMid scenario s c r → (d : ℕ) → d ≢ c → cpu_at r d ≡ cpu_at s d
mid_cpu scenario s c r m d ne = ap (λ cs. slice_index_or cs d idle) m.cpus ∙ cpu_other s.cpus c d _ ne

pub mid_own : (scenario : Scenario) (s : SchedulerState) (c : ℕ) (r : SchedulerState) → c < length s.cpus → IsMid scenario s c r → cpu_at r c ≡ record (cpu_at s c) { flag = None }
mid_own scenario s c r below m = ap (λ cs. slice_index_or cs c idle) m.cpus ∙ cpu_same s.cpus c _ below

pub mid_count : (scenario : Scenario) (s : SchedulerState) (c : ℕ) (r : SchedulerState) → IsMid scenario s c r → length r.cpus ≡ length s.cpus
mid_count scenario s c r m = ap (λ (cs : List CpuNow). length cs) m.cpus ∙ length-set s.cpus c _

-- where the step ends after the bill, everybody keeps what it kept
billed_kept : (scenario : Scenario) (s : SchedulerState) (c : ℕ) (r : SchedulerState) → c < length s.cpus → AgreesOnRunning s → IsBilled scenario s c (cpu_at s c).running r → AgreesOnRunning r
billed_kept scenario s c r below k b =
    let own = mid_own scenario s c r below b.mid in
    record {
      runs = λ d p e. elim (cases_eq d c) [
        | inl same ↦
            let at_c : (cpu_at s c).running ≡ Some p = sym (ap (λ (z : CpuNow). z.running) own) ∙ ap (λ n. (cpu_at r n).running) (sym same) ∙ e in
            b.runs p at_c ∙ ap (λ n. Running n) (sym same)
        | inr ne ↦
            let at_d : (cpu_at s d).running ≡ Some p = sym (ap (λ (z : CpuNow). z.running) (mid_cpu scenario s c r b.mid d ne)) ∙ e in
            alike_state (b.mid.as_before p.thread d ne (k.runs d p at_d)) ∙ k.runs d p at_d
      ];
      kept = λ y d e. elim (cases_eq d c) [
        | inl same ↦
            ap (λ n. thread_kept (cpu_at r n).running) same ∙ ap (λ (z : CpuNow). thread_kept z.running) own ∙ b.only y (e ∙ ap (λ n. Running n) same)
        | inr ne ↦ ap (λ (z : CpuNow). thread_kept z.running) (mid_cpu scenario s c r b.mid d ne) ∙ k.kept y d (b.mid.no_more y d ne e)
      ];
    }

back_open : (scenario : Scenario) (s : SchedulerState) (c : ℕ) (r : SchedulerState) → AgreesOnRunning s → IsBack scenario s c r → IsOpen r c
back_open scenario s c r k b = record {
  runs = λ d p ne e.
      let at_d : (cpu_at s d).running ≡ Some p = sym (ap (λ (z : CpuNow). z.running) (mid_cpu scenario s c r b.mid d ne)) ∙ e in
      alike_state (b.mid.as_before p.thread d ne (k.runs d p at_d)) ∙ k.runs d p at_d;
  kept = λ y d ne e. ap (λ (z : CpuNow). thread_kept z.running) (mid_cpu scenario s c r b.mid d ne) ∙ k.kept y d (b.mid.no_more y d ne e);
  off = b.off;
}

-- a step that ends after its bill
ended : (scenario : Scenario) (s r : SchedulerState) (h : List Entry) (c : ℕ) → c < length s.cpus → AgreesOnRunning s → IsBilled scenario s c (cpu_at s c).running r → IsStepOf scenario s h c (bill_at s h c) r
ended scenario s r h c below k b =
    let e = bill_says c (last_end h c) (due s h c) (cpu_at s c).running in
    record {
      cpu = e.cpu;
      from = e.from;
      to = e.to;
      ran = e.ran;
      billed = e.billed;
      critical = e.critical;
      plain = b.mid.plain;
      kept = billed_kept scenario s c r below k b;
      others_running = λ d ne. ap (λ (z : CpuNow). z.running) (mid_cpu scenario s c r b.mid d ne);
      others_flag = λ d ne. inl (ap (λ (z : CpuNow). z.flag) (mid_cpu scenario s c r b.mid d ne));
      others_thread = others_thread_of scenario s c r k b.mid;
      own_flag = ap (λ (z : CpuNow). z.flag) (mid_own scenario s c r below b.mid);
      sizes = b.mid.sizes;
      count = b.mid.count;
      cpu_count = mid_count scenario s c r b.mid;
    }

-- a step with its pick, over variables: r is the state before the pick, q after it, and other is flagged
picks_on : (scenario : Scenario) (s r q : SchedulerState) (h : List Entry) (c : ℕ) (ps : List PartFacts) (left : Option Contender) (other : Option ℕ) (e : Entry) → AgreesOnRunning s → IsBack scenario s c r → IsPicked scenario r c q
    → flag_for q h ps c (due s h c) left ≡ other → due s h c ≢ horizon s.shape
    → e.cpu ≡ c → e.from ≡ last_end h c → e.to ≡ due s h c → e.ran ≡ thread_kept (cpu_at s c).running → e.billed ≡ partition_kept (cpu_at s c).running → e.critical ≡ mark_kept (cpu_at s c).running
    → IsStepOf scenario s h c e (with_flag q (due s h c) other)
picks_on scenario s r q h c ps left other e k b p is early cpu from to ran billed critical =
    let now = due s h c in
    let thread_q : (d : ℕ) (z : Pick) → d ≢ c → (cpu_at s d).running ≡ Some z → IsAlike (thread_at s z.thread) (thread_at q z.thread) = λ d z ne f.
    let mid = others_thread_of scenario s c r k b.mid d z ne f in
    alike_at (p.threads z.thread d (alike_state mid ∙ k.runs d z f)) mid in
    let cpu_q : (d : ℕ) → d ≢ c → cpu_at q d ≡ cpu_at s d = λ d ne. p.cpus d ne ∙ mid_cpu scenario s c r b.mid d ne in
    let sizes : IsSameSizes s.shape q.shape = subst (IsSameSizes s.shape) (sym p.shape) b.mid.sizes in
    record {
      cpu = cpu;
      from = from;
      to = to;
      ran = ran;
      billed = billed;
      critical = critical;
      plain = flag_plain scenario q now other p.plain;
      kept = flag_kept q now other p.kept;
      others_running = λ d ne. flag_running q now other d ∙ ap (λ (z : CpuNow). z.running) (cpu_q d ne);
      others_flag = λ d ne. elim (flag_flag q now other d) [
        | inl same ↦ inl (same ∙ ap (λ (z : CpuNow). z.flag) (cpu_q d ne))
        | inr set ↦
            let later = flagged_later q h ps c now d left (is ∙ set.1) in
            inr (set.0, subst (λ n. now < n) (due_same s q h d sizes (cpu_q d ne) (λ z f. thread_q d z ne f)) later.1, early)
      ];
      others_thread = λ d z ne f. alike_at (ap (λ ts. slice_index_or ts z.thread no_thread) (flag_threads q now other)) (thread_q d z ne f);
      own_flag = ap (λ (z : CpuNow). z.flag) (flag_other q now other c (λ f. (flagged_later q h ps c now c left (is ∙ f)).0 refl)) ∙ p.flag;
      sizes = subst (IsSameSizes s.shape) (sym (flag_shape q now other)) sizes;
      count = ap (λ (ts : List ThreadNow). length ts) (flag_threads q now other) ∙ p.count ∙ b.mid.count;
      cpu_count = flag_count q now other ∙ p.cpu_count ∙ mid_count scenario s c r b.mid;
    }

pub not_horizon : (s r : SchedulerState) (now : ℕ) → IsSameSizes s.shape r.shape → nat_eq now (horizon r.shape) ≡ false → now ≢ horizon s.shape
not_horizon s r now sizes early same = clash (sym (test_eq now (horizon r.shape) (same ∙ sym (horizon_same s.shape r.shape sizes))) ∙ early)
  where
    clash : ◌≡◌ {A = Bool} true false → ⊥
    clash z = cc

pub step_of : (scenario : Scenario) (s : SchedulerState) (h : List Entry) (c : ℕ) → NamesChannels scenario → IsPlain scenario s → AgreesOnRunning s → c < length s.cpus
    → IsStepOf scenario s h c (step scenario s h c).entry (step scenario s h c).state
step_of scenario s h c names plain k below =
    let now = due s h c in
    let running = (cpu_at s c).running in
    let e = bill_at s h c in
    let says = bill_says c (last_end h c) now running in
    let b = test_mid scenario s h c now e running plain k refl in
    let back = back_mid scenario s (tested_at scenario s h c).state c now running names k refl b in
    step_by scenario s h c (λ (out : Step). IsStepOf scenario s h c out.entry out.state)
    (λ o why. ended scenario s (tested_at scenario s h c).state h c below k b)
    (λ early.
    let did = settled scenario (tested_at scenario s h c).state now running in
    let r = did.state in
    let ps = all_parts r.shape r.rows (h ++ (record e { done = did.done }) ∷ []) (now / r.shape.tick) in
    let best = greatest r.shape.free ps (contenders r) in
    let below_r : c < length r.cpus = rw (mid_count scenario s c r back.mid) below in
    picks_on scenario s r (chosen r ps c best) h c ps (greatest r.shape.free ps (contenders (chosen r ps c best))) _ _ k back
    (picked scenario r ps c best below_r back.mid.plain (back_open scenario s c r k back) (greatest_ready r r.shape.free ps)) refl (not_horizon s (tested_at scenario s h c).state now b.mid.sizes early)
    says.cpu says.from says.to says.ran says.billed says.critical)
