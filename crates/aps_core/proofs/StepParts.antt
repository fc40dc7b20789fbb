-- The parts of a step, as the code makes them.
use Rattle.std.proofs.Common.{◌≡◌, ◌≢◌, ℕ, List, sym, subst, ◌∙◌, ap, false, true, Option, Some, None}
use Rattle.std.proofs.lemmas.Bool.{false≢true}
use Rattle.std.specs.Prelude.{is_some}
use Rattle.std.specs.Option.{IfSome, IsSome}
use Rattle.aps_model.specs.declared.entry.Entry.{Entry}
use Rattle.aps_model.specs.declared.state.Pick.{Pick}
use Rattle.aps_model.specs.Bill.{Tested, bill_of}
use Rattle.aps_model.specs.Due.{due, last_end}
use Rattle.aps_model.specs.Messages.{Effect}
use Rattle.aps_model.specs.Scenario.{Scenario}
use Rattle.aps_model.specs.SchedulerState.{SchedulerState, cpu_at, with_cpu}
use Rattle.aps_model.specs.Shape.{horizon}
use Rattle.aps_model.specs.Step.{Step, begun, billed, pick, settled, step, tested, unless_rebooted}
use Rattle.aps_model.specs.TickWork.{tick_work}
use Rattle.laws_runs.proofs.WaitFacts.{test_eq, test_ne}
use Rattle.laws_runs.specs.Between.{after_bill, after_tick, before_pick, bill_in}
use Rattle.aps_core.specs.Room.{CanFinish}

-- what the parts of a step before the operation leave, with the test of bankruptcy
pub record IsTested (scenario : Scenario) (s : SchedulerState) (h : List Entry) (c now : ℕ) (running : Option Pick) (e : Entry) (t : SchedulerState) (reboot : Option ℕ) : Type 0 where
  pub at_due : now ≡ due s h c
  pub ran : running ≡ (cpu_at s c).running
  pub entry : e ≡ bill_of c (last_end h c) now running
  pub test : tested (billed (begun scenario s h c now) e running) h e ≡ record { state = t; reboot = reboot }

-- what the code's parts of a step leave
pub tested_by : (scenario : Scenario) (s : SchedulerState) (h : List Entry) (c now from : ℕ) (running : Option Pick) (s1 s2 : SchedulerState) (e : Entry) (t0 t : SchedulerState) (reboot : Option ℕ)
    → now ≡ due s h c → from ≡ last_end h c → running ≡ (cpu_at s c).running → s1 ≡ with_cpu s c (record (cpu_at s c) { flag = None })
    → s2 ≡ tick_work scenario s1 h now → e ≡ bill_of c from now running → t0 ≡ billed s2 e running → tested t0 h e ≡ record { state = t; reboot = reboot }
    → IsTested scenario s h c now running e t reboot
tested_by scenario s h c now from running s1 s2 e t0 t reboot e1 e2 e3 e4 e5 e6 e7 e8 = record {
  at_due = e1;
  ran = e3;
  entry = e6 ∙ ap (λ z. bill_of c z now running) e2;
  test = sym (ap (λ m. tested m h e) (e7 ∙ ap (λ m. billed m e running) (e5 ∙ ap (λ m. tick_work scenario m h now) e4))) ∙ e8;
}

-- the entry is the bill
is_bill : (scenario : Scenario) (s : SchedulerState) (h : List Entry) (c now : ℕ) (running : Option Pick) (e : Entry) (t : SchedulerState) (reboot : Option ℕ)
    → IsTested scenario s h c now running e t reboot → e ≡ bill_in s h c
is_bill scenario s h c now running e t reboot b = b.entry ∙ (λ i. bill_of c (last_end h c) (b.at_due i) (b.ran i))

step_goes_on : (scenario : Scenario) (s : SchedulerState) (h : List Entry) (c now : ℕ) (running : Option Pick) (e : Entry) (t : SchedulerState) (reboot : Option ℕ)
    → IsTested scenario s h c now running e t reboot → step scenario s h c ≡ unless_rebooted scenario (record { state = t; reboot = reboot }) h c now e running reboot
step_goes_on scenario s h c now running e t reboot b =
    let entry : e ≡ bill_in s h c = is_bill scenario s h c now running e t reboot b in
    let starts : step scenario s h c ≡ unless_rebooted scenario (tested (billed (begun scenario s h c now) e running) h e) h c now e running (tested (billed (begun scenario s h c now) e running) h e).reboot =
    sym (λ i. (λ (test : Tested). unless_rebooted scenario test h c (b.at_due i) (entry i) (b.ran i) test.reboot) (tested (billed (begun scenario s h c (b.at_due i)) (entry i) (b.ran i)) h (entry i))) in
    starts ∙ ap (λ (test : Tested). unless_rebooted scenario test h c now e running test.reboot) b.test

below : Scenario → SchedulerState → List Entry → ℕ → ℕ → Entry → Option Pick → Step
below scenario s h c now e running = pick (settled scenario s now running).state h c now (record e { done = (settled scenario s now running).done })

-- else the operation is settled, and the pick comes
pub step_below : (scenario : Scenario) (s : SchedulerState) (h : List Entry) (c now : ℕ) (running : Option Pick) (e : Entry) (t : SchedulerState) (reboot : Option ℕ) (did : Effect) (out : Step)
    → IsTested scenario s h c now running e t reboot → reboot ≡ None → now ≢ horizon t.shape → settled scenario t now running ≡ did
    → e.to ≡ now → pick did.state h c e.to (record e { done = did.done }) ≡ out → step scenario s h c ≡ out
unfolding below
step_below scenario s h c now running e t reboot did out b goes_on early did_is to picks =
    step_goes_on scenario s h c now running e t reboot b
    ∙ ap (λ r. unless_rebooted scenario (record { state = t; reboot = reboot }) h c now e running r) goes_on
    ∙ ap (λ v. elim v as (λ _. Step) [ true ↦ record { entry = e; state = t; reboot = None } | false ↦ below scenario t h c now e running ]) (test_ne now (horizon t.shape) early)
    ∙ ap (λ (r : Effect). pick r.state h c now (record e { done = r.done })) did_is
    ∙ ap (λ z. pick did.state h c z (record e { done = did.done })) (sym to)
    ∙ picks

-- a reboot ends it
pub step_over : (scenario : Scenario) (s : SchedulerState) (h : List Entry) (c now : ℕ) (running : Option Pick) (e : Entry) (t : SchedulerState) (reboot : Option ℕ)
    → IsTested scenario s h c now running e t reboot → is_some reboot ≡ true → step scenario s h c ≡ record { entry = e; state = t; reboot = reboot }
step_over scenario s h c now running e t None b some = absurd (false≢true some)
step_over scenario s h c now running e t (Some p) b some = step_goes_on scenario s h c now running e t (Some p) b

-- and so does the horizon
pub step_at_horizon : (scenario : Scenario) (s : SchedulerState) (h : List Entry) (c now : ℕ) (running : Option Pick) (e : Entry) (t : SchedulerState) (reboot : Option ℕ)
    → IsTested scenario s h c now running e t reboot → reboot ≡ None → now ≡ horizon t.shape → step scenario s h c ≡ record { entry = e; state = t; reboot = None }
unfolding below
step_at_horizon scenario s h c now running e t reboot b goes_on there =
    step_goes_on scenario s h c now running e t reboot b
    ∙ ap (λ r. unless_rebooted scenario (record { state = t; reboot = reboot }) h c now e running r) goes_on
    ∙ ap (λ v. elim v as (λ _. Step) [ true ↦ record { entry = e; state = t; reboot = None } | false ↦ below scenario t h c now e running ]) (test_eq now (horizon t.shape) there)

-- the state in which the bill is made
pub ticked_by : (scenario : Scenario) (s : SchedulerState) (h : List Entry) (c now : ℕ) (s1 s2 : SchedulerState)
    → now ≡ due s h c → s1 ≡ with_cpu s c (record (cpu_at s c) { flag = None }) → s2 ≡ tick_work scenario s1 h now → s2 ≡ after_tick scenario s h c
ticked_by scenario s h c now s1 s2 e1 e2 e3 =
    e3 ∙ ap (λ m. tick_work scenario m h now) e2 ∙ ap (λ z. begun scenario s h c z) e1

-- the state that the bill leaves
pub billed_by : (scenario : Scenario) (s : SchedulerState) (h : List Entry) (c now : ℕ) (running : Option Pick) (e : Entry) (t : SchedulerState) (reboot : Option ℕ)
    → IsTested scenario s h c now running e t reboot → t ≡ after_bill scenario s h c
billed_by scenario s h c now running e t reboot b =
    let entry : e ≡ bill_in s h c = is_bill scenario s h c now running e t reboot b in
    sym (ap (λ (test : Tested). test.state) b.test)
    ∙ (λ i. (tested (billed (begun scenario s h c (b.at_due i)) (entry i) (b.ran i)) h (entry i)).state)

-- and the one that the operation leaves
pub settled_by : (scenario : Scenario) (s : SchedulerState) (h : List Entry) (c now : ℕ) (running : Option Pick) (e : Entry) (t : SchedulerState) (reboot : Option ℕ) (did : Effect)
    → IsTested scenario s h c now running e t reboot → settled scenario t now running ≡ did → did.state ≡ before_pick scenario s h c
settled_by scenario s h c now running e t reboot did b did_is =
    let there = billed_by scenario s h c now running e t reboot b in
    sym (ap (λ (x : Effect). x.state) did_is) ∙ (λ i. (settled scenario (there i) (b.at_due i) (b.ran i)).state)

-- what holds where the processor keeps a pick
pub where_it_runs : (running kept : Option Pick) (R : Type 0) → running ≡ kept → ((p : Pick) → kept ≡ Some p → R) → IsSome running → R
where_it_runs None kept R same holds some = absurd cc
where_it_runs (Some p) kept R same holds some = holds p (sym same)

-- the thread that ran can end its operation
pub room_after : (scenario : Scenario) (s : SchedulerState) (h : List Entry) (c now : ℕ) (running : Option Pick) (e : Entry) (t : SchedulerState) (reboot : Option ℕ)
    → IsTested scenario s h c now running e t reboot → ((p : Pick) → (cpu_at s c).running ≡ Some p → CanFinish scenario (after_bill scenario s h c) p.thread) → IfSome running (λ (p : Pick). CanFinish scenario t p.thread)
room_after scenario s h c now None e t reboot b room = tt
room_after scenario s h c now (Some p) e t reboot b room =
    subst (λ (u : SchedulerState). CanFinish scenario u p.thread) (sym (billed_by scenario s h c now (Some p) e t reboot b)) (room p (sym b.ran))
