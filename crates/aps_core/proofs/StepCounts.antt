-- The window through the parts of a step.
use Rattle.std.proofs.Common.{◌≡◌, ℕ, ◌+◌, ◌-◌, ◌/◌, ◌≤◌, ◌++◌, List, [], ◌∷◌, refl, sym, ◌∙◌, ap, subst, arith, Option, Some, None}
use Rattle.aps_model.specs.declared.entry.Done.{Done}
use Rattle.aps_model.specs.declared.entry.Entry.{Entry}
use Rattle.aps_model.specs.declared.shape.Bankruptcy.{Bankruptcy}
use Rattle.aps_model.specs.declared.shape.Bankruptcy.TheVariants.{Basic, Cancel, Reboot}
use Rattle.aps_model.specs.declared.shape.Shape.{Shape}
use Rattle.aps_model.specs.declared.state.Pick.{Pick}
use Rattle.aps_model.specs.Bill.{Tested, after_test, bankrupt, bill_of}
use Rattle.aps_model.specs.Due.{due, last_end, next_boundary}
use Rattle.aps_model.specs.History.{IsEntry}
use Rattle.aps_model.specs.Limits.{most_ticks, most_time_of_tick}
use Rattle.aps_model.specs.Messages.{Effect}
use Rattle.aps_model.specs.Scenario.{Scenario}
use Rattle.aps_model.specs.SchedulerState.{SchedulerState, cpu_at, with_cpu}
use Rattle.aps_model.specs.Shape.{IsShape}
use Rattle.aps_model.specs.Step.{Step, billed, pick, settled, tested}
use Rattle.aps_model.specs.TickWork.{tick_work}
use Rattle.aps_model.specs.Usage.{used}
use Rattle.laws_runs.specs.Between.{bill_in}
use Rattle.laws_runs.specs.Moments.{moment}
use Rattle.aps_window.specs.Entries.{IsInOneTick}
use Rattle.aps_window.specs.Window.{Window, advanced}
use Rattle.aps_core.specs.Counts.{CanBill, Counts}
use Rattle.aps_core.specs.Ready.{IsReady}
use Rattle.aps_core.proofs.Counting.{IsSameBill, can_bill, counts_later, counts_like, counts_same}
use Rattle.aps_core.proofs.Frame.{settled_kept, spent_kept}
use Rattle.aps_core.proofs.StepParts.{ticked_by}

-- a later moment is in no earlier tick
div_later : (t a b : ℕ) → a ≤ b → a / t ≤ b / t
div_later t a b le = search (arith)

-- the window has gone on to the step's tick
pub counts_begun : (s s1 : SchedulerState) (h : List Entry) (c now tick : ℕ) (w w1 : Window) → Counts s.shape h (moment h / s.shape.tick) w → moment h ≤ now → tick ≡ now / s.shape.tick
    → w1 ≡ advanced (tick - w.tick) w → s1 ≡ with_cpu s c (record (cpu_at s c) { flag = None }) → Counts s1.shape h (now / s1.shape.tick) w1
counts_begun s s1 h c now tick w w1 counts rises at gone begun =
    let forward = div_later s.shape.tick (moment h) now rises in
    let later : Counts s.shape h tick w1 = subst (Counts s.shape h tick) (sym gone) (counts_later s.shape h (moment h / s.shape.tick) tick w counts (omega (arith, forward, at))) in
    let same : s1.shape ≡ s.shape = ap (λ (u : SchedulerState). u.shape) begun in
    counts_like s.shape s1.shape h tick (now / s1.shape.tick) w1 later same (ap (λ (x : Shape). now / x.tick) same ∙ sym at)

-- what the code's parts of a step are until the bill: its moment, where it begins, the tick, what ran, the states after the
-- beginning and after the tick's work, and the entry
pub record IsBilling (scenario : Scenario) (s : SchedulerState) (h : List Entry) (c now from tick : ℕ) (running : Option Pick) (s1 s2 : SchedulerState) (e : Entry) : Type 0 where
  pub at_due : now ≡ due s h c
  pub from_end : from ≡ last_end h c
  pub ran : running ≡ (cpu_at s c).running
  pub begun : s1 ≡ with_cpu s c (record (cpu_at s c) { flag = None })
  pub ticked : s2 ≡ tick_work scenario s1 h now
  pub entry : e ≡ bill_of c from now running
  pub begins : e.from ≡ from
  pub ends : e.to ≡ now
  pub at_tick : tick ≡ now / s.shape.tick

pub billing : {scenario : Scenario} {s : SchedulerState} {h : List Entry} {c now from tick : ℕ} {running : Option Pick} {s1 s2 : SchedulerState} {e : Entry}
    → now ≡ due s h c → from ≡ last_end h c → running ≡ (cpu_at s c).running → s1 ≡ with_cpu s c (record (cpu_at s c) { flag = None }) → s2 ≡ tick_work scenario s1 h now
    → e ≡ bill_of c from now running → e.from ≡ from → e.to ≡ now → tick ≡ now / s.shape.tick → IsBilling scenario s h c now from tick running s1 s2 e
billing e1 e2 e3 e4 e5 e6 e7 e8 e9 = record { at_due = e1; from_end = e2; ran = e3; begun = e4; ticked = e5; entry = e6; begins = e7; ends = e8; at_tick = e9 }

tick_kept : (scenario : Scenario) (s : SchedulerState) (h : List Entry) (c now from tick : ℕ) (running : Option Pick) (s1 s2 : SchedulerState) (e : Entry) → IsReady scenario s h c
    → IsBilling scenario s h c now from tick running s1 s2 e → s2.shape.tick ≡ s.shape.tick
tick_kept scenario s h c now from tick running s1 s2 e r b =
    ap (λ (u : SchedulerState). u.shape.tick) (ticked_by scenario s h c now s1 s2 b.at_due b.begun b.ticked) ∙ r.same_tick

-- the tick of the entry's end
same_tick : (scenario : Scenario) (s : SchedulerState) (h : List Entry) (c now from tick : ℕ) (running : Option Pick) (s1 s2 : SchedulerState) (e : Entry) → IsReady scenario s h c
    → IsBilling scenario s h c now from tick running s1 s2 e → (t : SchedulerState) → t.shape ≡ s2.shape → e.to / t.shape.tick ≡ now / s1.shape.tick
same_tick scenario s h c now from tick running s1 s2 e r b t same =
    let first : s1.shape.tick ≡ s.shape.tick = ap (λ (u : SchedulerState). u.shape.tick) b.begun in
    let last : t.shape.tick ≡ s.shape.tick = ap (λ (x : Shape). x.tick) same ∙ tick_kept scenario s h c now from tick running s1 s2 e r b in
    λ i. b.ends i / (last ∙ sym first) i

pub room_to_bill : (scenario : Scenario) (s : SchedulerState) (h : List Entry) (c now from tick : ℕ) (running : Option Pick) (s1 s2 : SchedulerState) (e : Entry) (w : Window) → IsReady scenario s h c
    → IsBilling scenario s h c now from tick running s1 s2 e → tick ≤ most_ticks → IsShape s2.shape → IsEntry e → Counts s2.shape h (now / s1.shape.tick) w → CanBill s2.shape.tick w e
room_to_bill scenario s h c now from tick running s1 s2 e w r b early sized fits counts =
    let kept : s2.shape.tick ≡ s.shape.tick = tick_kept scenario s h c now from tick running s1 s2 e r b in
    let first : s1.shape.tick ≡ s.shape.tick = ap (λ (u : SchedulerState). u.shape.tick) b.begun in
    let short : e.to ≤ next_boundary s.shape.tick e.from = rw (b.ends, b.begins, b.at_due, b.from_end) r.in_tick in
    let whole : IsInOneTick s2.shape.tick e = subst (λ n. e.to ≤ next_boundary n e.from) (sym kept) short in
    let at : tick ≡ now / s1.shape.tick = b.at_tick ∙ ap (λ n. now / n) (sym first) in
    let same : e ≡ bill_in s h c = b.entry ∙ (λ i. bill_of c (b.from_end i) (b.at_due i) (b.ran i)) in
    can_bill s2.shape h (now / s1.shape.tick) w e counts sized fits whole (sym (same_tick scenario s h c now from tick running s1 s2 e r b s2 refl)) (omega (arith, early, at))
    (λ p k. subst (λ n. used n (h ++ e ∷ []) p k (k + 1) ≤ most_time_of_tick) (sym kept) (subst (λ (x : Entry). used s.shape.tick (h ++ x ∷ []) p k (k + 1) ≤ most_time_of_tick) (sym same) (r.bills_fit p k)))

-- what adding an entry makes of the counts by a shape that was read
pub counted_as : (shape read : Shape) (h : List Entry) (j : ℕ) (w w' : Window) (e : Entry) → read ≡ shape
    → ((g : List Entry) (k : ℕ) → Counts read g k w → Counts read (g ++ e ∷ []) k w') → Counts shape h j w → Counts shape (h ++ e ∷ []) j w'
counted_as shape read h j w w' e same adds before =
    subst (λ (x : Shape). Counts x (h ++ e ∷ []) j w') same (adds h j (subst (λ (x : Shape). Counts x h j w) (sym same) before))

pub entry_of : (scenario : Scenario) (s : SchedulerState) (h : List Entry) (c now from tick : ℕ) (running : Option Pick) (s1 s2 : SchedulerState) (e : Entry) → IsReady scenario s h c
    → IsBilling scenario s h c now from tick running s1 s2 e → IsEntry e
entry_of scenario s h c now from tick running s1 s2 e r b =
    let forward = r.forward in
    let early = r.early in
    let short = r.short in
    record {
      forward = omega (arith, forward, b.ends, b.begins, b.at_due, b.from_end);
      to = omega (arith, early, b.ends, b.at_due);
      short = omega (arith, short, b.ends, b.begins, b.at_due, b.from_end);
    }

-- ---- after the bill no part of the step changes the shape

pub spent_shape : (s : SchedulerState) (e : Entry) (running : Option Pick) (t : SchedulerState) → t ≡ billed s e running → t.shape ≡ s.shape
spent_shape s e running t is = ap (λ (u : SchedulerState). u.shape) is ∙ (spent_kept s (e.to - e.from) running).shape

test_shape : (policy : Bankruptcy) (s : SchedulerState) (j : ℕ) (o : Option ℕ) → (after_test policy s j o).state.shape ≡ s.shape
test_shape policy s j None = refl
test_shape Basic s j (Some p) = refl
test_shape Cancel s j (Some p) = refl
test_shape Reboot s j (Some p) = refl

pub tested_shape : (s : SchedulerState) (h : List Entry) (e : Entry) (t : SchedulerState) (reboot : Option ℕ) → tested s h e ≡ record { state = t; reboot = reboot } → t.shape ≡ s.shape
tested_shape s h e t reboot is = sym (ap (λ (x : Tested). x.state.shape) is) ∙ test_shape s.shape.bankruptcy s (e.to / s.shape.tick) (bankrupt s (h ++ e ∷ []) e)

pub settled_shape : (scenario : Scenario) (s : SchedulerState) (now : ℕ) (running : Option Pick) (did : Effect) → settled scenario s now running ≡ did → did.state.shape ≡ s.shape
settled_shape scenario s now running did is = sym (ap (λ (x : Effect). x.state.shape) is) ∙ (settled_kept scenario s now running).shape

-- the window with the bill, of each state that comes after, and for the entry with its operation and its pick
pub counts_left : (scenario : Scenario) (s : SchedulerState) (h : List Entry) (c now from tick : ℕ) (running : Option Pick) (s1 s2 : SchedulerState) (e : Entry) (w : Window) → IsReady scenario s h c
    → IsBilling scenario s h c now from tick running s1 s2 e → Counts s2.shape (h ++ e ∷ []) (now / s1.shape.tick) w
    → (t : SchedulerState) (other : Entry) → t.shape ≡ s2.shape → IsSameBill e other → Counts t.shape (h ++ other ∷ []) (other.to / t.shape.tick) w
counts_left scenario s h c now from tick running s1 s2 e w r b counts t other same bill =
    counts_same s2.shape t.shape h e other (now / s1.shape.tick) (other.to / t.shape.tick) w counts same bill
    (ap (λ n. n / t.shape.tick) bill.to ∙ same_tick scenario s h c now from tick running s1 s2 e r b t same)

-- the entry with its operation
pub done_bill : (e : Entry) (done : Done) → IsSameBill e (record e { done = done })
done_bill e done = record { billed = refl; from = refl; to = refl; critical = refl }

pub own_bill : (e : Entry) → IsSameBill e e
own_bill e = record { billed = refl; from = refl; to = refl; critical = refl }

-- and with its pick
pub picked_bill : (s : SchedulerState) (h : List Entry) (c now : ℕ) (e : Entry) (done : Done) (out : Step) → pick s h c now (record e { done = done }) ≡ out → IsSameBill e out.entry
picked_bill s h c now e done out is = record {
  billed = sym (ap (λ (x : Step). x.entry.billed) is);
  from = sym (ap (λ (x : Step). x.entry.from) is);
  to = sym (ap (λ (x : Step). x.entry.to) is);
  critical = sym (ap (λ (x : Step). x.entry.critical) is);
}
