-- The dues of processors through a step of one of them.
use Rattle.std.proofs.Common.{◌≡◌, ◌≢◌, ℕ, ◌<◌, ◌≤◌, List, [], ◌∷◌, ◌++◌, ◌⊎◌, ◌/◌, length, refl, sym, ◌∙◌, ap, subst, Option, Some, None, IfSome, slice_index, slice_index_or, slice_set, length-set, arith, inl, inr}
use Rattle.std.proofs.lemmas.Bool.{cases_eq, cases_lt}
use Rattle.std.proofs.lemmas.List.{get_or-set_other, get_or-set_same, set_past}
use Rattle.aps_model.specs.declared.entry.Entry.{Entry}
use Rattle.aps_model.specs.declared.merit.Contender.{Contender}
use Rattle.aps_model.specs.declared.merit.PartFacts.{PartFacts}
use Rattle.aps_model.specs.declared.state.CpuNow.{CpuNow}
use Rattle.aps_model.specs.declared.state.Pick.{Pick}
use Rattle.aps_model.specs.declared.state.State.TheVariants.{Running}
use Rattle.aps_model.specs.declared.state.ThreadNow.{ThreadNow}
use Rattle.aps_model.specs.Bill.{bill_of}
use Rattle.aps_model.specs.Budget.{all_parts}
use Rattle.aps_model.specs.Due.{due, due_at, last_end, last_to, left_running}
use Rattle.aps_model.specs.Flag.{flag_for, with_flag}
use Rattle.aps_model.specs.Limits.{most_cpus}
use Rattle.aps_model.specs.Pick.{contenders, greatest}
use Rattle.aps_model.specs.Scenario.{Scenario}
use Rattle.aps_model.specs.SchedulerState.{SchedulerState, cpu_at, no_thread, thread_at}
use Rattle.aps_model.specs.Shape.{horizon}
use Rattle.aps_model.specs.Step.{Step, chosen, pick, settled, step}
use Rattle.laws_runs.specs.Bears.{NamesChannels}
use Rattle.laws_runs.specs.Sizes.{IsSameSizes}
use Rattle.laws_runs.specs.Untouched.{AgreesOnRunning, IsStepOf}
use Rattle.laws_runs.specs.Waits.{IsPlain}
use Rattle.laws_runs.proofs.Mid.{back_mid, test_mid}
use Rattle.laws_runs.proofs.MomentLaws.{last_other}
use Rattle.laws_runs.proofs.Picked.{cpu_other, cpu_same, flag_other}
use Rattle.laws_runs.proofs.StepOf.{bill_at, due_like, due_same, left_kept, mid_count, mid_cpu, step_by, tested_at}
use Rattle.aps_core.specs.NextDues.{AreDues, AreOthersDues, dues_after, dues_flagged}

-- ---- where a processor has chosen, the others are due as before

left_set : (threads : List ThreadNow) (x y : ℕ) (t : ThreadNow) → t.left ≡ (slice_index_or threads x no_thread).left
    → (slice_index_or (slice_set threads x t) y no_thread).left ≡ (slice_index_or threads y no_thread).left
left_set threads x y t same = elim (cases_eq y x) [
  | inr other ↦ ap (λ (u : ThreadNow). u.left) (get_or-set_other threads x y t no_thread other)
  | inl here ↦ subst (λ k. (slice_index_or (slice_set threads x t) k no_thread).left ≡ (slice_index_or threads k no_thread).left) (sym here)
      (elim (cases_lt x (length threads)) [
        | inl inside ↦ ap (λ (u : ThreadNow). u.left) (get_or-set_same threads x t no_thread inside) ∙ same
        | inr past ↦ ap (λ (ts : List ThreadNow). (slice_index_or ts x no_thread).left) (set_past threads x t past)
      ])
]

chosen_left : (s : SchedulerState) (parts : List PartFacts) (c : ℕ) (best : Option Contender) (o : Option Pick) → left_running (chosen s parts c best) o ≡ left_running s o
chosen_left s parts c best None = refl
chosen_left s parts c None (Some p) = refl
chosen_left s parts c (Some b) (Some p) = left_set s.threads b.thread p.thread (record (thread_at s b.thread) { state = Running c }) refl

pub chosen_cpu : (s : SchedulerState) (parts : List PartFacts) (c : ℕ) (best : Option Contender) (d : ℕ) → d ≢ c → cpu_at (chosen s parts c best) d ≡ cpu_at s d
chosen_cpu s parts c None d ne = cpu_other s.cpus c d _ ne
chosen_cpu s parts c (Some b) d ne = cpu_other s.cpus c d _ ne

pub chosen_count : (s : SchedulerState) (parts : List PartFacts) (c : ℕ) (best : Option Contender) → length (chosen s parts c best).cpus ≡ length s.cpus
chosen_count s parts c None = length-set s.cpus c _
chosen_count s parts c (Some b) = length-set s.cpus c _

chosen_sizes : (s : SchedulerState) (parts : List PartFacts) (c : ℕ) (best : Option Contender) → IsSameSizes s.shape (chosen s parts c best).shape
chosen_sizes s parts c None = record { cpus = refl; tick = refl; ticks = refl; call_ns = refl; parts = refl }
chosen_sizes s parts c (Some b) = record { cpus = refl; tick = refl; ticks = refl; call_ns = refl; parts = refl }

due_chosen : (s : SchedulerState) (parts : List PartFacts) (c : ℕ) (best : Option Contender) (h : List Entry) (d : ℕ) → d ≢ c → due (chosen s parts c best) h d ≡ due s h d
due_chosen s parts c best h d ne =
    let q = chosen s parts c best in
    let cpu = chosen_cpu s parts c best d ne in
    due_like s q h h d (chosen_sizes s parts c best) refl (chosen_left s parts c best (cpu_at q d).running ∙ ap (λ (z : CpuNow). left_running s z.running) cpu)
    ∙ ap (λ (z : CpuNow). due_at s.shape.tick (horizon s.shape) z.flag (last_to h d) (left_running s (cpu_at s d).running)) cpu

pub others_chosen : (s q : SchedulerState) (parts : List PartFacts) (c : ℕ) (best : Option Contender) (h : List Entry) (dues : List ℕ) → AreOthersDues s h c dues → q ≡ chosen s parts c best → AreOthersDues q h c dues
others_chosen s q parts c best h dues others is =
    subst (λ u. AreOthersDues u h c dues) (sym is)
    (λ d inside ne. others d (omega (arith, inside, chosen_count s parts c best)) ne ∙ sym (due_chosen s parts c best h d ne))

-- ---- before the pick they are due as at the beginning

pub cpu_before : (scenario : Scenario) (s : SchedulerState) (h : List Entry) (c : ℕ) → NamesChannels scenario → IsPlain scenario s → AgreesOnRunning s
    → (d : ℕ) → d ≢ c → cpu_at (settled scenario (tested_at scenario s h c).state (due s h c) (cpu_at s c).running).state d ≡ cpu_at s d
cpu_before scenario s h c names plain k d ne =
    let now = due s h c in
    let running = (cpu_at s c).running in
    let r = (settled scenario (tested_at scenario s h c).state now running).state in
    let mid = (back_mid scenario s (tested_at scenario s h c).state c now running names k refl (test_mid scenario s h c now (bill_at s h c) running plain k refl)).mid in
    mid_cpu scenario s c r mid d ne

pub due_before : (scenario : Scenario) (s : SchedulerState) (h : List Entry) (c : ℕ) → NamesChannels scenario → IsPlain scenario s → AgreesOnRunning s
    → (d : ℕ) → d ≢ c → due (settled scenario (tested_at scenario s h c).state (due s h c) (cpu_at s c).running).state h d ≡ due s h d
due_before scenario s h c names plain k d ne =
    let now = due s h c in
    let running = (cpu_at s c).running in
    let r = (settled scenario (tested_at scenario s h c).state now running).state in
    let mid = (back_mid scenario s (tested_at scenario s h c).state c now running names k refl (test_mid scenario s h c now (bill_at s h c) running plain k refl)).mid in
    due_same s r h d mid.sizes (mid_cpu scenario s c r mid d ne) (λ p f. mid.as_before p.thread d ne (k.runs d p f))

-- ---- whom the entry flags

-- another processor has a flag of now where the entry flags it, and else the flag that it had
pub record IsFlagged (s : SchedulerState) (now d : ℕ) (out : Step) : Type 0 where
  pub set : out.entry.flagged ≡ Some d → (cpu_at out.state d).flag ≡ Some now
  pub kept : (out.entry.flagged ≡ Some d → ⊥) → (cpu_at out.state d).flag ≡ (cpu_at s d).flag

pub unflagged_bill : (c from now : ℕ) (running : Option Pick) → (bill_of c from now running).flagged ≡ None
unflagged_bill c from now None = refl
unflagged_bill c from now (Some p) = refl

nobody : (d : ℕ) → None ≡ Some d → ⊥
nobody d e = cc

flag_set : (q : SchedulerState) (now : ℕ) (other : Option ℕ) (d : ℕ) → d < length q.cpus → other ≡ Some d → (cpu_at (with_flag q now other) d).flag ≡ Some now
flag_set q now other d inside is =
    ap (λ o. (cpu_at (with_flag q now o) d).flag) is ∙ ap (λ (z : CpuNow). z.flag) (cpu_same q.cpus d (record (cpu_at q d) { flag = Some now }) inside)

flag_left : (q : SchedulerState) (now : ℕ) (other : Option ℕ) (d : ℕ) → (other ≡ Some d → ⊥) → (cpu_at (with_flag q now other) d).flag ≡ (cpu_at q d).flag
flag_left q now other d none = ap (λ (z : CpuNow). z.flag) (flag_other q now other d none)

same_flag : (r s : SchedulerState) (d : ℕ) → cpu_at r d ≡ cpu_at s d → (cpu_at r d).flag ≡ (cpu_at s d).flag
same_flag r s d same = ap (λ (z : CpuNow). z.flag) same

-- whom a pick flags
picked_flags : (s r : SchedulerState) (h : List Entry) (c now d : ℕ) (e : Entry) → cpu_at r d ≡ cpu_at s d → d < length r.cpus → d ≢ c → IsFlagged s now d (pick r h c now e)
picked_flags s r h c now d e same inside ne =
    let ps = all_parts r.shape r.rows (h ++ e ∷ []) (now / r.shape.tick) in
    let best = greatest r.shape.free ps (contenders r) in
    let q = chosen r ps c best in
    let other = flag_for q h ps c now (greatest r.shape.free ps (contenders q)) in
    record {
      set = λ is. flag_set q now other d (omega (arith, inside, chosen_count r ps c best)) is;
      kept = λ none. flag_left q now other d none ∙ ap (λ (z : CpuNow). z.flag) (chosen_cpu r ps c best d ne) ∙ ap (λ (z : CpuNow). z.flag) same;
    }

pub flags_after : (scenario : Scenario) (s : SchedulerState) (h : List Entry) (c d : ℕ) → NamesChannels scenario → IsPlain scenario s → AgreesOnRunning s → d ≢ c → d < length s.cpus
    → IsFlagged s (due s h c) d (step scenario s h c)
flags_after scenario s h c d names plain k ne inside =
    let now = due s h c in
    let running = (cpu_at s c).running in
    let r0 = (tested_at scenario s h c).state in
    let b = test_mid scenario s h c now (bill_at s h c) running plain k refl in
    let mid = (back_mid scenario s r0 c now running names k refl b).mid in
    step_by scenario s h c (IsFlagged s now d)
    (λ o why. record {
      set = λ is. absurd (nobody d (sym (unflagged_bill c (last_end h c) now running) ∙ is));
      kept = λ none. same_flag r0 s d (mid_cpu scenario s c r0 b.mid d ne);
    })
    (λ early. picked_flags s (settled scenario r0 now running).state h c now d (record (bill_at s h c) { done = (settled scenario r0 now running).done })
    (mid_cpu scenario s c (settled scenario r0 now running).state mid d ne) (omega (arith, inside, mid_count scenario s c (settled scenario r0 now running).state mid)) ne)

-- ---- after the entry

due_kept : (scenario : Scenario) (s : SchedulerState) (h : List Entry) (c : ℕ) (e : Entry) (t : SchedulerState) (d : ℕ) → IsStepOf scenario s h c e t → d ≢ c → (cpu_at t d).flag ≡ (cpu_at s d).flag
    → due t (h ++ e ∷ []) d ≡ due s h d
due_kept scenario s h c e t d st ne same =
    let last : last_to (h ++ e ∷ []) d ≡ last_to h d = last_other h e d (λ k. ne (sym k ∙ st.cpu)) in
    due_like s t h (h ++ e ∷ []) d st.sizes last (left_kept s t d (st.others_running d ne) (λ p f. st.others_thread d p ne f))
    ∙ ap (λ z. due_at s.shape.tick (horizon s.shape) z (last_to h d) (left_running s (cpu_at s d).running)) same

-- the due of another processor: now where the entry flags it, and else as before
pub record IsDueAfter (s : SchedulerState) (h : List Entry) (now d : ℕ) (e : Entry) (t : SchedulerState) : Type 0 where
  pub set : e.flagged ≡ Some d → due t (h ++ e ∷ []) d ≡ now
  pub kept : (e.flagged ≡ Some d → ⊥) → due t (h ++ e ∷ []) d ≡ due s h d

pub due_after : (scenario : Scenario) (s : SchedulerState) (h : List Entry) (c d : ℕ) (e : Entry) (t : SchedulerState) (out : Step) → IsStepOf scenario s h c e t → d ≢ c → out.entry ≡ e → out.state ≡ t
    → ((f : ℕ) → (cpu_at t d).flag ≡ Some f → due t (h ++ e ∷ []) d ≡ f) → IsFlagged s (due s h c) d out → IsDueAfter s h (due s h c) d e t
due_after scenario s h c d e t out st ne entry state at_flag flags = record {
  set = λ is. at_flag (due s h c) (ap (λ (u : SchedulerState). (cpu_at u d).flag) (sym state) ∙ flags.set (ap (λ (x : Entry). x.flagged) entry ∙ is));
  kept = λ none. due_kept scenario s h c e t d st ne (ap (λ (u : SchedulerState). (cpu_at u d).flag) (sym state) ∙ flags.kept (λ is. none (ap (λ (x : Entry). x.flagged) (sym entry) ∙ is)));
}

-- ---- the row

flagged_row : (dues : List ℕ) (now : ℕ) (o : Option ℕ) (d : ℕ) → d < length dues → (o ≡ Some d → slice_index (dues_flagged dues now o) d ≡ now) × ((o ≡ Some d → ⊥) → slice_index (dues_flagged dues now o) d ≡ slice_index dues d)
flagged_row dues now None d inside = (λ is. absurd (nobody d is), λ none. refl)
flagged_row dues now (Some f) d inside = (
  λ is. ap (λ k. slice_index (slice_set dues k now) d) (some_same f d is) ∙ get_or-set_same dues d now 0 inside,
  λ none. get_or-set_other dues f d now 0 (λ same. none (ap (λ k. Some k) (sym same))),
)
  where
    some_same : (a b : ℕ) → Some a ≡ Some b → a ≡ b
    some_same a b e = cc

flagged_length : (dues : List ℕ) (now : ℕ) (o : Option ℕ) → length (dues_flagged dues now o) ≡ length dues
flagged_length dues now None = refl
flagged_length dues now (Some f) = length-set dues f now

flags_or_not : (o : Option ℕ) (d : ℕ) → (o ≡ Some d) ⊎ (o ≡ Some d → ⊥)
flags_or_not None d = inr (nobody d)
flags_or_not (Some f) d = elim (cases_eq f d) [
  | inl same ↦ inl (ap (λ k. Some k) same)
  | inr other ↦ inr (λ is. other (some_same f d is))
]
  where
    some_same : (a b : ℕ) → Some a ≡ Some b → a ≡ b
    some_same a b e = cc

-- where no processor is nothing changes
flagged_spare : (n : ℕ) (dues : List ℕ) (now : ℕ) (o : Option ℕ) → ((d : ℕ) → n ≤ d → slice_index dues d ≡ 0) → IfSome o (λ d. d < n) → (d : ℕ) → n ≤ d → slice_index (dues_flagged dues now o) d ≡ 0
flagged_spare n dues now None spare within d past = spare d past
flagged_spare n dues now (Some f) spare within d past = get_or-set_other dues f d now 0 (λ same. absurd (omega (arith, same, past, within))) ∙ spare d past

pub spare_after : (n : ℕ) (dues : List ℕ) (e : Entry) (own : ℕ) → ((d : ℕ) → n ≤ d → slice_index dues d ≡ 0) → e.cpu < n → IfSome e.flagged (λ d. d < n)
    → (d : ℕ) → n ≤ d → slice_index (dues_after dues e own) d ≡ 0
spare_after n dues e own spare own_within flagged_within d past =
    get_or-set_other (dues_flagged dues e.to e.flagged) e.cpu d own 0 (λ same. absurd (omega (arith, same, past, own_within)))
    ∙ flagged_spare n dues e.to e.flagged spare flagged_within d past

pub row_after : (s t : SchedulerState) (h : List Entry) (c own : ℕ) (e : Entry) (dues : List ℕ) → length dues ≡ most_cpus → length t.cpus ≤ most_cpus → length t.cpus ≡ length s.cpus → e.cpu ≡ c → e.to ≡ due s h c
    → AreDues s h dues → own ≡ due t (h ++ e ∷ []) c → ((d : ℕ) → d < length s.cpus → d ≢ c → IsDueAfter s h (due s h c) d e t) → AreDues t (h ++ e ∷ []) (dues_after dues e own)
row_after s t h c own e dues whole few count cpu to before own_is others d inside =
    let row = dues_flagged dues e.to e.flagged in
    let longer = flagged_length dues e.to e.flagged in
    elim (cases_eq d e.cpu) [
      | inl same ↦
          ap (λ k. slice_index (slice_set row e.cpu own) k) same
          ∙ get_or-set_same row e.cpu own 0 (omega (arith, longer, whole, few, inside, same))
          ∙ own_is
          ∙ ap (due t (h ++ e ∷ [])) (sym cpu ∙ sym same)
      | inr ne ↦
          let after = others d (omega (arith, inside, count)) (λ k. ne (k ∙ sym cpu)) in
          let there = flagged_row dues e.to e.flagged d (omega (arith, whole, few, inside)) in
          get_or-set_other row e.cpu d own 0 ne
          ∙ (elim (flags_or_not e.flagged d) [
            | inl is ↦ there.0 is ∙ to ∙ sym (after.set is)
            | inr none ↦ there.1 none ∙ before d (omega (arith, inside, count)) ∙ sym (after.kept none)
          ])
    ]
