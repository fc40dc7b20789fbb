-- What an entry says of the contenders that its pick chose from.
use Rattle.std.proofs.Common.{◌≡◌, ℕ, ◌+◌, ◌-◌, ◌/◌, ◌<◌, List, [], ◌∷◌, ◌++◌, map, length, refl, sym, ◌∙◌, ap, subst, ◌⊎◌, inl, inr, Option, Some, None, arith}
use Rattle.std.specs.List.{range_with_len}
use Rattle.std.specs.Option.{option_map}
use Rattle.std.proofs.lemmas.List.Sums.{sum_by_push}
use Rattle.aps_model.specs.declared.entry.Entry.{Entry}
use Rattle.aps_model.specs.declared.entry.Order.{Order}
use Rattle.aps_model.specs.declared.merit.Contender.{Contender}
use Rattle.aps_model.specs.declared.merit.PartFacts.{PartFacts}
use Rattle.aps_model.specs.declared.partition.PartitionRow.{PartitionRow}
use Rattle.aps_model.specs.declared.shape.Shape.{Shape}
use Rattle.aps_model.specs.declared.state.CpuNow.{CpuNow}
use Rattle.aps_model.specs.declared.state.Pick.{Pick}
use Rattle.aps_model.specs.After.{After, after, state_after}
use Rattle.aps_model.specs.Budget.{all_parts, has_standing, in_budget, is_shut, part_at, part_facts}
use Rattle.aps_model.specs.Due.{due, last_end}
use Rattle.aps_model.specs.Flag.{flag_for, with_flag}
use Rattle.aps_model.specs.Legal.{IsLegal}
use Rattle.aps_model.specs.Merit.{is_critical_pick}
use Rattle.aps_model.specs.Partition.{row_or_none}
use Rattle.aps_model.specs.Pick.{contenders, greatest, missing}
use Rattle.aps_model.specs.Scenario.{Scenario}
use Rattle.aps_model.specs.SchedulerState.{SchedulerState, cpu_at}
use Rattle.aps_model.specs.Step.{Step, chosen, settled, step}
use Rattle.aps_model.specs.Usage.{billed_by, critical_by, window_critical, window_used}
use Rattle.aps_model.specs.Valid.{IsScenario}
use Rattle.laws_runs.specs.Bears.{NamesChannels}
use Rattle.laws_runs.specs.Untouched.{IsComplete, AgreesOnRunning}
use Rattle.laws_runs.specs.Waits.{IsPlain}
use Rattle.laws_runs.specs.Window.{Kept, kept_if, pair_kept}
use Rattle.laws_runs.proofs.Channels.{names_channels}
use Rattle.laws_runs.proofs.Mid.{test_mid, back_mid}
use Rattle.laws_runs.proofs.Picked.{flag_running, flag_shape, flag_rows, cpu_same}
use Rattle.laws_runs.proofs.Sound.{legal_last, sound}
use Rattle.laws_runs.specs.Choices.{MadeNoPick}
use Rattle.laws_runs.proofs.StepOf.{bill_at, bill_says, mid_count, step_by, tested_at}
use Rattle.aps_model.proofs.AfterLaws.{after-append}
use Rattle.laws_runs.proofs.PickSays.{chosen_rows, chosen_shape, complete_in}
use Rattle.laws_runs.proofs.ChoiceLaws.{bill_picks_none}

-- the partitions as they stand at the pick of the entry that ends this history
abbrev pub parts_of : SchedulerState → List Entry → Entry → List PartFacts
parts_of t h e = all_parts t.shape t.rows (h ++ e ∷ []) (e.to / t.shape.tick)

-- what a processor keeps of the contender that it picked
abbrev pub keeps_of : List PartFacts → Option Contender → Kept
keeps_of parts best = option_map (λ (b : Contender). (b.facts.partition, is_critical_pick b.facts (part_at parts b.facts.partition))) best

-- the entry picked the greatest of these contenders
pub record IsChosen (h : List Entry) (e : Entry) (t : SchedulerState) : Type 0 where
  pub ready : List Contender
  pub starved : e.starved ≡ missing (parts_of t h e) ready
  pub keeps : kept_if e.picked (pair_kept (cpu_at t e.cpu).running) ≡ keeps_of (parts_of t h e) (greatest t.shape.free (parts_of t h e) ready)

-- ---- the parts don't depend on what the entry says of its pick

map_same : {X : Type 0} (f g : ℕ → X) → ((p : ℕ) → f p ≡ g p) → (xs : List ℕ) → map f xs ≡ map g xs
map_same f g same [] = refl
map_same f g same (x ∷ xs) = ap (λ y. y ∷ map f xs) (same x) ∙ ap (λ ys. g x ∷ ys) (map_same f g same xs)

part_same : (shape : Shape) (rows : List PartitionRow) (h : List Entry) (j : ℕ) (e : Entry) (picked starved flagged : Option ℕ) (p : ℕ)
    → part_facts shape rows (h ++ (record e { picked = picked; starved = starved; flagged = flagged }) ∷ []) j p ≡ part_facts shape rows (h ++ e ∷ []) j p
part_same shape rows h j e picked starved flagged p =
    let d = record e { picked = picked; starved = starved; flagged = flagged } in
    let row = row_or_none rows p in
    let facts : ℕ → ℕ → PartFacts = λ spent critical. record {
      funded = in_budget shape spent row.budget;
      standing = has_standing critical row.critical;
      shut = is_shut shape spent row.max;
      used = spent;
      budget = row.budget;
    } in
    let spent : window_used shape (h ++ d ∷ []) j p ≡ window_used shape (h ++ e ∷ []) j p =
    omega (arith, sum_by_push (billed_by shape.tick p (j + 1 - shape.window) (j + 1)) h d, sum_by_push (billed_by shape.tick p (j + 1 - shape.window) (j + 1)) h e) in
    let critical : window_critical shape (h ++ d ∷ []) j p ≡ window_critical shape (h ++ e ∷ []) j p =
    omega (arith, sum_by_push (critical_by shape.tick p (j + 1 - shape.window) (j + 1)) h d, sum_by_push (critical_by shape.tick p (j + 1 - shape.window) (j + 1)) h e) in
    ap (λ n. facts n (window_critical shape (h ++ d ∷ []) j p)) spent ∙ ap (facts (window_used shape (h ++ e ∷ []) j p)) critical

parts_same : (shape : Shape) (rows : List PartitionRow) (h : List Entry) (j : ℕ) (e : Entry) (picked starved flagged : Option ℕ)
    → all_parts shape rows (h ++ (record e { picked = picked; starved = starved; flagged = flagged }) ∷ []) j ≡ all_parts shape rows (h ++ e ∷ []) j
parts_same shape rows h j e picked starved flagged =
    map_same _ _ (part_same shape rows h j e picked starved flagged) (range_with_len 0 (length rows))

-- ---- a pick

chosen_cpu : (r : SchedulerState) (ps : List PartFacts) (c : ℕ) (best : Option Contender) → c < length r.cpus
    → kept_if (option_map (λ (b : Contender). b.thread) best) (pair_kept (cpu_at (chosen r ps c best) c).running) ≡ keeps_of ps best
chosen_cpu r ps c None below = refl
chosen_cpu r ps c (Some b) below = ap (λ (z : CpuNow). pair_kept z.running) (cpu_same r.cpus c _ below)

-- over variables
chosen_at : (r t : SchedulerState) (h : List Entry) (now : ℕ) (ps : List PartFacts) (e : Entry) (best : Option Contender) (starved flagged : Option ℕ)
    → e.cpu < length r.cpus → e.to ≡ now → t.shape ≡ r.shape → t.rows ≡ r.rows
    → ps ≡ all_parts r.shape r.rows (h ++ e ∷ []) (now / r.shape.tick)
    → best ≡ greatest r.shape.free ps (contenders r)
    → starved ≡ missing ps (contenders r)
    → (cpu_at t e.cpu).running ≡ (cpu_at (chosen r ps e.cpu best) e.cpu).running
    → IsChosen h (record e { picked = option_map (λ (b : Contender). b.thread) best; starved = starved; flagged = flagged }) t
chosen_at r t h now ps e best starved flagged below to shape rows parts is lacks running =
    let d = record e { picked = option_map (λ (b : Contender). b.thread) best; starved = starved; flagged = flagged } in
    let same : ps ≡ parts_of t h d =
    parts
    ∙ sym (parts_same r.shape r.rows h (now / r.shape.tick) e d.picked starved flagged)
    ∙ ap (λ n. all_parts r.shape r.rows (h ++ d ∷ []) (n / r.shape.tick)) (sym to)
    ∙ ap (λ (z : Shape). all_parts z r.rows (h ++ d ∷ []) (e.to / z.tick)) (sym shape)
    ∙ ap (λ rs. all_parts t.shape rs (h ++ d ∷ []) (e.to / t.shape.tick)) (sym rows) in
    record {
      ready = contenders r;
      starved = lacks ∙ ap (λ xs. missing xs (contenders r)) same;
      keeps =
          ap (λ (o : Option Pick). kept_if d.picked (pair_kept o)) running
          ∙ chosen_cpu r ps e.cpu best below
          ∙ ap (keeps_of ps) (is ∙ ap (λ (z : Shape). greatest z.free ps (contenders r)) (sym shape))
          ∙ ap (λ xs. keeps_of xs (greatest t.shape.free xs (contenders r))) same;
    }

kept_running : (r : SchedulerState) (ps : List PartFacts) (c now : ℕ) (best : Option Contender) (other : Option ℕ) (d : ℕ) → d ≡ c
    → (cpu_at (with_flag (chosen r ps c best) now other) d).running ≡ (cpu_at (chosen r ps d best) d).running
kept_running r ps c now best other d same = flag_running (chosen r ps c best) now other d ∙ ap (λ n. (cpu_at (chosen r ps n best) d).running) (sym same)

-- a step makes no pick, or it picks the greatest of the ready threads
step_chooses : (scenario : Scenario) (s : SchedulerState) (h : List Entry) (c : ℕ) → NamesChannels scenario → IsPlain scenario s → AgreesOnRunning s → c < length s.cpus
    → MadeNoPick s (step scenario s h c).entry (step scenario s h c).reboot ⊎ IsChosen h (step scenario s h c).entry (step scenario s h c).state
step_chooses scenario s h c names plain k below =
    let now = due s h c in
    let running = (cpu_at s c).running in
    let e = bill_at s h c in
    let says = bill_says c (last_end h c) now running in
    let b = test_mid scenario s h c now e running plain k refl in
    let back = back_mid scenario s (tested_at scenario s h c).state c now running names k refl b in
    step_by scenario s h c (λ (out : Step). MadeNoPick s out.entry out.reboot ⊎ IsChosen h out.entry out.state)
    (λ o why. inl (record {
      none = bill_picks_none c (last_end h c) now running;
      complete = subst (λ n. IsComplete s n o) (sym says.to) (complete_in s (tested_at scenario s h c).state now o b.mid.sizes why);
    }))
    (λ early.
    let did = settled scenario (tested_at scenario s h c).state now running in
    let r = did.state in
    let e0 = record e { done = did.done } in
    let ps = all_parts r.shape r.rows (h ++ e0 ∷ []) (now / r.shape.tick) in
    let best = greatest r.shape.free ps (contenders r) in
    let below_r : c < length r.cpus = rw (mid_count scenario s c r back.mid) below in
    let q = chosen r ps c best in
    let other = flag_for q h ps c now (greatest r.shape.free ps (contenders q)) in
    inr (chosen_at r (with_flag q now other) h now ps e0 best (missing ps (contenders r)) other
    (subst (λ n. n < length r.cpus) (sym says.cpu) below_r) says.to
    (flag_shape q now other ∙ chosen_shape r ps c best) (flag_rows q now other ∙ chosen_rows r ps c best) refl refl refl (kept_running r ps c now best other e0.cpu says.cpu)))

pub chosen_law : (scenario : Scenario) (order : Order) (h : List Entry) (e : Entry) → IsScenario scenario → IsLegal scenario order (h ++ e ∷ [])
    → MadeNoPick (state_after scenario h) e (after scenario (h ++ e ∷ [])).reboot ⊎ IsChosen h e (state_after scenario (h ++ e ∷ []))
chosen_law scenario order h e r legal =
    let last = legal_last scenario order h e legal in
    let m = sound scenario order r h last.0 in
    let s = state_after scenario h in
    let said = step_chooses scenario s h e.cpu (names_channels scenario r) m.grounded.plain m.grounded.kept (subst (λ n. e.cpu < n) (sym m.grounded.cpu_count) last.1.turn.exists) in
    subst (λ (a : After). MadeNoPick s e a.reboot ⊎ IsChosen h e a.state) (sym (after-append scenario h e))
    (subst (λ (x : Entry). MadeNoPick s x (step scenario s h e.cpu).reboot ⊎ IsChosen h x (step scenario s h e.cpu).state) (sym last.1.same) said)
