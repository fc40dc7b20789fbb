-- How the partitions stand through the parts of a step.
use Rattle.std.proofs.Common.{◌≡◌, ◌≢◌, ℕ, ◌<◌, ◌≤◌, ◌/◌, ◌++◌, List, [], ◌∷◌, Bool, true, false, ◌||◌, nat_eq, cond, length, length-set, slice_set, get_or, ◌⊎◌, inl, inr, Option, Some, None, refl, sym, ap, ◌∙◌, subst, arith}
use Rattle.std.proofs.lemmas.List.FromFn.{fill_by_all, get_or-map-range_with_len, length-map-range_with_len}
use Rattle.std.proofs.lemmas.Bool.{cases_lt, eqb-true}
use Rattle.std.proofs.lemmas.List.{get_or-set_same, get_or-set_other, length-append, set-get_or}
use Rattle.aps_model.specs.declared.command.ChangeKind.TheVariants.{Cancelled}
use Rattle.aps_model.specs.declared.entry.Entry.{Entry}
use Rattle.aps_model.specs.declared.merit.PartFacts.{PartFacts}
use Rattle.aps_model.specs.declared.partition.PartitionRow.{PartitionRow}
use Rattle.aps_model.specs.declared.shape.Bankruptcy.{Bankruptcy}
use Rattle.aps_model.specs.declared.shape.Bankruptcy.TheVariants.{Basic, Cancel, Reboot}
use Rattle.aps_model.specs.declared.shape.Shape.{Shape}
use Rattle.aps_model.specs.declared.state.Pick.{Pick}
use Rattle.aps_model.specs.Bill.{Tested, after_test, bankrupt, cancel}
use Rattle.aps_model.specs.Budget.{no_part, part_at}
use Rattle.aps_model.specs.Partition.{no_row, row_or_none}
use Rattle.aps_model.specs.SchedulerState.{SchedulerState, cpu_at, row_at, with_cpu}
use Rattle.aps_model.specs.Step.{billed, tested}
use Rattle.aps_model.specs.Tree.{rows_cancelled}
use Rattle.aps_window.specs.Window.{Window, total_of}
use Rattle.aps_core.specs.Counts.{part_in, parts_in}
use Rattle.aps_core.specs.Kept.{KeepsFrame}
use Rattle.aps_core.specs.Part.{part_of}
use Rattle.aps_core.specs.Standing.{DoOthersStand}
use Rattle.aps_core.proofs.Frame.{kept_self, kept_then, spent_kept}

pub neither : (a b : Bool) → (a || b) ≡ false → (a ≡ false) × (b ≡ false)
neither true b e = absurd cc
neither false b e = (refl, e)

pub own_or_other : (q p : ℕ) → (q ≡ p) ⊎ (q ≢ p)
own_or_other q p = elim (cases_lt q p) [
  | inl below ↦ inr (λ e. omega (arith, e, below))
  | inr past ↦ elim (cases_lt p q) [
    | inl above ↦ inr (λ e. omega (arith, e, above))
    | inr most ↦ inl (omega (arith, past, most))
  ]
]

pub another : (p q : ℕ) → q ≢ p → Some p ≢ Some q
another p q apart same = apart (sym (some_of same))
  where
    some_of : Some p ≡ Some q → p ≡ q
    some_of e = cc

-- with nobody billed, all stand
pub none_anew : (billed : Option ℕ) (shape : Shape) (rows : List PartitionRow) (w : Window) (parts : List PartFacts)
    → DoOthersStand billed shape rows w parts → billed ≡ None → parts ≡ parts_in shape rows w
none_anew (Some p) shape rows w parts others none = absurd cc
none_anew None shape rows w parts others none =
    fill_by_all (part_in shape rows w) parts (length rows) no_part others.count (λ q within. others.each q nobody within)
  where
    nobody : {q : ℕ} → None ≢ Some q
    nobody e = cc

-- with one set anew, all stand
pub one_anew : (p : ℕ) (shape : Shape) (rows : List PartitionRow) (w : Window) (parts : List PartFacts) (part : PartFacts)
    → DoOthersStand (Some p) shape rows w parts → p < length rows → part ≡ part_in shape rows w p → slice_set parts p part ≡ parts_in shape rows w
one_anew p shape rows w parts part others inside is =
    let long = length-set parts p part in
    fill_by_all (part_in shape rows w) (slice_set parts p part) (length rows) no_part (omega (arith, long, others.count))
    (λ q within. elim (own_or_other q p) [
      | inl same ↦
          ap (λ n. get_or (slice_set parts p part) n no_part) same
          ∙ get_or-set_same parts p part no_part (omega (arith, inside, others.count))
          ∙ is ∙ ap (part_in shape rows w) (sym same)
      | inr apart ↦ get_or-set_other parts p q part no_part apart ∙ others.each q (another p q apart) within
    ])

-- with the rows and the shape as they were, and no other bill than this
pub others_stand : (billed : Option ℕ) (shape shape' : Shape) (rows rows' : List PartitionRow) (w w' : Window) (parts : List PartFacts)
    → parts ≡ parts_in shape rows w → shape' ≡ shape → rows' ≡ rows → ((p : ℕ) → billed ≢ Some p → total_of w' p ≡ total_of w p)
    → DoOthersStand billed shape' rows' w' parts
others_stand billed shape shape' rows rows' w w' parts is same_shape same_rows totals =
    subst (λ s. DoOthersStand billed s rows' w' parts) (sym same_shape)
    (subst (λ r. DoOthersStand billed shape r w' parts) (sym same_rows)
    (record {
      count = ap length is ∙ length-map-range_with_len (part_in shape rows w) 0 (length rows);
      each = λ p apart inside.
          ap (λ l. part_at l p) is
          ∙ get_or-map-range_with_len (part_in shape rows w) 0 (length rows) p p no_part inside (omega arith)
          ∙ (λ i. part_of shape (row_or_none rows p) (sym (totals p apart) i).billed (sym (totals p apart) i).critical);
    }))

-- a cancel that records no change leaves all as it was
calm_cancel : (s : SchedulerState) (j p : ℕ) → length (cancel s j p).changes ≤ length s.changes → cancel s j p ≡ s
calm_cancel s j p = by_test (nat_eq (row_at s p).critical 0) refl
  where
    same_rows : (row_at s p).critical ≡ 0 → rows_cancelled s.rows p ≡ s.rows
    same_rows none = ap (λ n. slice_set s.rows p (record (row_or_none s.rows p) { critical = n })) (sym none) ∙ set-get_or s.rows p no_row

    by_test : (t : Bool) → nat_eq (row_at s p).critical 0 ≡ t
        → length (cond t s.changes (s.changes ++ (record { tick = j; kind = Cancelled p }) ∷ [])) ≤ length s.changes
        → record s { rows = rows_cancelled s.rows p; changes = cond t s.changes (s.changes ++ (record { tick = j; kind = Cancelled p }) ∷ []) } ≡ s
    by_test true none few = ap (λ rows. record s { rows = rows }) (same_rows (eqb-true (row_at s p).critical 0 none))
    by_test false some few =
        let more = length-append s.changes ((record { tick = j; kind = Cancelled p }) ∷ []) in
        absurd (omega (arith, few, more))

-- so does a test
calm_policy : (policy : Bankruptcy) (s : SchedulerState) (j : ℕ) (o : Option ℕ)
    → length (after_test policy s j o).state.changes ≤ length s.changes → (after_test policy s j o).state ≡ s
calm_policy policy s j None few = refl
calm_policy Basic s j (Some p) few = refl
calm_policy Cancel s j (Some p) few = calm_cancel s j p few
calm_policy Reboot s j (Some p) few = refl

calm_test : (s : SchedulerState) (h : List Entry) (e : Entry) (t : SchedulerState) (reboot : Option ℕ)
    → length t.changes ≤ length s.changes → tested s h e ≡ record { state = t; reboot = reboot } → t ≡ s
calm_test s h e t reboot few is =
    let left : (tested s h e).state ≡ t = ap (λ (x : Tested). x.state) is in
    let fewer : length (tested s h e).state.changes ≤ length s.changes = subst (λ (u : SchedulerState). length u.changes ≤ length s.changes) (sym left) few in
    sym left ∙ calm_policy s.shape.bankruptcy s (e.to / s.shape.tick) (bankrupt s (h ++ e ∷ []) e) fewer

-- what the parts of a step before the operation leave, where no command was done and the test recorded no change
pub calm_kept : (s : SchedulerState) (h : List Entry) (c : ℕ) (running : Option Pick) (s1 s2 t0 t : SchedulerState) (e : Entry) (reboot : Option ℕ)
    → s1 ≡ with_cpu s c (record (cpu_at s c) { flag = None }) → KeepsFrame s1 s2 → t0 ≡ billed s2 e running → tested t0 h e ≡ record { state = t; reboot = reboot } → length t.changes ≤ length t0.changes
    → KeepsFrame s t
calm_kept s h c running s1 s2 t0 t e reboot begun ticked spent test calm =
    let first : KeepsFrame s s1 = subst (KeepsFrame s) (sym begun) (record { rows = refl; shape = refl; threads = refl; cpus = length-set s.cpus c _; replies = refl; changes = refl }) in
    let paid : KeepsFrame s2 t0 = subst (KeepsFrame s2) (sym spent) (spent_kept s2 _ running) in
    let last : KeepsFrame t0 t = subst (KeepsFrame t0) (sym (calm_test t0 h e t reboot calm test)) (kept_self t0) in
    kept_then first (kept_then ticked (kept_then paid last))
