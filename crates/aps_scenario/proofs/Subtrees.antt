-- The budgets of a subtree, where one more partition takes its budget from a row.
use Rattle.std.proofs.Common.{◌≡◌, ◌≢◌, ℕ, zero, suc, ◌+◌, ◌-◌, ◌<◌, ◌≤◌, List, [], ◌∷◌, length, slice_set, Bool, true, false, cond, ◌||◌, nat_eq, refl, ap, sym, ◌∙◌, arith, add-one, inl, inr, length-append}
use Rattle.std.proofs.lemmas.Bool.{cases_order}
use Rattle.std.proofs.lemmas.Bool.Decides.{nat_tests}
use Rattle.std.proofs.lemmas.List.{get_or-set_same, get_or-set_other, length-set}
use Rattle.std.proofs.Math.ListN.{get_or-append}
use Rattle.std.proofs.Math.Seq.{get_or-append_seam}
use Rattle.std.specs.List.{sum_by, range_with_len}
use Rattle.aps_model.specs.declared.partition.PartitionRow.{PartitionRow}
use Rattle.aps_model.specs.Partition.{row_or_none, no_row}
use Rattle.aps_model.specs.Valid.{is_within, subtree_budget}
use Rattle.aps_scenario.specs.Partitions.{rows_with_new}
use Rattle.aps_scenario.proofs.Lists.{places_more, places_zero, places_less}

pub rows_more : (rows : List PartitionRow) (new : PartitionRow) → length (rows_with_new rows new) ≡ length rows + 1
rows_more rows new = length-append (slice_set rows new.parent _) (new ∷ []) ∙ ap (λ n. n + 1) (length-set rows new.parent _)

or_same : (b : Bool) → (b || b) ≡ b
or_same true = refl
or_same false = refl

-- parents stand earlier, and the root is its own
abbrev pub AreEarlier : List PartitionRow → Type 0
AreEarlier rows = (p : ℕ) → p < length rows → (row_or_none rows p).parent ≤ p - 1

-- rows with the same parents have the same subtrees
same_parents : (rows after : List PartitionRow) → AreEarlier rows
    → ((p : ℕ) → p < length rows → (row_or_none after p).parent ≡ (row_or_none rows p).parent)
    → (k i p : ℕ) → p < length rows → is_within after k i p ≡ is_within rows k i p
same_parents rows after earlier same zero i p within = refl
same_parents rows after earlier same (suc k) i p within =
    let down : (row_or_none rows p).parent ≤ p - 1 = earlier p within in
    ap (λ q. nat_eq p i || is_within after k i q) (same p within)
    ∙ ap (λ b. nat_eq p i || b) (same_parents rows after earlier same k i (row_or_none rows p).parent (omega arith))

-- more steps than rows lead no further
more_steps : (rows : List PartitionRow) → AreEarlier rows → (k i p : ℕ) → p ≤ k → p < length rows → is_within rows (suc k) i p ≡ is_within rows k i p
more_steps rows earlier zero i p few within =
    let down : (row_or_none rows p).parent ≤ p - 1 = earlier p within in
    let same : (row_or_none rows p).parent ≡ p = omega arith in
    ap (λ q. nat_eq p i || nat_eq q i) same ∙ or_same (nat_eq p i)
more_steps rows earlier (suc k) i p few within =
    let down : (row_or_none rows p).parent ≤ p - 1 = earlier p within in
    ap (λ b. nat_eq p i || b) (more_steps rows earlier k i (row_or_none rows p).parent (omega arith) (omega arith))

-- no row reaches a place behind all rows
none_behind : (rows : List PartitionRow) → AreEarlier rows → (k p : ℕ) → p < length rows → is_within rows k (length rows) p ≡ false
none_behind rows earlier zero p within = grind (arith, nat_tests)
none_behind rows earlier (suc k) p within =
    let down : (row_or_none rows p).parent ≤ p - 1 = earlier p within in
    let other : nat_eq p (length rows) ≡ false = grind (arith, nat_tests) in
    ap (λ b. b || is_within rows k (length rows) (row_or_none rows p).parent) other ∙ none_behind rows earlier k (row_or_none rows p).parent (omega arith)

cond_split : (b : Bool) (low new whole : ℕ) → low + new ≡ whole → cond b low 0 + cond b new 0 ≡ cond b whole 0
cond_split true low new whole e = e
cond_split false low new whole e = refl

module _ (rows : List PartitionRow) (new : PartitionRow) (earlier : AreEarlier rows) (parent : new.parent < length rows)
    (funded : new.budget ≤ (row_or_none rows new.parent).budget) where
  abbrev after : List PartitionRow
  after = rows_with_new rows new

  abbrev lower : PartitionRow
  lower = record (row_or_none rows new.parent) { budget = (row_or_none rows new.parent).budget - new.budget }

  abbrev last : PartitionRow
  last = record { name = new.name; parent = new.parent; budget = new.budget; critical = new.critical; max = new.max }

  pub parent_row : row_or_none after new.parent ≡ lower
  parent_row =
      get_or-append (slice_set rows new.parent lower) (last ∷ []) no_row new.parent (rw (length-set rows new.parent lower) parent)
      ∙ get_or-set_same rows new.parent lower no_row parent

  pub other_row : (p : ℕ) → p < length rows → p ≢ new.parent → row_or_none after p ≡ row_or_none rows p
  other_row p within other =
      get_or-append (slice_set rows new.parent lower) (last ∷ []) no_row p (rw (length-set rows new.parent lower) within)
      ∙ get_or-set_other rows new.parent p lower no_row other

  pub new_row : row_or_none after (length rows) ≡ last
  new_row =
      ap (λ n. row_or_none after n) (sym (length-set rows new.parent lower)) ∙ get_or-append_seam (slice_set rows new.parent lower) last [] no_row

  -- what a row has beside its budget is kept
  pub kept : {Y : Type 0} (f : PartitionRow → Y) → f lower ≡ f (row_or_none rows new.parent) → (p : ℕ) → p < length rows
      → f (row_or_none after p) ≡ f (row_or_none rows p)
  kept f same p within =
      elim (cases_order p new.parent) [
        | inl here ↦ ap (λ q. f (row_or_none after q)) here ∙ ap f parent_row ∙ same ∙ ap (λ q. f (row_or_none rows q)) (sym here)
        | inr (inl before) ↦ ap f (other_row p within (λ e. omega arith))
        | inr (inr behind) ↦ ap f (other_row p within (λ e. omega arith))
      ]

  parents_kept : (p : ℕ) → p < length rows → (row_or_none after p).parent ≡ (row_or_none rows p).parent
  parents_kept = kept (λ (row : PartitionRow). row.parent) refl

  within_kept : (i p : ℕ) → p < length rows → is_within after (suc (length rows)) i p ≡ is_within rows (length rows) i p
  within_kept i p within =
      same_parents rows after earlier parents_kept (suc (length rows)) i p within ∙ more_steps rows earlier (length rows) i p (omega arith) within

  abbrev share : ℕ → ℕ → ℕ
  share i p = cond (is_within after (suc (length rows)) i p) (row_or_none after p).budget 0

  abbrev share_before : ℕ → ℕ → ℕ
  share_before i p = cond (is_within rows (length rows) i p) (row_or_none rows p).budget 0

  whole_after : (i : ℕ) → subtree_budget after i ≡ sum_by (share i) (range_with_len 0 (length rows)) + share i (length rows)
  whole_after i =
      let long : length after ≡ suc (length rows) = rows_more rows new ∙ add-one (length rows) in
      ap (λ n. sum_by (λ p. cond (is_within after n i p) (row_or_none after p).budget 0) (range_with_len 0 n)) long
      ∙ ap (λ n. sum_by (share i) (range_with_len 0 n)) (sym (add-one (length rows))) ∙ places_more (share i) (length rows)

  -- the new row is below each row that its parent is below
  share_new : (i : ℕ) → i < length rows → share i (length rows) ≡ cond (is_within rows (length rows) i new.parent) new.budget 0
  share_new i within =
      let other : nat_eq (length rows) i ≡ false = grind (arith, nat_tests) in
      let up : is_within after (suc (length rows)) i (length rows) ≡ is_within after (length rows) i new.parent =
      ap (λ b. b || is_within after (length rows) i (row_or_none after (length rows)).parent) other
      ∙ ap (λ (row : PartitionRow). is_within after (length rows) i row.parent) new_row in
      let same : is_within after (length rows) i new.parent ≡ is_within rows (length rows) i new.parent =
      same_parents rows after earlier parents_kept (length rows) i new.parent parent in
      ap (λ b. cond b (row_or_none after (length rows)).budget 0) (up ∙ same)
      ∙ ap (λ (row : PartitionRow). cond (is_within rows (length rows) i new.parent) row.budget 0) new_row

  pub subtree_kept : (i : ℕ) → i < length rows → subtree_budget after i ≡ subtree_budget rows i
  subtree_kept i within =
      let at_parent : share i new.parent + cond (is_within rows (length rows) i new.parent) new.budget 0 ≡ share_before i new.parent =
      ap (λ b. cond b (row_or_none after new.parent).budget 0 + cond (is_within rows (length rows) i new.parent) new.budget 0) (within_kept i new.parent parent)
      ∙ ap (λ (row : PartitionRow). cond (is_within rows (length rows) i new.parent) row.budget 0 + cond (is_within rows (length rows) i new.parent) new.budget 0) parent_row
      ∙ cond_split (is_within rows (length rows) i new.parent) lower.budget new.budget (row_or_none rows new.parent).budget (omega arith) in
      let elsewhere : (p : ℕ) → p < length rows → p ≢ new.parent → share i p ≡ share_before i p =
      λ p below other. ap (λ b. cond b (row_or_none after p).budget 0) (within_kept i p below)
      ∙ ap (λ (row : PartitionRow). cond (is_within rows (length rows) i p) row.budget 0) (other_row p below other) in
      whole_after i ∙ ap (λ n. sum_by (share i) (range_with_len 0 (length rows)) + n) (share_new i within)
      ∙ places_less (share i) (share_before i) new.parent (cond (is_within rows (length rows) i new.parent) new.budget 0) (length rows) parent elsewhere at_parent

  pub subtree_new : subtree_budget after (length rows) ≡ new.budget
  subtree_new =
      let none : (p : ℕ) → p < length rows → share (length rows) p ≡ 0 =
      λ p below. ap (λ b. cond b (row_or_none after p).budget 0) (within_kept (length rows) p below ∙ none_behind rows earlier (length rows) p below) in
      let own : nat_eq (length rows) (length rows) ≡ true = grind (arith, nat_tests) in
      let here : share (length rows) (length rows) ≡ new.budget =
      ap (λ b. cond (b || is_within after (length rows) (length rows) (row_or_none after (length rows)).parent) (row_or_none after (length rows)).budget 0) own
      ∙ ap (λ (row : PartitionRow). row.budget) new_row in
      let zero_before : sum_by (share (length rows)) (range_with_len 0 (length rows)) ≡ 0 = places_zero (share (length rows)) (length rows) none in
      let whole : subtree_budget after (length rows) ≡ sum_by (share (length rows)) (range_with_len 0 (length rows)) + share (length rows) (length rows) =
      whole_after (length rows) in
      omega arith
