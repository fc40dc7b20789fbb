-- The rows before the last one took its budget are a tree too, and the last one gives the rows again.
use Rattle.std.proofs.Common.{◌≡◌, ◌≢◌, ℕ, zero, suc, ◌+◌, ◌-◌, ◌<◌, ◌≤◌, inl, inr, Bool, true, false, ◌||◌, cond, List, [], ◌∷◌, ◌++◌, length, map, get_or, take, refl, ap, sym, subst, ◌∙◌, arith, add-one, nat_eq, nat_lt, take-suc, All}
use Rattle.std.proofs.lemmas.Bool.Decides.{nat_tests}
use Rattle.std.proofs.lemmas.Bool.{cases_Bool}
use Rattle.std.proofs.lemmas.List.{length-take-le, length-set, get_or-take, get_or-set_same, get_or-set_other, set-get_or, take_all, take-map}
use Rattle.std.proofs.Math.Seq.{map-set_same, take-set-lt, set-set}
use Rattle.std.proofs.lemmas.List.Elements.{All-get_or, All-take, All-set}
use Rattle.std.proofs.lemmas.List.Sums.{sum-map, sum_by_more, sum_by-set}
use Rattle.std.proofs.lemmas.List.FromFn.{sum_by-map-range_with_len_more}
use Rattle.std.specs.Prelude.{slice_set}
use Rattle.std.specs.List.{sum_by, range_with_len, IsDistinct}
use Rattle.std.specs.Str.{bytes_eq}
use Rattle.aps_model.specs.declared.partition.PartitionRow.{PartitionRow}
use Rattle.aps_model.specs.Partition.{row_or_none, no_row, IsFundedRow}
use Rattle.aps_model.specs.Valid.{IsTree, is_within, subtree_budget}
use Rattle.aps_scenario.specs.Partitions.{rows_with_new}
use Rattle.aps_scenario.proofs.PrintedNames.{IsDistinct-take}
use Rattle.aps_scenario.specs.PrintedTree.{budget_given_back, rows_before}

abbrev budget_of : PartitionRow → ℕ
budget_of row = row.budget

-- ---- sums over places

sum_range-more : (f : ℕ → ℕ) (n : ℕ) → sum_by f (range_with_len 0 (suc n)) ≡ sum_by f (range_with_len 0 n) + f n
sum_range-more f n =
    let more : sum_by f (range_with_len 0 (n + 1)) ≡ sum_by f (range_with_len 0 n) + f n =
    sym (sum-map f (range_with_len 0 (n + 1))) ∙ sum_by-map-range_with_len_more (λ x. x) f 0 n n (omega arith) ∙ ap (λ m. m + f n) (sum-map f (range_with_len 0 n)) in
    subst (λ (m : ℕ). sum_by f (range_with_len 0 m) ≡ sum_by f (range_with_len 0 n) + f n) (add-one n) more

sum_range-same : (f g : ℕ → ℕ) (n : ℕ) → ((p : ℕ) → p < n → f p ≡ g p) → sum_by f (range_with_len 0 n) ≡ sum_by g (range_with_len 0 n)
sum_range-same f g zero same = refl
sum_range-same f g (suc n) same =
    let before = sum_range-same f g n (λ p within. same p (omega arith)) in
    let here = same n (omega arith) in
    sum_range-more f n ∙ rw (before, here) refl ∙ sym (sum_range-more g n)

-- one term is greater, and the others are the same
sum_range-one : (f g : ℕ → ℕ) (q extra n : ℕ) → q < n → ((p : ℕ) → p < n → p ≢ q → f p ≡ g p) → f q ≡ g q + extra
    → sum_by f (range_with_len 0 n) ≡ sum_by g (range_with_len 0 n) + extra
sum_range-one f g q extra zero within same at = absurd (omega arith)
sum_range-one f g q extra (suc n) within same at =
    elim (cases_Bool (nat_lt q n)) [
      | inl test ↦
          let earlier : q < n = grind (arith, nat_tests, test) in
          let before = sum_range-one f g q extra n earlier (λ p inside other. same p (omega arith) other) at in
          let here = same n (omega arith) (λ e. absurd (omega arith)) in
          let m = sum_range-more f n in
          let k = sum_range-more g n in
          omega arith
      | inr test ↦
          let last : n ≤ q = grind (arith, nat_tests, test) in
          let is : q ≡ n = omega arith in
          let before = sum_range-same f g n (λ p inside. same p (omega arith) (λ e. absurd (omega arith))) in
          let here : f n ≡ g n + extra = subst (λ (p : ℕ). f p ≡ g p + extra) is at in
          let m = sum_range-more f n in
          let k = sum_range-more g n in
          omega arith
    ]

-- a term is within its sum
sum_range-term : (f : ℕ → ℕ) (q n : ℕ) → q < n → f q ≤ sum_by f (range_with_len 0 n)
sum_range-term f q zero within = absurd (omega arith)
sum_range-term f q (suc n) within =
    let m = sum_range-more f n in
    elim (cases_Bool (nat_lt q n)) [
      | inl test ↦ let before = sum_range-term f q n (grind (arith, nat_tests, test)) in omega arith
      | inr test ↦
          let last : n ≤ q = grind (arith, nat_tests, test) in
          let is : q ≡ n = omega arith in
          subst (λ (p : ℕ). f p ≤ sum_by f (range_with_len 0 (suc n))) (sym is) (omega arith)
    ]

-- ---- the rows below a row

either_same : (b : Bool) → (b || b) ≡ b
either_same true = refl
either_same false = refl

nat_eq-same : (n : ℕ) → nat_eq n n ≡ true
nat_eq-same n = grind (arith, nat_tests)

cond-plus : (b : Bool) (n m : ℕ) → cond b (n + m) 0 ≡ cond b n 0 + cond b m 0
cond-plus true n m = refl
cond-plus false n m = refl

module _ (parts : ℕ) (rows : List PartitionRow) (tree : IsTree parts rows) where
  abbrev pub parent_of : ℕ → ℕ
  parent_of p = (row_or_none rows p).parent

  parent_below : (m p : ℕ) → p ≤ suc m → p < length rows → parent_of p ≤ m
  parent_below m zero low within = let e : parent_of 0 ≡ 0 = tree.root.parent in omega arith
  parent_below m (suc p) low within = let e = tree.parents (suc p) (omega arith) within in omega arith

  parent_within : (p : ℕ) → p < length rows → parent_of p < length rows
  parent_within zero within = let e : parent_of 0 ≡ 0 = tree.root.parent in omega arith
  parent_within (suc p) within = let e = tree.parents (suc p) (omega arith) within in omega arith

  -- more steps than rows above reach nothing more
  is_within-more : (m i p : ℕ) → p ≤ m → p < length rows → is_within rows (suc m) i p ≡ is_within rows m i p
  is_within-more zero i zero low within = rw (tree.root.parent) (either_same (nat_eq 0 i))
  is_within-more zero i (suc p) low within = absurd (omega arith)
  is_within-more (suc m) i p low within =
      let above = parent_below m p low within in
      ap (λ b. nat_eq p i || b) (is_within-more m i (parent_of p) above (parent_within p within))

  module _ (n : ℕ) (count : length rows ≡ suc (suc n)) where
    abbrev before : List PartitionRow
    before = rows_before rows (suc n)

    abbrev given : PartitionRow
    given = record (row_or_none rows (parent_of (suc n))) { budget = (row_or_none rows (parent_of (suc n))).budget + (row_or_none rows (suc n)).budget }

    earlier : parent_of (suc n) < suc n
    earlier = tree.parents (suc n) (omega arith) (omega arith)

    pub length-before : length before ≡ suc n
    length-before =
        let same = length-set rows (parent_of (suc n)) given in
        length-take-le (suc n) (budget_given_back rows (suc n)) (omega arith)

    pub before-parent : row_or_none before (parent_of (suc n)) ≡ given
    before-parent =
        get_or-take (suc n) (budget_given_back rows (suc n)) (parent_of (suc n)) no_row earlier
        ∙ get_or-set_same rows (parent_of (suc n)) given no_row (omega (arith, earlier))

    before-other : (p : ℕ) → p < suc n → p ≢ parent_of (suc n) → row_or_none before p ≡ row_or_none rows p
    before-other p within other =
        get_or-take (suc n) (budget_given_back rows (suc n)) p no_row within
        ∙ get_or-set_other rows (parent_of (suc n)) p given no_row other

    -- what of a row isn't its budget stays
    pub before-kept : {X : Type 0} (f : PartitionRow → X) → ((row : PartitionRow) (b : ℕ) → f (record row { budget = b }) ≡ f row)
        → (p : ℕ) → p < suc n → f (row_or_none before p) ≡ f (row_or_none rows p)
    before-kept f blind p within =
        elim (cases_Bool (nat_eq p (parent_of (suc n)))) [
          | inl test ↦
              let is : p ≡ parent_of (suc n) = grind (arith, nat_tests, test) in
              subst (λ (q : ℕ). f (row_or_none before q) ≡ f (row_or_none rows q)) (sym is) (ap f before-parent ∙ blind (row_or_none rows (parent_of (suc n))) _)
          | inr test ↦ ap f (before-other p within (λ e. absurd (grind (arith, nat_tests, test, e))))
        ]

    is_within-before : (m i p : ℕ) → p < suc n → is_within before m i p ≡ is_within rows m i p
    is_within-before zero i p within = refl
    is_within-before (suc m) i p within =
        let above : parent_of p ≤ n = parent_below n p (omega arith) (omega arith) in
        let same : (row_or_none before p).parent ≡ parent_of p = before-kept (λ (row : PartitionRow). row.parent) (λ row b. refl) p within in
        ap (λ b. nat_eq p i || b) (ap (is_within before m i) same ∙ is_within-before m i (parent_of p) (omega arith))

    reached : (i p : ℕ) → p < suc n → is_within before (length before) i p ≡ is_within rows (length rows) i p
    reached i p within =
        ap (λ m. is_within before m i p) length-before
        ∙ is_within-before (suc n) i p within
        ∙ sym (is_within-more (suc n) i p (omega arith) (omega arith))
        ∙ ap (λ m. is_within rows m i p) (sym count)

    below : ℕ → ℕ → ℕ
    below i p = cond (is_within rows (length rows) i p) (row_or_none rows p).budget 0

    below_before : ℕ → ℕ → ℕ
    below_before i p = cond (is_within before (length before) i p) (row_or_none before p).budget 0

    -- the last row is below a row exactly where its parent is
    last-reached : (i : ℕ) → i < suc n → is_within rows (length rows) i (suc n) ≡ is_within rows (length rows) i (parent_of (suc n))
    last-reached i within =
        let other : nat_eq (suc n) i ≡ false = grind (arith, nat_tests) in
        let there = earlier in
        ap (λ m. is_within rows m i (suc n)) count
        ∙ ap (λ b. b || is_within rows (suc n) i (parent_of (suc n))) other
        ∙ sym (is_within-more (suc n) i (parent_of (suc n)) (omega arith) (omega arith))
        ∙ ap (λ m. is_within rows m i (parent_of (suc n))) (sym count)

    pub subtree_budget-before : (i : ℕ) → i < suc n → subtree_budget before i ≡ subtree_budget rows i
    unfolding below below_before
    subtree_budget-before i within =
        let q = parent_of (suc n) in
        let there = earlier in
        let at : below_before i q ≡ below i q + below i (suc n) =
        rw (reached i q earlier, before-parent, last-reached i within) (cond-plus (is_within rows (length rows) i q) (row_or_none rows q).budget (row_or_none rows (suc n)).budget) in
        let same : (p : ℕ) → p < suc n → p ≢ q → below_before i p ≡ below i p =
        λ p inside other. rw (reached i p inside, before-other p inside other) refl in
        ap (λ m. sum_by (below_before i) (range_with_len 0 m)) length-before
        ∙ sum_range-one (below_before i) (below i) q (below i (suc n)) (suc n) earlier same at
        ∙ sym (sum_range-more (below i) (suc n))
        ∙ ap (λ m. sum_by (below i) (range_with_len 0 m)) (sym count)

    -- ---- what holds of the rows before

    -- the parent has room for what it gets back
    room : given.budget ≤ given.max
    unfolding below_before
    room =
        let q = parent_of (suc n) in
        let there = earlier in
        let size = length-before in
        let itself : is_within before (length before) q q ≡ true = ap (λ m. is_within before m q q) length-before ∙ ap (λ b. b || is_within before n q (row_or_none before q).parent) (nat_eq-same q) in
        let own : below_before q q ≡ given.budget = ap (λ b. cond b (row_or_none before q).budget 0) itself ∙ ap budget_of before-parent in
        let term : below_before q q ≤ subtree_budget before q = sum_range-term (below_before q) q (length before) (omega arith) in
        let same = subtree_budget-before q earlier in
        let most = tree.subtrees q (omega arith) in
        omega arith

    all-but-last : sum_by budget_of rows ≡ sum_by budget_of (take (suc n) rows) + (row_or_none rows (suc n)).budget
    all-but-last =
        let all : take (suc n + 1) rows ≡ rows = take_all (suc n + 1) rows (omega arith) in
        ap (sum_by budget_of) (sym all) ∙ sum_by_more budget_of rows (suc n) no_row (omega arith)

    budgets-before : sum_by budget_of before ≡ parts
    budgets-before =
        let q = parent_of (suc n) in
        let there = earlier in
        let size = length-take-le (suc n) rows (omega arith) in
        let set_in : before ≡ slice_set (take (suc n) rows) q given = take-set-lt (suc n) rows q given earlier in
        let old : get_or (take (suc n) rows) q no_row ≡ row_or_none rows q = get_or-take (suc n) rows q no_row earlier in
        let moved = sum_by-set budget_of (take (suc n) rows) q given no_row (omega arith) in
        let moved_here : sum_by budget_of (slice_set (take (suc n) rows) q given) + (row_or_none rows q).budget ≡ sum_by budget_of (take (suc n) rows) + given.budget = rw old at moved in
        let whole : sum_by budget_of rows ≡ parts = sym (sum-map budget_of rows) ∙ tree.funded.budgets in
        let last = all-but-last in
        ap (sum_by budget_of) set_in ∙ omega arith

    pub names-before : map (λ (row : PartitionRow). row.name) before ≡ take (suc n) (map (λ (row : PartitionRow). row.name) rows)
    names-before =
        sym (take-map (λ (row : PartitionRow). row.name) (suc n) (budget_given_back rows (suc n)))
        ∙ ap (take (suc n)) (map-set_same (λ (row : PartitionRow). row.name) rows (parent_of (suc n)) given no_row refl)

    funded-before : All (IsFundedRow parts) before
    funded-before =
        let there = earlier in
        let old : IsFundedRow parts (row_or_none rows (parent_of (suc n))) = All-get_or (IsFundedRow parts) rows (parent_of (suc n)) no_row (omega arith) tree.funded.each in
        All-take (IsFundedRow parts) (suc n) (budget_given_back rows (suc n))
        (All-set (IsFundedRow parts) rows (parent_of (suc n)) given (record { name = old.name; budget = room; max = old.max; critical = old.critical }) tree.funded.each)

    pub before-tree : IsTree parts before
    before-tree =
        let there = earlier in
        let few = tree.few in
        let size = length-before in
        record {
          some = omega arith;
          few = omega arith;
          root = record {
            name = before-kept (λ (row : PartitionRow). row.name) (λ row b. refl) 0 (omega arith) ∙ tree.root.name;
            parent = before-kept (λ (row : PartitionRow). row.parent) (λ row b. refl) 0 (omega arith) ∙ tree.root.parent;
            critical = before-kept (λ (row : PartitionRow). row.critical) (λ row b. refl) 0 (omega arith) ∙ tree.root.critical;
            max = before-kept (λ (row : PartitionRow). row.max) (λ row b. refl) 0 (omega arith) ∙ tree.root.max;
          };
          parents = λ i over within.
              let same = before-kept (λ (row : PartitionRow). row.parent) (λ row b. refl) i (omega arith) in
              let old = tree.parents i over (omega arith) in
              omega arith;
          names = subst (IsDistinct bytes_eq) (sym names-before) (IsDistinct-take bytes_eq (suc n) (map (λ (row : PartitionRow). row.name) rows) tree.names);
          funded = record { each = funded-before; budgets = sum-map budget_of before ∙ budgets-before };
          subtrees = λ i within.
              let same = subtree_budget-before i (omega arith) in
              let kept = before-kept (λ (row : PartitionRow). row.max) (λ row b. refl) i (omega arith) in
              let old = tree.subtrees i (omega arith) in
              omega arith;
        }

    -- the last row takes its budget from its parent again
    pub before-gives : rows_with_new before (row_or_none rows (suc n)) ≡ rows
    before-gives =
        let q = parent_of (suc n) in
        let there = earlier in
        let last = row_or_none rows (suc n) in
        let taken : (row_or_none before q).budget - last.budget ≡ (row_or_none rows q).budget = ap (λ (row : PartitionRow). row.budget - last.budget) before-parent ∙ omega arith in
        let lower : PartitionRow = record (row_or_none before q) { budget = (row_or_none before q).budget - last.budget } in
        let as_was : lower ≡ row_or_none rows q = rw (taken, before-parent) refl in
        let set_in : before ≡ slice_set (take (suc n) rows) q given = take-set-lt (suc n) rows q given earlier in
        let old : row_or_none rows q ≡ get_or (take (suc n) rows) q no_row = sym (get_or-take (suc n) rows q no_row earlier) in
        let front : slice_set before q lower ≡ take (suc n) rows =
        ap (λ (xs : List PartitionRow). slice_set xs q lower) set_in
        ∙ set-set (take (suc n) rows) q given lower
        ∙ ap (slice_set (take (suc n) rows) q) (as_was ∙ old)
        ∙ set-get_or (take (suc n) rows) q no_row in
        let all : take (suc (suc n)) rows ≡ rows = take_all (suc (suc n)) rows (omega arith) in
        ap (λ (xs : List PartitionRow). xs ++ last ∷ []) front ∙ sym (take-suc rows (suc n) no_row (omega arith)) ∙ all
