-- The generated partitions make a tree.
use lib.Chars.{codes}
use Rattle.std.proofs.Common.{◌≡◌, ℕ, zero, suc, ◌+◌, ◌-◌, ◌*◌, ◌/◌, ◌%◌, ◌<◌, ◌≤◌, Bool, true, false, cond, List, [], ◌∷◌, length, map, refl, subst, ◌∙◌, arith, All}
use Rattle.std.proofs.lemmas.List.Elements.{All-append, All-get_or, All-from_recursion}
use Rattle.std.proofs.Math.Nat.{mul-le-mul_right, div-add-mod}
use Rattle.std.proofs.lemmas.List.FromFn.{length-map-range_with_len}
use Rattle.std.proofs.lemmas.List.Sums.{sum-map, sum_by-cons}
use Rattle.std.specs.List.{sum_by, range_with_len}
use Rattle.aps_model.specs.Name.{IsName}
use Rattle.aps_model.specs.declared.partition.PartitionRow.{PartitionRow}
use Rattle.aps_model.specs.Limits.{most_partitions, percent}
use Rattle.aps_model.specs.Partition.{row_or_none, no_row, IsFundedRow}
use Rattle.aps_model.specs.Valid.{IsTree, is_within, subtree_budget}
use Rattle.aps_gen.specs.Names.{partition_name}
use Rattle.aps_gen.specs.Generated.{rows, row, share}
use Rattle.aps_gen.proofs.Lists.{All-map_range, sum_by-equal, sum_by-places-le}
use Rattle.aps_gen.proofs.NameFacts.{row_place, is_partition_name, partition_place}
use Rattle.aps_gen.proofs.Rising.{Rising, IsDistinct-from_Rising}

abbrev name_of : PartitionRow → List ℕ
name_of row = row.name

abbrev budget_of : PartitionRow → ℕ
budget_of row = row.budget

record IsFlat (row : PartitionRow) : Type 0 where
  pub parent : row.parent ≡ 0
  pub max : row.max ≡ percent

-- the budgets of some rows are within the budgets of all
subtree_small : (rows : List PartitionRow) (i : ℕ) → i < length rows → All IsFlat rows → sum_by budget_of rows ≡ percent
    → subtree_budget rows i ≤ (row_or_none rows i).max
subtree_small rows i within flat whole =
    let part : subtree_budget rows i ≤ sum_by budget_of rows = sum_by-places-le _ budget_of no_row rows (λ p. cond-le (is_within rows (length rows) i p) (row_or_none rows p).budget) in
    let here = All-get_or IsFlat rows i no_row within flat in
    let max : (row_or_none rows i).max ≡ percent = here.max in
    omega arith
  where
    cond-le : (b : Bool) (n : ℕ) → cond b n 0 ≤ n
    cond-le true n = omega arith
    cond-le false n = omega arith

-- the partition with number i, of k
abbrev shared : ℕ → ℕ → PartitionRow
shared k i = row (partition_name i) (share k)

names-rise : (k n a : ℕ) → a + n ≤ most_partitions → Rising row_place a (a + n) (map name_of (map (shared k) (range_with_len a n)))
names-rise k zero a few = omega arith
names-rise k (suc n) a few =
    let place : row_place (partition_name a) ≡ a = partition_place a (omega arith) in
    let rest : Rising row_place (a + 1) (a + 1 + n) (map name_of (map (shared k) (range_with_len (a + 1) n))) = names-rise k n (a + 1) (omega arith) in
    let low : a + 1 ≡ suc (row_place (partition_name a)) = omega arith in
    let high : a + 1 + n ≡ a + suc n = omega arith in (
      omega arith,
      subst (λ (l : ℕ). Rising row_place l (a + suc n) (map name_of (map (shared k) (range_with_len (a + 1) n)))) low
          (subst (λ (h : ℕ). Rising row_place (a + 1) h (map name_of (map (shared k) (range_with_len (a + 1) n)))) high rest),
    )

module _ (k : ℕ) (some : 1 ≤ k) (few : k ≤ most_partitions) where
  -- the shares leave the root some budget
  shares-le : (k - 1) * share k ≤ percent
  shares-le =
      let fewer : (k - 1) * (percent / k) ≤ k * (percent / k) = mul-le-mul_right (percent / k) (omega arith) in
      let whole : k * (percent / k) + percent % k ≡ percent = div-add-mod percent k in
      omega arith

  share-le : share k ≤ percent
  share-le = omega arith

  flat : All IsFlat (rows k)
  flat = All-append IsFlat (row (codes "System") (percent - (k - 1) * share k) ∷ []) (map (shared k) (range_with_len 1 (k - 1)))
      (All-from_recursion IsFlat (row (codes "System") (percent - (k - 1) * share k) ∷ []) (record { parent = refl; max = refl }, tt))
      (All-map_range IsFlat (shared k) (k - 1) 1 (λ i from to. record { parent = refl; max = refl }))

  funded : All (IsFundedRow percent) (rows k)
  funded =
      let system : IsName (codes "System") = record { some = omega arith; few = omega arith; bytes = refl } in
      All-append (IsFundedRow percent) (row (codes "System") (percent - (k - 1) * share k) ∷ []) (map (shared k) (range_with_len 1 (k - 1)))
      (All-from_recursion (IsFundedRow percent) (row (codes "System") (percent - (k - 1) * share k) ∷ [])
      (record { name = system; budget = omega arith; max = omega arith; critical = omega arith }, tt))
      (All-map_range (IsFundedRow percent) (shared k) (k - 1) 1
      (λ i from to. record { name = is_partition_name i (omega arith); budget = share-le; max = omega arith; critical = omega arith }))

  budgets : sum_by budget_of (rows k) ≡ percent
  budgets =
      let rest : sum_by budget_of (map (shared k) (range_with_len 1 (k - 1))) ≡ (k - 1) * share k = sum_by-equal budget_of (shared k) (share k) (k - 1) 1 (λ i. refl) in
      let left = shares-le in
      sum_by-cons budget_of (row (codes "System") (percent - (k - 1) * share k)) (map (shared k) (range_with_len 1 (k - 1))) ∙ rw rest (omega arith)

  pub rows-tree : IsTree percent (rows k)
  rows-tree =
      let count : length (map (shared k) (range_with_len 1 (k - 1))) ≡ k - 1 = length-map-range_with_len (shared k) 1 (k - 1) in
      let rising = names-rise k (k - 1) 1 (omega arith) in
      record {
        some = omega arith;
        few = omega arith;
        root = record { name = refl; parent = refl; critical = refl; max = refl };
        parents = λ i over within. let here = All-get_or IsFlat (rows k) i no_row within flat in omega (arith, here.parent);
        names = IsDistinct-from_Rising row_place 0 (1 + (k - 1)) (map name_of (rows k)) (omega arith, rising);
        funded = record { each = funded; budgets = sum-map budget_of (rows k) ∙ budgets };
        subtrees = λ i within. subtree_small (rows k) i within flat budgets;
      }

  pub rows-count : length (rows k) ≡ k
  rows-count =
      let count : length (map (shared k) (range_with_len 1 (k - 1))) ≡ k - 1 = length-map-range_with_len (shared k) 1 (k - 1) in
      omega arith
