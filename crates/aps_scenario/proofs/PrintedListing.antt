-- The rows as a text lists them, made from the last row to the first.
use Rattle.std.proofs.Common.{◌≡◌, ℕ, zero, suc, ◌+◌, ◌-◌, ◌<◌, ◌≤◌, List, [], ◌∷◌, ◌++◌, length, get_or, take, drop, refl, ap, sym, subst, ◌∙◌, arith, add-one, append_assoc, take-take, All, slice_set}
use Rattle.std.proofs.lemmas.List.{get_or-take, get_or_default, length-take-le, drop-set-lt}
use Rattle.std.proofs.lemmas.List.Elements.{All-get_or, All-append, All-from_recursion}
use Rattle.std.proofs.Math.Seq.{take-set-lt, drop-cons}
use Rattle.aps_model.specs.declared.partition.PartitionRow.{PartitionRow}
use Rattle.aps_model.specs.Limits.{most_critical}
use Rattle.aps_model.specs.Partition.{row_or_none, no_row, IsFundedRow}
use Rattle.aps_model.specs.Valid.{IsTree}
use Rattle.aps_scenario.specs.PrintedTree.{budget_given_back, rows_before, rows_listed}
use Rattle.aps_scenario.proofs.PrintedTree.{before-tree, length-before}

module _ (v : List PartitionRow) (n : ℕ) (within : suc n < length v) (under : (row_or_none v (suc n)).parent < suc n) where
  abbrev given : PartitionRow
  given = record (row_or_none v (row_or_none v (suc n)).parent) { budget = (row_or_none v (row_or_none v (suc n)).parent).budget + (row_or_none v (suc n)).budget }

  cut : take (suc n) (budget_given_back v (suc n)) ≡ rows_before (take (suc (suc n)) v) (suc n)
  cut =
      let q = (row_or_none v (suc n)).parent in
      let last : row_or_none (take (suc (suc n)) v) (suc n) ≡ row_or_none v (suc n) = get_or-take (suc (suc n)) v (suc n) no_row (omega arith) in
      let above : row_or_none (take (suc (suc n)) v) q ≡ row_or_none v q = get_or-take (suc (suc n)) v q no_row (omega (arith, under)) in
      let shorter : take (suc n) (take (suc (suc n)) v) ≡ take (suc n) v = take-take (suc n) (suc (suc n)) v (omega arith) in
      let seen : budget_given_back (take (suc (suc n)) v) (suc n) ≡ slice_set (take (suc (suc n)) v) q given = rw (last, above) refl in
      take-set-lt (suc n) v q given under
      ∙ ap (λ (xs : List PartitionRow). slice_set xs q given) (sym shorter)
      ∙ sym (take-set-lt (suc n) (take (suc (suc n)) v) q given under)
      ∙ ap (take (suc n)) (sym seen)

  tail : drop (suc n) (budget_given_back v (suc n)) ≡ row_or_none v (suc n) ∷ drop (suc (suc n)) v
  tail =
      let q = (row_or_none v (suc n)).parent in
      drop-set-lt (suc n) v q given under ∙ drop-cons v (suc n) no_row within

  rest-kept : rows_listed n (take (suc n) (budget_given_back v (suc n))) ++ drop (suc n) (budget_given_back v (suc n)) ≡ rows_listed (suc n) (take (suc (suc n)) v) ++ drop (suc (suc n)) v
  rest-kept =
      let front = rows_listed n (rows_before (take (suc (suc n)) v) (suc n)) in
      let last : row_or_none (take (suc (suc n)) v) (suc n) ≡ row_or_none v (suc n) = get_or-take (suc (suc n)) v (suc n) no_row (omega arith) in
      rw (cut, tail)
      (sym (append_assoc front (row_or_none v (suc n) ∷ []) (drop (suc (suc n)) v))
      ∙ ap (λ (row : PartitionRow). (front ++ row ∷ []) ++ drop (suc (suc n)) v) (sym last))

-- a row gives its budget back, and the row before it is next
module _ (parts : ℕ) (v : List PartitionRow) where
  under : (n : ℕ) → suc n < length v → IsTree parts (take (suc (suc n)) v) → (row_or_none v (suc n)).parent < suc n
  under n within tree =
      let size = length-take-le (suc (suc n)) v (omega arith) in
      let last : row_or_none (take (suc (suc n)) v) (suc n) ≡ row_or_none v (suc n) = get_or-take (suc (suc n)) v (suc n) no_row (omega arith) in
      let below = tree.parents (suc n) (omega arith) (omega arith) in
      let same : (row_or_none (take (suc (suc n)) v) (suc n)).parent ≡ (row_or_none v (suc n)).parent = ap (λ (row : PartitionRow). row.parent) last in
      omega arith

  pub next-tree : (child : ℕ) → 0 < child → child < length v → IsTree parts (take (child + 1) v) → IsTree parts (take (child - 1 + 1) (budget_given_back v child))
  next-tree zero some within tree = absurd (omega arith)
  next-tree (suc n) some within tree =
      let more : suc n + 1 ≡ suc (suc n) = omega arith in
      let here : IsTree parts (take (suc (suc n)) v) = subst (λ (m : ℕ). IsTree parts (take m v)) more tree in
      let size = length-take-le (suc (suc n)) v (omega arith) in
      let before = before-tree parts (take (suc (suc n)) v) here n size in
      let count : suc n ≡ suc n - 1 + 1 = omega arith in
      subst (λ (m : ℕ). IsTree parts (take m (budget_given_back v (suc n)))) count (subst (IsTree parts) (sym (cut v n within (under n within here))) before)

  pub next-rest : (child : ℕ) → 0 < child → child < length v → IsTree parts (take (child + 1) v)
      → rows_listed (child - 1) (take (child - 1 + 1) (budget_given_back v child)) ++ drop (child - 1 + 1) (budget_given_back v child) ≡ rows_listed child (take (child + 1) v) ++ drop (child + 1) v
  next-rest zero some within tree = absurd (omega arith)
  next-rest (suc n) some within tree =
      let more : suc n + 1 ≡ suc (suc n) = omega arith in
      let here : IsTree parts (take (suc (suc n)) v) = subst (λ (m : ℕ). IsTree parts (take m v)) more tree in
      let less : suc n - 1 ≡ n = omega arith in
      rw (less, add-one n, more) (rest-kept v n within (under n within here))

-- the rows after a row gave its budget back, as they are written
pub given_back-written : (v : List PartitionRow) (child parent : ℕ) (row again above : PartitionRow) → child < length v → parent < length v
    → row ≡ get_or v child row → again ≡ get_or v child again → parent ≡ again.parent → above ≡ get_or v parent above
    → slice_set v parent (record above { budget = above.budget + row.budget }) ≡ budget_given_back v child
given_back-written v child parent row again above within inside here there under over =
    let is : row ≡ row_or_none v child = here ∙ get_or_default v child row no_row within in
    let same : again ≡ row_or_none v child = there ∙ get_or_default v child again no_row within in
    let place : parent ≡ (row_or_none v child).parent = under ∙ ap (λ (r : PartitionRow). r.parent) same in
    let held : above ≡ row_or_none v (row_or_none v child).parent = over ∙ get_or_default v parent above no_row inside ∙ ap (row_or_none v) place in
    rw (place, held, is) refl

pub parent-within : (parts : ℕ) (v : List PartitionRow) (child parent : ℕ) (row : PartitionRow) → 0 < child → child < length v → IsTree parts (take (child + 1) v)
    → row ≡ get_or v child row → parent ≡ row.parent → parent < length v
parent-within parts v zero parent row some within tree here under = absurd (omega arith)
parent-within parts v (suc n) parent row some within tree here above =
    let more : suc n + 1 ≡ suc (suc n) = omega arith in
    let below = under parts v n within (subst (λ (m : ℕ). IsTree parts (take m v)) more tree) in
    let is : row ≡ row_or_none v (suc n) = here ∙ get_or_default v (suc n) row no_row within in
    let same : row.parent ≡ (row_or_none v (suc n)).parent = ap (λ (r : PartitionRow). r.parent) is in
    omega arith

-- ---- what holds of each row that a text lists

abbrev pub HasParent : ℕ → PartitionRow → Type 0
HasParent bound row = row.parent < bound

abbrev pub HasShortCritical : PartitionRow → Type 0
HasShortCritical row = row.critical ≤ most_critical

pub listed-parents : (parts bound n : ℕ) (rows : List PartitionRow) → length rows ≡ suc n → suc n ≤ bound → IsTree parts rows → All (HasParent bound) (rows_listed n rows)
listed-parents parts bound zero rows count most tree = λ k d inside.
    let root : (row_or_none rows 0).parent ≡ 0 = tree.root.parent in
    let first : k ≡ 0 = omega arith in
    let here : get_or rows k d ≡ row_or_none rows 0 = ap (λ (i : ℕ). get_or rows i d) first ∙ get_or_default rows 0 d no_row (omega arith) in
    let same : (get_or rows k d).parent ≡ (row_or_none rows 0).parent = ap (λ (row : PartitionRow). row.parent) here in
    omega arith
listed-parents parts bound (suc n) rows count most tree =
    let last = tree.parents (suc n) (omega arith) (omega arith) in
    let size = length-before parts rows tree n count in
    All-append (HasParent bound) (rows_listed n (rows_before rows (suc n))) (row_or_none rows (suc n) ∷ [])
    (listed-parents parts bound n (rows_before rows (suc n)) size (omega arith) (before-tree parts rows tree n count))
    (All-from_recursion (HasParent bound) (row_or_none rows (suc n) ∷ []) (omega arith, tt))

pub listed-criticals : (parts n : ℕ) (rows : List PartitionRow) → length rows ≡ suc n → IsTree parts rows → All HasShortCritical (rows_listed n rows)
listed-criticals parts zero rows count tree = λ k d inside. (tree.funded.each k d inside).critical
listed-criticals parts (suc n) rows count tree =
    let last : IsFundedRow parts (row_or_none rows (suc n)) = All-get_or (IsFundedRow parts) rows (suc n) no_row (omega arith) tree.funded.each in
    let size = length-before parts rows tree n count in
    All-append HasShortCritical (rows_listed n (rows_before rows (suc n))) (row_or_none rows (suc n) ∷ [])
    (listed-criticals parts n (rows_before rows (suc n)) size (before-tree parts rows tree n count))
    (All-from_recursion HasShortCritical (row_or_none rows (suc n) ∷ []) (last.critical, tt))
