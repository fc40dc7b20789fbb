-- What creating, modifying and cancelling leave of a tree of rows.
use Rattle.std.proofs.Common.{◌≡◌, ℕ, zero, suc, ◌+◌, ◌-◌, ◌<◌, ◌≤◌, List, [], ◌∷◌, ◌++◌, length, map, All, refl, sym, ◌∙◌, ap, subst, Bool, true, false, cond, ◌&&◌, ◌||◌, nat_eq, nat_lt, nat_le, Option, Some, None, is_some, unwrap_or, slice_set, arith, inl, inr, length-append, length-set}
use Rattle.std.specs.List.{AllByRecursion, IsDistinct, position_or_len, sum_by}
use Rattle.std.specs.Str.{bytes_eq}
use Rattle.std.proofs.Math.Seq.{map-set_same}
use Rattle.std.proofs.lemmas.Bool.{cases_eq, cases_lt, eqb-false, ltb-false, leb-false, or_parts, and_cases}
use Rattle.std.proofs.lemmas.List.{get_or-set_same, get_or-set_other, get_or_append_left, get_or_push, set_past, set-set, map-append}
use Rattle.std.proofs.lemmas.List.Elements.{All-get_or, All-map, All-push, All-set, recursion_from_All}
use Rattle.std.proofs.lemmas.List.Sums.{fails_before_first, sum-map, sum_by-set, sum_by_push}
use Rattle.aps_model.specs.declared.partition.PartitionRow.{PartitionRow}
use Rattle.aps_model.specs.declared.partition.TreeRefusal.{TreeRefusal}
use Rattle.aps_model.specs.Limits.{most_critical, most_partitions}
use Rattle.laws_runs.specs.Rows.{AreRowsKept, IsNamedTree}
use Rattle.aps_model.specs.Name.{IsName}
use Rattle.aps_model.specs.Partition.{AreRows, IsFundedRow, no_row, partition_named, row_or_none}
use Rattle.aps_model.specs.Tree.{create_refusal, is_over_max, modify_refusal, row_modified, rows_cancelled, rows_created, rows_modified}

-- ---- causes

-- where no cause is given, the first test fails and the other causes aren't given either
no_cause : (t : Bool) (why : TreeRefusal) (o : Option TreeRefusal) → cond t (Some why) o ≡ None → (t ≡ false) × (o ≡ None)
no_cause true why o e = absurd cc
no_cause false why o e = (refl, e)

none_found : (o : Option ℕ) → is_some o ≡ false → o ≡ None
none_found None e = refl
none_found (Some n) e = absurd cc

record MayCreate (parts : ℕ) (rows : List PartitionRow) (name : List ℕ) (p budget critical max : ℕ) : Type 0 where
  place : p < length rows
  free : partition_named rows name ≡ None
  room : length rows < most_partitions
  has : budget ≤ (row_or_none rows p).budget
  few : critical ≤ most_critical
  within : budget ≤ max
  whole : max ≤ parts

may_create : (parts : ℕ) (rows : List PartitionRow) (name : List ℕ) (p budget critical max : ℕ) → create_refusal parts rows name p budget critical max ≡ None → MayCreate parts rows name p budget critical max
may_create parts rows name p budget critical max e =
    let a = no_cause (nat_le (length rows) p) _ _ e in
    let b = no_cause (is_some (partition_named rows name)) _ _ a.1 in
    let c = no_cause (nat_le most_partitions (length rows)) _ _ b.1 in
    let d = no_cause (nat_lt (row_or_none rows p).budget budget) _ _ c.1 in
    let f = no_cause (nat_lt most_critical critical) _ _ d.1 in
    let g = or_parts (nat_lt max budget) (nat_lt parts max) (no_cause (nat_lt max budget || nat_lt parts max) _ _ f.1).0 in
    record {
      place = leb-false (length rows) p a.0;
      free = none_found (partition_named rows name) b.0;
      room = leb-false most_partitions (length rows) c.0;
      has = ltb-false (row_or_none rows p).budget budget d.0;
      few = ltb-false most_critical critical f.0;
      within = ltb-false max budget g.0;
      whole = ltb-false parts max g.1;
    }

record MayModify (parts : ℕ) (rows : List PartitionRow) (p : ℕ) (budget critical max : Option ℕ) : Type 0 where
  place : p < length rows
  root : p ≡ 0 → budget ≡ None
  has : unwrap_or budget (row_or_none rows p).budget - (row_or_none rows p).budget ≤ (row_or_none rows (row_or_none rows p).parent).budget
  few : unwrap_or critical 0 ≤ most_critical
  within : (row_or_none (rows_modified rows p budget critical max) p).budget ≤ (row_or_none (rows_modified rows p budget critical max) p).max
  parent_within : (row_or_none (rows_modified rows p budget critical max) (row_or_none rows p).parent).budget ≤ (row_or_none (rows_modified rows p budget critical max) (row_or_none rows p).parent).max
  whole : unwrap_or max 0 ≤ parts

may_modify : (parts : ℕ) (rows : List PartitionRow) (p : ℕ) (budget critical max : Option ℕ) → modify_refusal parts rows p budget critical max ≡ None → MayModify parts rows p budget critical max
may_modify parts rows p budget critical max e =
    let row = row_or_none rows p in
    let parent = row_or_none rows row.parent in
    let after = rows_modified rows p budget critical max in
    let a = no_cause (nat_le (length rows) p) _ _ e in
    let b = no_cause (is_some budget && nat_eq p 0) _ _ a.1 in
    let c = no_cause (nat_lt parent.budget (unwrap_or budget row.budget - row.budget)) _ _ b.1 in
    let d = no_cause (nat_lt most_critical (unwrap_or critical 0)) _ _ c.1 in
    let f = no_cause (is_over_max (row_or_none after p)) _ _ d.1 in
    let g = no_cause (is_over_max (row_or_none after row.parent)) _ _ f.1 in
    let i = no_cause (nat_lt parts (unwrap_or max 0)) _ _ g.1 in
    record {
      place = leb-false (length rows) p a.0;
      root = λ zero. elim (and_cases (is_some budget) (nat_eq p 0) b.0) [
        | inl none ↦ none_found budget none
        | inr not_zero ↦ absurd (eqb-false p 0 not_zero zero)
      ];
      has = ltb-false parent.budget (unwrap_or budget row.budget - row.budget) c.0;
      few = ltb-false most_critical (unwrap_or critical 0) d.0;
      within = ltb-false (row_or_none after p).max (row_or_none after p).budget f.0;
      parent_within = ltb-false (row_or_none after row.parent).max (row_or_none after row.parent).budget g.0;
      whole = ltb-false parts (unwrap_or max 0) i.0;
    }

-- ---- a row set, with its name and its parent

-- another row of the same name and parent in its place leaves every row's name and parent
pub set_kept : (rows : List PartitionRow) (p : ℕ) (row : PartitionRow) → row.name ≡ (row_or_none rows p).name → row.parent ≡ (row_or_none rows p).parent → AreRowsKept rows (slice_set rows p row)
set_kept rows p row name parent = record {
  count = let n = length-set rows p row in omega (arith, n);
  name = λ i below. elim (cases_eq i p) [
    | inl same ↦
        ap (λ k. (row_or_none (slice_set rows p row) k).name) same ∙ ap (λ (r : PartitionRow). r.name) (get_or-set_same rows p row no_row (subst (λ k. k < length rows) same below)) ∙ name
        ∙ ap (λ k. (row_or_none rows k).name) (sym same)
    | inr ne ↦ ap (λ (r : PartitionRow). r.name) (get_or-set_other rows p i row no_row ne)
  ];
  parent = λ i below. elim (cases_eq i p) [
    | inl same ↦
        ap (λ k. (row_or_none (slice_set rows p row) k).parent) same ∙ ap (λ (r : PartitionRow). r.parent) (get_or-set_same rows p row no_row (subst (λ k. k < length rows) same below)) ∙ parent
        ∙ ap (λ k. (row_or_none rows k).parent) (sym same)
    | inr ne ↦ ap (λ (r : PartitionRow). r.parent) (get_or-set_other rows p i row no_row ne)
  ];
}

pub kept_trans : (a b c : List PartitionRow) → AreRowsKept a b → AreRowsKept b c → AreRowsKept a c
kept_trans a b c m n = record {
  count = let k = m.count in let l = n.count in omega arith;
  name = λ i below. let l = m.count in n.name i (omega (arith, below, l)) ∙ m.name i below;
  parent = λ i below. let l = m.count in n.parent i (omega (arith, below, l)) ∙ m.parent i below;
}

pub kept_same : (rows : List PartitionRow) → AreRowsKept rows rows
kept_same rows = record { count = omega arith; name = λ i below. refl; parent = λ i below. refl }

push_kept : (rows : List PartitionRow) (row : PartitionRow) → AreRowsKept rows (rows ++ row ∷ [])
push_kept rows row = record {
  count = let n = length-append rows (row ∷ []) in omega (arith, n);
  name = λ i below. ap (λ (r : PartitionRow). r.name) (get_or_append_left rows (row ∷ []) no_row i below);
  parent = λ i below. ap (λ (r : PartitionRow). r.parent) (get_or_append_left rows (row ∷ []) no_row i below);
}

-- ---- names

set_named : (rows : List PartitionRow) (p : ℕ) (row : PartitionRow) → row.name ≡ (row_or_none rows p).name → row.parent ≡ (row_or_none rows p).parent → IsNamedTree rows → IsNamedTree (slice_set rows p row)
set_named rows p row name parent m =
    let k = set_kept rows p row name parent in
    let n = length-set rows p row in
    record {
      some = let l = m.some in omega (arith, n, l);
      few = let l = m.few in omega (arith, n, l);
      root_name = k.name 0 m.some ∙ m.root_name;
      root_parent = k.parent 0 m.some ∙ m.root_parent;
      parents = λ i pos below. let inside : i < length rows = omega (arith, n, below) in subst (λ q. q < i) (sym (k.parent i inside)) (m.parents i pos inside);
      names = subst (IsDistinct bytes_eq) (sym (map-set_same (λ (r : PartitionRow). r.name) rows p row no_row name)) m.names;
    }

distinct_push : (names : List (List ℕ)) (name : List ℕ) → IsDistinct bytes_eq names → AllByRecursion (λ other. bytes_eq other name ≡ false) names → IsDistinct bytes_eq (names ++ name ∷ [])
unfolding IsDistinct
distinct_push [] name distinct others = (tt, tt)
distinct_push (first ∷ names) name distinct others = (all_push names distinct.0, distinct_push names name distinct.1 others.1)
  where
    all_push : (xs : List (List ℕ)) → AllByRecursion (λ y. bytes_eq first y ≡ false) xs → AllByRecursion (λ y. bytes_eq first y ≡ false) (xs ++ name ∷ [])
    all_push [] a = (others.0, tt)
    all_push (x ∷ xs) a = (a.0, all_push xs a.1)

-- each row has another name
abbrev IsFree : List PartitionRow → List ℕ → Type 0
IsFree rows name = AllByRecursion (λ other. bytes_eq other name ≡ false) (map (λ (row : PartitionRow). row.name) rows)

free_name : (rows : List PartitionRow) (name : List ℕ) → partition_named rows name ≡ None → IsFree rows name
free_name rows name free =
    let p : PartitionRow → Bool = λ (row : PartitionRow). bytes_eq row.name name in
    let none : length rows ≤ position_or_len p rows = by_test (nat_lt (position_or_len p rows) (length rows)) free (ltb-false (position_or_len p rows) (length rows)) in
    recursion_from_All (λ other. bytes_eq other name ≡ false) (map (λ (row : PartitionRow). row.name) rows)
    (All-map (λ other. bytes_eq other name ≡ false) (λ (row : PartitionRow). row.name) rows
    (λ k d below. fails_before_first p rows k d (omega (arith, below, none))))
  where
    by_test : {P : Type 0} (t : Bool) → cond t (Some (position_or_len (λ (row : PartitionRow). bytes_eq row.name name) rows)) None ≡ None → (t ≡ false → P) → P
    by_test true e f = absurd cc
    by_test false e f = f refl

push_named : (rows : List PartitionRow) (row : PartitionRow) → row.parent < length rows → length rows < most_partitions → IsFree rows row.name → IsNamedTree rows → IsNamedTree (rows ++ row ∷ [])
push_named rows row parent room free m =
    let k = push_kept rows row in
    let n = length-append rows (row ∷ []) in
    record {
      some = let l = m.some in omega (arith, n, l);
      few = omega (arith, n, room);
      root_name = k.name 0 m.some ∙ m.root_name;
      root_parent = k.parent 0 m.some ∙ m.root_parent;
      parents = λ i pos below. elim (cases_lt i (length rows)) [
        | inl inside ↦ subst (λ q. q < i) (sym (k.parent i inside)) (m.parents i pos inside)
        | inr past ↦
            let last : i ≡ length rows = omega (arith, n, below, past) in
            subst (λ (r : PartitionRow). r.parent < i) (sym (get_or_push rows row no_row i (sym last))) (subst (λ j. row.parent < j) (sym last) parent)
      ];
      names = subst (IsDistinct bytes_eq) (sym (map-append (λ (r : PartitionRow). r.name) rows (row ∷ []))) (distinct_push (map (λ (r : PartitionRow). r.name) rows) row.name m.names free);
    }

-- ---- the budgets

-- the sum of the budgets
abbrev funds : List PartitionRow → ℕ
funds rows = sum_by (λ (row : PartitionRow). row.budget) rows

pub record AreFunded (parts : ℕ) (rows : List PartitionRow) : Type 0 where
  each : All (IsFundedRow parts) rows
  total : funds rows ≡ parts

funded_of : (parts : ℕ) (rows : List PartitionRow) → AreRows parts rows → AreFunded parts rows
funded_of parts rows m = record { each = m.each; total = sym (sum-map (λ (row : PartitionRow). row.budget) rows) ∙ m.budgets }

rows_of : (parts : ℕ) (rows : List PartitionRow) → AreFunded parts rows → AreRows parts rows
rows_of parts rows m = record { each = m.each; budgets = sum-map (λ (row : PartitionRow). row.budget) rows ∙ m.total }

-- the total after a row is set
set_funds : (rows : List PartitionRow) (p : ℕ) (row : PartitionRow) → p < length rows → funds (slice_set rows p row) + (row_or_none rows p).budget ≡ funds rows + row.budget
set_funds rows p row below = sum_by-set (λ (r : PartitionRow). r.budget) rows p row no_row below

-- ---- the three changes

pub created_tree : (parts : ℕ) (rows : List PartitionRow) (name : List ℕ) (p budget critical max : ℕ) → IsName name → create_refusal parts rows name p budget critical max ≡ None
    → IsNamedTree rows → AreRows parts rows → IsNamedTree (rows_created rows name p budget critical max) × AreRows parts (rows_created rows name p budget critical max)
created_tree parts rows name p budget critical max named none tree funded =
    let m = may_create parts rows name p budget critical max none in
    let f = funded_of parts rows funded in
    let old = row_or_none rows p in
    let giver : PartitionRow = record old { budget = old.budget - budget } in
    let row : PartitionRow = record { name = name; parent = p; budget = budget; critical = critical; max = max } in
    let mid = slice_set rows p giver in
    let n : length mid ≡ length rows = length-set rows p giver in
    let was : IsFundedRow parts old = All-get_or (IsFundedRow parts) rows p no_row m.place f.each in
    let less : giver.budget ≤ giver.max = let l = was.budget in omega arith in
    let gave = set_funds rows p giver m.place in
    let total = sum_by_push (λ (r : PartitionRow). r.budget) mid row in
    let free : IsFree mid name =
    subst (AllByRecursion (λ other. bytes_eq other name ≡ false)) (sym (map-set_same (λ (r : PartitionRow). r.name) rows p giver no_row refl)) (free_name rows name m.free) in (
      push_named mid row (subst (λ k. p < k) (sym n) m.place) (subst (λ k. k < most_partitions) (sym n) m.room) free (set_named rows p giver refl refl tree),
      rows_of parts (mid ++ row ∷ []) (record {
        each = All-push (IsFundedRow parts) mid row
            (All-set (IsFundedRow parts) rows p giver (record { name = was.name; budget = less; max = was.max; critical = was.critical }) f.each)
            (record { name = named; budget = m.within; max = m.whole; critical = m.few });
        total = let h = m.has in let t = f.total in omega (arith, gave, total, h, t);
      }),
    )

-- another row in its place, of the same name, parent and budget
pub set_tree : (parts : ℕ) (rows : List PartitionRow) (p : ℕ) (row : PartitionRow) → p < length rows → row.name ≡ (row_or_none rows p).name → row.parent ≡ (row_or_none rows p).parent → row.budget ≡ (row_or_none rows p).budget
    → (IsFundedRow parts (row_or_none rows p) → IsFundedRow parts row) → IsNamedTree rows → AreRows parts rows → IsNamedTree (slice_set rows p row) × AreRows parts (slice_set rows p row)
set_tree parts rows p row below name parent budget fits tree funded =
    let f = funded_of parts rows funded in
    let sum_set = set_funds rows p row below in (
      set_named rows p row name parent tree,
      rows_of parts (slice_set rows p row) (record {
        each = All-set (IsFundedRow parts) rows p row (fits (All-get_or (IsFundedRow parts) rows p no_row below f.each)) f.each;
        total = let t = f.total in omega (arith, sum_set, budget, t);
      }),
    )

given_or : (given : Option ℕ) (old most : ℕ) → unwrap_or given 0 ≤ most → old ≤ most → unwrap_or given old ≤ most
given_or None old most a b = b
given_or (Some n) old most a b = a

-- a row whose parent gives what it takes
modified_child : (parts : ℕ) (rows : List PartitionRow) (p : ℕ) (budget critical max : Option ℕ) → 0 < p → MayModify parts rows p budget critical max
    → IsNamedTree rows → AreRows parts rows → IsNamedTree (rows_modified rows p budget critical max) × AreRows parts (rows_modified rows p budget critical max)
modified_child parts rows p budget critical max pos m tree funded =
    let f = funded_of parts rows funded in
    let old = row_or_none rows p in
    let q = old.parent in
    let parent = row_or_none rows q in
    let giver : PartitionRow = record parent { budget = parent.budget + old.budget - unwrap_or budget old.budget } in
    let row : PartitionRow = row_modified old budget critical max in
    let mid = slice_set rows q giver in
    let q_below : q < p = tree.parents p pos m.place in
    let q_in : q < length rows = let l = m.place in omega (arith, q_below, l) in
    let n : length mid ≡ length rows = length-set rows q giver in
    let p_in : p < length mid = subst (λ k. p < k) (sym n) m.place in
    let at_p : row_or_none mid p ≡ old = get_or-set_other rows q p giver no_row (λ e. absurd (omega (arith, e, q_below))) in
    let after_p : row_or_none (slice_set mid p row) p ≡ row = get_or-set_same mid p row no_row p_in in
    let after_q : row_or_none (slice_set mid p row) q ≡ giver = get_or-set_other mid p q row no_row (λ e. absurd (omega (arith, e, q_below))) ∙ get_or-set_same rows q giver no_row q_in in
    let was_p : IsFundedRow parts old = All-get_or (IsFundedRow parts) rows p no_row m.place f.each in
    let was_q : IsFundedRow parts parent = All-get_or (IsFundedRow parts) rows q no_row q_in f.each in
    let row_within : row.budget ≤ row.max = subst (λ (r : PartitionRow). r.budget ≤ r.max) after_p m.within in
    let giver_within : giver.budget ≤ giver.max = subst (λ (r : PartitionRow). r.budget ≤ r.max) after_q m.parent_within in
    let sum_q = set_funds rows q giver q_in in
    let sum_p : funds (slice_set mid p row) + old.budget ≡ funds mid + row.budget = subst (λ (r : PartitionRow). funds (slice_set mid p row) + r.budget ≡ funds mid + row.budget) at_p (set_funds mid p row p_in) in (
      set_named mid p row (ap (λ (r : PartitionRow). r.name) (sym at_p)) (ap (λ (r : PartitionRow). r.parent) (sym at_p)) (set_named rows q giver refl refl tree),
      rows_of parts (slice_set mid p row) (record {
        each = All-set (IsFundedRow parts) mid p row
            (record { name = was_p.name; budget = row_within; max = given_or max old.max parts m.whole was_p.max; critical = given_or critical old.critical most_critical m.few was_p.critical })
            (All-set (IsFundedRow parts) rows q giver (record { name = was_q.name; budget = giver_within; max = was_q.max; critical = was_q.critical }) f.each);
        total = let h = m.has in let t = f.total in omega (arith, sum_q, sum_p, h, t);
      }),
    )

-- row 0 is its own parent, and its budget isn't given
modified_root : (parts : ℕ) (rows : List PartitionRow) (critical max : Option ℕ) → MayModify parts rows 0 None critical max
    → IsNamedTree rows → AreRows parts rows → IsNamedTree (rows_modified rows 0 None critical max) × AreRows parts (rows_modified rows 0 None critical max)
modified_root parts rows critical max m tree funded =
    let old = row_or_none rows 0 in
    let row : PartitionRow = row_modified old None critical max in
    let mid : ℕ → List PartitionRow = λ q. slice_set rows q (record (row_or_none rows q) { budget = (row_or_none rows q).budget + old.budget - old.budget }) in
    let whole : rows_modified rows 0 None critical max ≡ slice_set rows 0 row =
    ap (λ q. slice_set (mid q) 0 row) tree.root_parent ∙ set-set rows 0 _ row in
    let after : row_or_none (rows_modified rows 0 None critical max) 0 ≡ row = ap (λ l. row_or_none l 0) whole ∙ get_or-set_same rows 0 row no_row m.place in
    let within : row.budget ≤ row.max = subst (λ (r : PartitionRow). r.budget ≤ r.max) after m.within in
    subst (λ l. IsNamedTree l × AreRows parts l) (sym whole)
    (set_tree parts rows 0 row m.place refl refl refl
    (λ was. record { name = was.name; budget = within; max = given_or max old.max parts m.whole was.max; critical = given_or critical old.critical most_critical m.few was.critical })
    tree funded)

pub modified_tree : (parts : ℕ) (rows : List PartitionRow) (p : ℕ) (budget critical max : Option ℕ) → modify_refusal parts rows p budget critical max ≡ None
    → IsNamedTree rows → AreRows parts rows → IsNamedTree (rows_modified rows p budget critical max) × AreRows parts (rows_modified rows p budget critical max)
modified_tree parts rows p budget critical max none tree funded = by_place p none
  where
    by_none : (o : Option ℕ) → o ≡ None → modify_refusal parts rows 0 o critical max ≡ None → IsNamedTree (rows_modified rows 0 o critical max) × AreRows parts (rows_modified rows 0 o critical max)
    by_none None e none = modified_root parts rows critical max (may_modify parts rows 0 None critical max none) tree funded
    by_none (Some b) e none = absurd cc

    by_place : (p : ℕ) → modify_refusal parts rows p budget critical max ≡ None → IsNamedTree (rows_modified rows p budget critical max) × AreRows parts (rows_modified rows p budget critical max)
    by_place zero none = by_none budget ((may_modify parts rows 0 budget critical max none).root refl) none
    by_place (suc p) none = modified_child parts rows (suc p) budget critical max (omega arith) (may_modify parts rows (suc p) budget critical max none) tree funded

pub cancelled_tree : (parts : ℕ) (rows : List PartitionRow) (p : ℕ) → IsNamedTree rows → AreRows parts rows → IsNamedTree (rows_cancelled rows p) × AreRows parts (rows_cancelled rows p)
cancelled_tree parts rows p tree funded = elim (cases_lt p (length rows)) [
  | inl below ↦ set_tree parts rows p _ below refl refl refl (λ was. record { name = was.name; budget = was.budget; max = was.max; critical = omega arith }) tree funded
  | inr past ↦ subst (λ l. IsNamedTree l × AreRows parts l) (sym (set_past rows p _ past)) (tree, funded)
]

-- ---- names and parents stay

pub created_kept : (rows : List PartitionRow) (name : List ℕ) (p budget critical max : ℕ) → AreRowsKept rows (rows_created rows name p budget critical max)
created_kept rows name p budget critical max = kept_trans rows _ _ (set_kept rows p _ refl refl) (push_kept _ _)

pub cancelled_kept : (rows : List PartitionRow) (p : ℕ) → AreRowsKept rows (rows_cancelled rows p)
cancelled_kept rows p = set_kept rows p _ refl refl

pub modified_kept : (rows : List PartitionRow) (p : ℕ) (budget critical max : Option ℕ) → p < length rows → AreRowsKept rows (rows_modified rows p budget critical max)
modified_kept rows p budget critical max below =
    let first = set_kept rows (row_or_none rows p).parent (record (row_or_none rows (row_or_none rows p).parent) { budget = (row_or_none rows (row_or_none rows p).parent).budget + (row_or_none rows p).budget - unwrap_or budget (row_or_none rows p).budget }) refl refl in
    kept_trans rows _ _ first (set_kept _ p (row_modified (row_or_none rows p) budget critical max) (sym (first.name p below)) (sym (first.parent p below)))

pub modified_place : (parts : ℕ) (rows : List PartitionRow) (p : ℕ) (budget critical max : Option ℕ) → modify_refusal parts rows p budget critical max ≡ None → p < length rows
modified_place parts rows p budget critical max none = (may_modify parts rows p budget critical max none).place
