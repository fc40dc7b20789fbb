-- The partition tree with ten times the parts: the same causes of refusal, and rows that are ten times those.
use Rattle.std.proofs.Common.{◌≡◌, ℕ, ◌+◌, ◌-◌, ◌*◌, ◌++◌, List, [], ◌∷◌, length, map, refl, sym, ◌∙◌, ap, arith, Bool, true, false, if◌then◌else◌, ◌&&◌, ◌||◌, nat_eq, nat_lt, nat_le, Option, Some, None, is_some, unwrap_or, slice_set}
use Rattle.std.specs.Option.{option_map}
use Rattle.std.proofs.lemmas.List.{length-map, map-append, map-set}
use Rattle.aps_model.specs.declared.partition.PartitionRow.{PartitionRow}
use Rattle.aps_model.specs.declared.partition.TreeRefusal.{TreeRefusal}
use Rattle.aps_model.specs.declared.partition.TreeRefusal.TheVariants.{NoSuchPartition, NameTaken, TooMany, NoParent, OverBudget, BadCritical, BadMax}
use Rattle.aps_model.specs.Limits.{most_critical, most_partitions}
use Rattle.aps_model.specs.Partition.{partition_named, row_or_none}
use Rattle.aps_model.specs.Tree.{create_refusal, is_over_max, modify_refusal, row_modified, rows_created, rows_modified}
use Rattle.aps_model.specs.Upgrade.{row_times_ten, times_ten}
use Rattle.laws_upgrade.proofs.Merits.{lt_ten}
use Rattle.laws_upgrade.proofs.Moves.{named_ten}
use Rattle.laws_upgrade.proofs.Picks.{row_ten}

abbrev pub cause_times_ten : TreeRefusal → TreeRefusal
cause_times_ten (OverBudget have) = OverBudget (times_ten have)
cause_times_ten (BadMax partition least) = BadMax partition (times_ten least)
cause_times_ten why = why

minus_ten : (a b : ℕ) → a * 10 - b * 10 ≡ (a - b) * 10
minus_ten a b = omega arith

given_ten : (given : Option ℕ) (otherwise : ℕ) → unwrap_or (option_map times_ten given) (times_ten otherwise) ≡ times_ten (unwrap_or given otherwise)
given_ten None otherwise = refl
given_ten (Some n) otherwise = refl

is_given : (given : Option ℕ) → is_some (option_map times_ten given) ≡ is_some given
is_given None = refl
is_given (Some n) = refl

-- ---- create

pub rows_created_ten : (rows : List PartitionRow) (name : List ℕ) (parent budget critical max : ℕ)
    → rows_created (map row_times_ten rows) name parent (times_ten budget) critical (times_ten max) ≡ map row_times_ten (rows_created rows name parent budget critical max)
rows_created_ten rows name parent budget critical max =
    ap (λ (row : PartitionRow). slice_set (map row_times_ten rows) parent (record row { budget = row.budget - budget * 10 }) ++ row_times_ten new ∷ []) (row_ten rows parent)
    ∙ ap (λ n. slice_set (map row_times_ten rows) parent (record (row_times_ten (row_or_none rows parent)) { budget = n }) ++ row_times_ten new ∷ [])
    (minus_ten (row_or_none rows parent).budget budget)
    ∙ ap (λ rest. rest ++ row_times_ten new ∷ []) (sym (map-set row_times_ten rows parent left))
    ∙ sym (map-append row_times_ten (slice_set rows parent left) (new ∷ []))
  where
    new : PartitionRow
    new = record { name = name; parent = parent; budget = budget; critical = critical; max = max }

    left : PartitionRow
    left = record (row_or_none rows parent) { budget = (row_or_none rows parent).budget - budget }

-- the first cause, by the tests in their order
abbrev create_by : Bool → Bool → Bool → Bool → Bool → Bool → ℕ → ℕ → ℕ → Option TreeRefusal
create_by no_parent taken full over critical max have count budget =
    if no_parent then Some NoSuchPartition
    else if taken then Some NameTaken
    else if full then Some TooMany
    else if over then Some (OverBudget have)
    else if critical then Some BadCritical
    else if max then Some (BadMax count budget)
    else None

create_by_ten : (t1 t2 t3 t4 t5 t6 : Bool) (have count budget : ℕ)
    → create_by t1 t2 t3 t4 t5 t6 (times_ten have) count (times_ten budget) ≡ option_map cause_times_ten (create_by t1 t2 t3 t4 t5 t6 have count budget)
create_by_ten true t2 t3 t4 t5 t6 have count budget = refl
create_by_ten false true t3 t4 t5 t6 have count budget = refl
create_by_ten false false true t4 t5 t6 have count budget = refl
create_by_ten false false false true t5 t6 have count budget = refl
create_by_ten false false false false true t6 have count budget = refl
create_by_ten false false false false false true have count budget = refl
create_by_ten false false false false false false have count budget = refl

pub create_refusal_ten : (parts : ℕ) (rows : List PartitionRow) (name : List ℕ) (parent budget critical max : ℕ)
    → create_refusal (times_ten parts) (map row_times_ten rows) name parent (times_ten budget) critical (times_ten max)
    ≡ option_map cause_times_ten (create_refusal parts rows name parent budget critical max)
create_refusal_ten parts rows name parent budget critical max =
    ap (λ n. create_by (nat_le n parent) (is_some (partition_named (map row_times_ten rows) name)) (nat_le most_partitions n) (nat_lt (row_or_none (map row_times_ten rows) parent).budget (budget * 10)) (nat_lt most_critical critical) (nat_lt (max * 10) (budget * 10) || nat_lt (parts * 10) (max * 10)) (row_or_none (map row_times_ten rows) parent).budget n (budget * 10)) (length-map rows row_times_ten)
    ∙ ap (λ o. create_by (nat_le (length rows) parent) (is_some o) (nat_le most_partitions (length rows)) (nat_lt (row_or_none (map row_times_ten rows) parent).budget (budget * 10)) (nat_lt most_critical critical) (nat_lt (max * 10) (budget * 10) || nat_lt (parts * 10) (max * 10)) (row_or_none (map row_times_ten rows) parent).budget (length rows) (budget * 10)) (named_ten rows name)
    ∙ ap (λ (row : PartitionRow). create_by (nat_le (length rows) parent) (is_some (partition_named rows name)) (nat_le most_partitions (length rows)) (nat_lt row.budget (budget * 10)) (nat_lt most_critical critical) (nat_lt (max * 10) (budget * 10) || nat_lt (parts * 10) (max * 10)) row.budget (length rows) (budget * 10)) (row_ten rows parent)
    ∙ ap (λ t. create_by (nat_le (length rows) parent) (is_some (partition_named rows name)) (nat_le most_partitions (length rows)) t (nat_lt most_critical critical) (nat_lt (max * 10) (budget * 10) || nat_lt (parts * 10) (max * 10)) ((row_or_none rows parent).budget * 10) (length rows) (budget * 10)) (lt_ten (row_or_none rows parent).budget budget)
    ∙ ap (λ t. create_by (nat_le (length rows) parent) (is_some (partition_named rows name)) (nat_le most_partitions (length rows)) (nat_lt (row_or_none rows parent).budget budget) (nat_lt most_critical critical) (t || nat_lt (parts * 10) (max * 10)) ((row_or_none rows parent).budget * 10) (length rows) (budget * 10)) (lt_ten max budget)
    ∙ ap (λ t. create_by (nat_le (length rows) parent) (is_some (partition_named rows name)) (nat_le most_partitions (length rows)) (nat_lt (row_or_none rows parent).budget budget) (nat_lt most_critical critical) (nat_lt max budget || t) ((row_or_none rows parent).budget * 10) (length rows) (budget * 10)) (lt_ten parts max)
    ∙ create_by_ten (nat_le (length rows) parent) (is_some (partition_named rows name)) (nat_le most_partitions (length rows)) (nat_lt (row_or_none rows parent).budget budget) (nat_lt most_critical critical) (nat_lt max budget || nat_lt parts max) (row_or_none rows parent).budget (length rows) budget

-- ---- modify

-- the row p with what is given, and its parent with the difference
abbrev modified_by : List PartitionRow → ℕ → Option ℕ → Option ℕ → Option ℕ → PartitionRow → PartitionRow → List PartitionRow
modified_by rows p budget critical max row parent =
    slice_set
    (slice_set rows row.parent (record parent { budget = parent.budget + row.budget - unwrap_or budget row.budget }))
    p (row_modified row budget critical max)

rest_ten : (a b c : ℕ) → a * 10 + b * 10 - c * 10 ≡ (a + b - c) * 10
rest_ten a b c = omega arith

row_modified_ten : (row : PartitionRow) (budget critical max : Option ℕ)
    → row_modified (row_times_ten row) (option_map times_ten budget) critical (option_map times_ten max) ≡ row_times_ten (row_modified row budget critical max)
row_modified_ten row budget critical max =
    ap (λ n. record (row_times_ten (row_modified row budget critical max)) { budget = n; max = unwrap_or (option_map times_ten max) (times_ten row.max) })
    (given_ten budget row.budget)
    ∙ ap (λ n. record (row_times_ten (row_modified row budget critical max)) { max = n }) (given_ten max row.max)

modified_by_ten : (rows : List PartitionRow) (p : ℕ) (budget critical max : Option ℕ) (row parent : PartitionRow)
    → modified_by (map row_times_ten rows) p (option_map times_ten budget) critical (option_map times_ten max) (row_times_ten row) (row_times_ten parent)
    ≡ map row_times_ten (modified_by rows p budget critical max row parent)
modified_by_ten rows p budget critical max row parent =
    ap (λ n. slice_set (slice_set (map row_times_ten rows) row.parent (record (row_times_ten parent) { budget = parent.budget * 10 + row.budget * 10 - n })) p (row_modified (row_times_ten row) (option_map times_ten budget) critical (option_map times_ten max)))
    (given_ten budget row.budget)
    ∙ ap (λ n. slice_set (slice_set (map row_times_ten rows) row.parent (record (row_times_ten parent) { budget = n })) p (row_modified (row_times_ten row) (option_map times_ten budget) critical (option_map times_ten max)))
    (rest_ten parent.budget row.budget (unwrap_or budget row.budget))
    ∙ ap (slice_set (slice_set (map row_times_ten rows) row.parent (row_times_ten left)) p) (row_modified_ten row budget critical max)
    ∙ ap (λ rest. slice_set rest p (row_times_ten (row_modified row budget critical max))) (sym (map-set row_times_ten rows row.parent left))
    ∙ sym (map-set row_times_ten (slice_set rows row.parent left) p (row_modified row budget critical max))
  where
    left : PartitionRow
    left = record parent { budget = parent.budget + row.budget - unwrap_or budget row.budget }

pub rows_modified_ten : (rows : List PartitionRow) (p : ℕ) (budget critical max : Option ℕ)
    → rows_modified (map row_times_ten rows) p (option_map times_ten budget) critical (option_map times_ten max)
    ≡ map row_times_ten (rows_modified rows p budget critical max)
rows_modified_ten rows p budget critical max =
    ap (λ (row : PartitionRow). modified_by (map row_times_ten rows) p (option_map times_ten budget) critical (option_map times_ten max) row (row_or_none (map row_times_ten rows) row.parent)) (row_ten rows p)
    ∙ ap (modified_by (map row_times_ten rows) p (option_map times_ten budget) critical (option_map times_ten max) (row_times_ten (row_or_none rows p))) (row_ten rows (row_or_none rows p).parent)
    ∙ modified_by_ten rows p budget critical max (row_or_none rows p) (row_or_none rows (row_or_none rows p).parent)

-- the first cause, by the tests in their order
abbrev modify_by : Bool → Bool → Bool → Bool → Bool → Bool → Bool → ℕ → ℕ → ℕ → ℕ → ℕ → Option TreeRefusal
modify_by none root over critical own parents most have p least parent parents_least =
    if none then Some NoSuchPartition
    else if root then Some NoParent
    else if over then Some (OverBudget have)
    else if critical then Some BadCritical
    else if own then Some (BadMax p least)
    else if parents then Some (BadMax parent parents_least)
    else if most then Some (BadMax p least)
    else None

modify_by_ten : (t1 t2 t3 t4 t5 t6 t7 : Bool) (have p least parent parents_least : ℕ)
    → modify_by t1 t2 t3 t4 t5 t6 t7 (times_ten have) p (times_ten least) parent (times_ten parents_least)
    ≡ option_map cause_times_ten (modify_by t1 t2 t3 t4 t5 t6 t7 have p least parent parents_least)
modify_by_ten true t2 t3 t4 t5 t6 t7 have p least parent parents_least = refl
modify_by_ten false true t3 t4 t5 t6 t7 have p least parent parents_least = refl
modify_by_ten false false true t4 t5 t6 t7 have p least parent parents_least = refl
modify_by_ten false false false true t5 t6 t7 have p least parent parents_least = refl
modify_by_ten false false false false true t6 t7 have p least parent parents_least = refl
modify_by_ten false false false false false true t7 have p least parent parents_least = refl
modify_by_ten false false false false false false true have p least parent parents_least = refl
modify_by_ten false false false false false false false have p least parent parents_least = refl

-- the cause, by the row, its parent, and these two as they would be afterwards
abbrev cause_by : ℕ → ℕ → ℕ → Option ℕ → Option ℕ → Option ℕ → PartitionRow → PartitionRow → PartitionRow → PartitionRow → Option TreeRefusal
cause_by parts count p budget critical max row parent new new_parent =
    modify_by (nat_le count p) (is_some budget && nat_eq p 0) (nat_lt parent.budget (unwrap_or budget row.budget - row.budget))
    (nat_lt most_critical (unwrap_or critical 0)) (is_over_max new) (is_over_max new_parent) (nat_lt parts (unwrap_or max 0))
    parent.budget p new.budget row.parent new_parent.budget

over_ten : (row parent : PartitionRow) (budget : Option ℕ)
    → nat_lt (times_ten parent.budget) (unwrap_or (option_map times_ten budget) (times_ten row.budget) - times_ten row.budget)
    ≡ nat_lt parent.budget (unwrap_or budget row.budget - row.budget)
over_ten row parent budget =
    ap (λ n. nat_lt (parent.budget * 10) (n - row.budget * 10)) (given_ten budget row.budget)
    ∙ ap (nat_lt (parent.budget * 10)) (minus_ten (unwrap_or budget row.budget) row.budget)
    ∙ lt_ten parent.budget (unwrap_or budget row.budget - row.budget)

cause_by_ten : (parts count p : ℕ) (budget critical max : Option ℕ) (row parent new new_parent : PartitionRow)
    → cause_by (times_ten parts) count p (option_map times_ten budget) critical (option_map times_ten max) (row_times_ten row) (row_times_ten parent) (row_times_ten new) (row_times_ten new_parent)
    ≡ option_map cause_times_ten (cause_by parts count p budget critical max row parent new new_parent)
cause_by_ten parts count p budget critical max row parent new new_parent =
    ap (λ t. modify_by (nat_le count p) (t && nat_eq p 0) over10 short (is_over_max (row_times_ten new)) (is_over_max (row_times_ten new_parent)) most10 (parent.budget * 10) p (new.budget * 10) row.parent (new_parent.budget * 10)) (is_given budget)
    ∙ ap (λ t. modify_by (nat_le count p) root t short (is_over_max (row_times_ten new)) (is_over_max (row_times_ten new_parent)) most10 (parent.budget * 10) p (new.budget * 10) row.parent (new_parent.budget * 10)) (over_ten row parent budget)
    ∙ ap (λ t. modify_by (nat_le count p) root over short t (is_over_max (row_times_ten new_parent)) most10 (parent.budget * 10) p (new.budget * 10) row.parent (new_parent.budget * 10)) (lt_ten new.max new.budget)
    ∙ ap (λ t. modify_by (nat_le count p) root over short (is_over_max new) t most10 (parent.budget * 10) p (new.budget * 10) row.parent (new_parent.budget * 10)) (lt_ten new_parent.max new_parent.budget)
    ∙ ap (λ t. modify_by (nat_le count p) root over short (is_over_max new) (is_over_max new_parent) t (parent.budget * 10) p (new.budget * 10) row.parent (new_parent.budget * 10)) (ap (nat_lt (parts * 10)) (given_ten max 0) ∙ lt_ten parts (unwrap_or max 0))
    ∙ modify_by_ten (nat_le count p) root over short (is_over_max new) (is_over_max new_parent) (nat_lt parts (unwrap_or max 0)) parent.budget p new.budget row.parent new_parent.budget
  where
    root : Bool
    root = is_some budget && nat_eq p 0

    over : Bool
    over = nat_lt parent.budget (unwrap_or budget row.budget - row.budget)

    over10 : Bool
    over10 = nat_lt (times_ten parent.budget) (unwrap_or (option_map times_ten budget) (times_ten row.budget) - times_ten row.budget)

    short : Bool
    short = nat_lt most_critical (unwrap_or critical 0)

    most10 : Bool
    most10 = nat_lt (times_ten parts) (unwrap_or (option_map times_ten max) 0)

pub modify_refusal_ten : (parts : ℕ) (rows : List PartitionRow) (p : ℕ) (budget critical max : Option ℕ)
    → modify_refusal (times_ten parts) (map row_times_ten rows) p (option_map times_ten budget) critical (option_map times_ten max)
    ≡ option_map cause_times_ten (modify_refusal parts rows p budget critical max)
modify_refusal_ten parts rows p budget critical max =
    ap (λ (row : PartitionRow). cause_by (times_ten parts) (length rows10) p budget10 critical max10 row (row_or_none rows10 row.parent) (row_or_none after10 p) (row_or_none after10 row.parent)) (row_ten rows p)
    ∙ ap (λ parent. cause_by (times_ten parts) (length rows10) p budget10 critical max10 (row_times_ten row) parent (row_or_none after10 p) (row_or_none after10 row.parent)) (row_ten rows row.parent)
    ∙ ap (λ n. cause_by (times_ten parts) n p budget10 critical max10 (row_times_ten row) (row_times_ten parent) (row_or_none after10 p) (row_or_none after10 row.parent)) (length-map rows row_times_ten)
    ∙ ap (λ all. cause_by (times_ten parts) (length rows) p budget10 critical max10 (row_times_ten row) (row_times_ten parent) (row_or_none all p) (row_or_none all row.parent)) (rows_modified_ten rows p budget critical max)
    ∙ ap (λ new. cause_by (times_ten parts) (length rows) p budget10 critical max10 (row_times_ten row) (row_times_ten parent) new (row_or_none (map row_times_ten after) row.parent)) (row_ten after p)
    ∙ ap (cause_by (times_ten parts) (length rows) p budget10 critical max10 (row_times_ten row) (row_times_ten parent) (row_times_ten (row_or_none after p))) (row_ten after row.parent)
    ∙ cause_by_ten parts (length rows) p budget critical max row parent (row_or_none after p) (row_or_none after row.parent)
  where
    rows10 : List PartitionRow
    rows10 = map row_times_ten rows

    budget10 : Option ℕ
    budget10 = option_map times_ten budget

    max10 : Option ℕ
    max10 = option_map times_ten max

    row : PartitionRow
    row = row_or_none rows p

    parent : PartitionRow
    parent = row_or_none rows row.parent

    after : List PartitionRow
    after = rows_modified rows p budget critical max

    after10 : List PartitionRow
    after10 = rows_modified rows10 p budget10 critical max10
