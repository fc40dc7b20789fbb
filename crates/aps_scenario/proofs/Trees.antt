-- The partitions that are read make a tree.
use lib.Chars.{codes}
use Rattle.std.proofs.Common.{◌≡◌, ℕ, suc, ◌+◌, ◌-◌, ◌<◌, ◌≤◌, List, [], ◌∷◌, length, map, slice_set, Option, Some, None, Ok, inl, inr, refl, ap, sym, subst, ◌∙◌, arith, add-one, nat_lt, false, All}
use Rattle.std.proofs.lemmas.Bool.Decides.{nat_tests}
use Rattle.std.proofs.lemmas.Bool.{cases_order}
use Rattle.std.proofs.lemmas.List.{map-append}
use Rattle.std.proofs.lemmas.List.Elements.{All-get_or, All-append, All-set, All-from_recursion}
use Rattle.std.proofs.lemmas.List.Quantifiers.{position-Some}
use Rattle.std.proofs.lemmas.List.Sums.{sum-map, sum_by_push, sum_by-set}
use Rattle.std.proofs.lemmas.Map.Keys.{IsDistinct-push}
use Rattle.std.proofs.lemmas.Cmp.{nat_list_eq_equiv}
use Rattle.std.proofs.Math.Seq.{map-set_same}
use Rattle.std.specs.List.{sum_by, IsDistinct}
use Rattle.std.specs.Str.{bytes_eq}
use Rattle.toml.specs.Data.{Data, Members}
use Rattle.aps_model.specs.Name.{IsName}
use Rattle.aps_model.specs.declared.partition.PartitionRow.{PartitionRow}
use Rattle.aps_model.specs.Limits.{last_partition, most_critical}
use Rattle.aps_model.specs.Partition.{row_or_none, no_row, partition_named, IsFundedRow}
use Rattle.aps_model.specs.Valid.{IsRoot, IsTree, subtree_budget}
use Rattle.aps_scenario.specs.declared.key.Key.{Key}
use Rattle.aps_scenario.specs.declared.key.Key.TheVariants.{Partition, Name, Parent, Budget, Critical, Max}
use Rattle.aps_scenario.specs.declared.kind.Kind.TheVariants.{Duplicate, BudgetOver}
use Rattle.aps_scenario.specs.declared.refusal.Place.{Place}
use Rattle.aps_scenario.specs.declared.refusal.Place.TheVariants as place
use Rattle.aps_scenario.specs.Row.{table_of, only, value_of, row_name, name, refuse_if}
use Rattle.aps_scenario.specs.Elements.{items_len, row_tables}
use Rattle.aps_scenario.specs.Partitions.{partition_at, partition_values, next_partition, partition_keys, partition_of, or_unknown, row_partition, row_budget, row_critical, row_max, partitions_at, rows_with_new, system, is_partition}
use Rattle.aps_scenario.proofs.Lists.{list_any-map}
use Rattle.aps_scenario.proofs.Values.{InRange, bind-ok, ok-same, refuse_if-ok, value_of-ok, named-ok, required-ok, defaulted-ok}
use Rattle.aps_scenario.proofs.Elements.{read_each-keeps, tables-ok}
use Rattle.aps_scenario.proofs.Subtrees.{AreEarlier, rows_more, kept, new_row, subtree_kept, subtree_new}

abbrev name_of : PartitionRow → List ℕ
name_of row = row.name

abbrev budget_of : PartitionRow → ℕ
budget_of row = row.budget

pub or_unknown-ok : (o : Option ℕ) (p : ℕ) → or_unknown o ≡ Ok p → o ≡ Some p
or_unknown-ok None p e = absurd (cc)
or_unknown-ok (Some q) p e = cc

-- a partition that a key names is one of the rows
pub partition-ok : (key : Key) (rows : List PartitionRow) (place : Place) (t : Members) (p : ℕ) → 0 < length rows
    → value_of (row_partition key rows) place t ≡ Ok p → p < length rows
partition-ok key rows place t p some e =
    elim (value_of-ok (row_partition key rows) place t p e) [
      | inl same ↦ let first : 0 ≡ p = cc in omega arith
      | inr read ↦ named read.0 read.1
    ]
  where
    named : (d : Data) → partition_of rows d ≡ Ok p → p < length rows
    named d e =
        let q = bind-ok (name d) _ p e in
        let found = position-Some _ rows p no_row (or_unknown-ok (partition_named rows q.0) p q.2) in
        found.0

-- what is known of a partition that was read, over these rows
record IsNew (parts : ℕ) (rows : List PartitionRow) (new : PartitionRow) : Type 0 where
  pub name : IsName new.name
  pub other : is_partition rows new.name ≡ false
  pub parent : new.parent < length rows
  pub within_max : new.budget ≤ new.max
  pub max : new.max ≤ parts
  pub critical : new.critical ≤ most_critical
  pub funded : new.budget ≤ (row_or_none rows new.parent).budget

no_critical : InRange 0 most_critical 1 0
no_critical = record { above = omega arith; below = omega arith; whole = refl }

whole_range : (low high : ℕ) → low ≤ high → InRange low high 1 high
whole_range low high within = record { above = within; below = omega arith; whole = omega arith }

not_over : (left budget : ℕ) → nat_lt left budget ≡ false → budget ≤ left
not_over left budget test = grind (arith, nat_tests, test)

next_partition-ok : (parts : ℕ) (rows : List PartitionRow) (d : Data) (new : PartitionRow) → 0 < length rows
    → next_partition parts rows d ≡ Ok new → IsNew parts rows new
unfolding partition_at partition_values
next_partition-ok parts rows d new some e =
    let here : Place = place.Partition (length rows - 1) in
    let p = bind-ok (table_of here d) _ new e in
    let q = bind-ok (only partition_keys here p.0) _ new p.2 in
    let name = bind-ok (value_of (row_name Name None) here p.0) _ new q.2 in
    let other = bind-ok (refuse_if (is_partition rows name.0) Duplicate here Name) _ new name.2 in
    let parent = bind-ok (value_of (row_partition Parent rows) here p.0) _ new other.2 in
    let budget = bind-ok (value_of (row_budget parts) here p.0) _ new parent.2 in
    let critical = bind-ok (value_of row_critical here p.0) _ new budget.2 in
    let max = bind-ok (value_of (row_max budget.0 parts) here p.0) _ new critical.2 in
    let funded = bind-ok (refuse_if (nat_lt (row_or_none rows parent.0).budget budget.0) BudgetOver here Budget) _ new max.2 in
    let budget_range = required-ok Budget 0 parts 1 here p.0 budget.0 budget.1 in
    let critical_range = defaulted-ok Critical 0 most_critical 1 0 here p.0 critical.0 no_critical critical.1 in
    let max_range = defaulted-ok Max budget.0 parts 1 parts here p.0 max.0 (whole_range budget.0 parts budget_range.below) max.1 in
    let test : nat_lt (row_or_none rows parent.0).budget budget.0 ≡ false = refuse_if-ok _ _ _ _ funded.0 funded.1 in
    let found : PartitionRow = record { name = name.0; parent = parent.0; budget = budget.0; critical = critical.0; max = max.0 } in
    let same : found ≡ new = ok-same found new _ refl funded.2 in
    subst (IsNew parts rows) same (record {
      name = named-ok Name _ p.0 name.0 name.1;
      other = refuse_if-ok _ _ _ _ other.0 other.1;
      parent = partition-ok Parent rows _ p.0 parent.0 some parent.1;
      within_max = max_range.above;
      max = max_range.below;
      critical = critical_range.below;
      funded = not_over _ _ test;
    })

-- the rows so far, of which there are n
record AreRead (parts n : ℕ) (rows : List PartitionRow) : Type 0 where
  pub count : length rows ≡ n
  pub some : 0 < n
  pub root : IsRoot parts (row_or_none rows 0)
  pub earlier : AreEarlier rows
  pub names : IsDistinct bytes_eq (map name_of rows)
  pub each : All (IsFundedRow parts) rows
  pub budgets : sum_by budget_of rows ≡ parts
  pub subtrees : (i : ℕ) → i < length rows → subtree_budget rows i ≤ (row_or_none rows i).max

pub system_named : IsName (codes "System")
system_named = record { some = omega arith; few = omega arith; bytes = refl }

start : (parts : ℕ) → AreRead parts 1 (system parts ∷ [])
unfolding IsDistinct
start parts = record {
  count = refl;
  some = omega arith;
  root = record { name = refl; parent = refl; critical = refl; max = refl };
  earlier = λ p within. let first : p ≡ 0 = omega arith in rw first (omega arith);
  names = (tt, tt);
  each = All-from_recursion (IsFundedRow parts) (system parts ∷ []) (record { name = system_named; budget = omega arith; max = omega arith; critical = omega arith }, tt);
  budgets = omega arith;
  subtrees = λ i within. let first : i ≡ 0 = omega arith in rw first (omega arith);
}

module _ (parts n : ℕ) (rows : List PartitionRow) (new : PartitionRow) (read : AreRead parts n rows) (is_new : IsNew parts rows new) where
  abbrev after : List PartitionRow
  after = rows_with_new rows new

  abbrev lower : PartitionRow
  lower = record (row_or_none rows new.parent) { budget = (row_or_none rows new.parent).budget - new.budget }

  keeps : {Y : Type 0} (f : PartitionRow → Y) → f lower ≡ f (row_or_none rows new.parent) → (p : ℕ) → p < length rows
      → f (row_or_none after p) ≡ f (row_or_none rows p)
  keeps = kept rows new read.earlier is_new.parent is_new.funded

  -- a fact of each place holds of the rows and of the new one
  at_each : (P : ℕ → Type 0) → ((p : ℕ) → p < length rows → P p) → P (length rows) → (p : ℕ) → p < length after → P p
  at_each P old last p within =
      let long : length after ≡ length rows + 1 = rows_more rows new in
      elim (cases_order p (length rows)) [
        | inl here ↦ subst P (sym here) last
        | inr (inl before) ↦ old p before
        | inr (inr behind) ↦ absurd (omega arith)
      ]

  root_after : IsRoot parts (row_or_none after 0)
  root_after =
      let some : 0 < length rows = omega (arith, read.count, read.some) in
      record {
        name = keeps (λ (row : PartitionRow). row.name) refl 0 some ∙ read.root.name;
        parent = keeps (λ (row : PartitionRow). row.parent) refl 0 some ∙ read.root.parent;
        critical = keeps (λ (row : PartitionRow). row.critical) refl 0 some ∙ read.root.critical;
        max = keeps (λ (row : PartitionRow). row.max) refl 0 some ∙ read.root.max;
      }

  earlier_after : AreEarlier after
  earlier_after = at_each (λ p. (row_or_none after p).parent ≤ p - 1)
      (λ p within.
      let before : (row_or_none rows p).parent ≤ p - 1 = read.earlier p within in
      let same : (row_or_none after p).parent ≡ (row_or_none rows p).parent = keeps (λ (row : PartitionRow). row.parent) refl p within in
      omega arith)
      (let same : (row_or_none after (length rows)).parent ≡ new.parent = ap (λ (row : PartitionRow). row.parent) (new_row rows new read.earlier is_new.parent is_new.funded) in
      let parent : new.parent < length rows = is_new.parent in
      omega arith)

  subtrees_after : (i : ℕ) → i < length after → subtree_budget after i ≤ (row_or_none after i).max
  subtrees_after = at_each (λ i. subtree_budget after i ≤ (row_or_none after i).max)
      (λ i within.
      let before : subtree_budget rows i ≤ (row_or_none rows i).max = read.subtrees i within in
      let same : subtree_budget after i ≡ subtree_budget rows i = subtree_kept rows new read.earlier is_new.parent is_new.funded i within in
      let max : (row_or_none after i).max ≡ (row_or_none rows i).max = keeps (λ (row : PartitionRow). row.max) refl i within in
      omega arith)
      (let same : subtree_budget after (length rows) ≡ new.budget = subtree_new rows new read.earlier is_new.parent is_new.funded in
      let max : (row_or_none after (length rows)).max ≡ new.max = ap (λ (row : PartitionRow). row.max) (new_row rows new read.earlier is_new.parent is_new.funded) in
      let within_max : new.budget ≤ new.max = is_new.within_max in
      omega arith)

  budgets_after : sum_by budget_of after ≡ parts
  budgets_after =
      let pushed : sum_by budget_of after ≡ sum_by budget_of (slice_set rows new.parent lower) + new.budget = sum_by_push budget_of (slice_set rows new.parent lower) new in
      let taken : sum_by budget_of (slice_set rows new.parent lower) + (row_or_none rows new.parent).budget ≡ sum_by budget_of rows + lower.budget =
      sum_by-set budget_of rows new.parent lower no_row is_new.parent in
      let whole : sum_by budget_of rows ≡ parts = read.budgets in
      let funded : new.budget ≤ (row_or_none rows new.parent).budget = is_new.funded in
      omega arith

  -- one more partition, which takes its budget from its parent
  more : AreRead parts (suc n) after
  more =
      let parent : IsFundedRow parts (row_or_none rows new.parent) = All-get_or (IsFundedRow parts) rows new.parent no_row is_new.parent read.each in
      record {
        count = rows_more rows new ∙ add-one (length rows) ∙ ap (λ m. suc m) read.count;
        some = omega arith;
        root = root_after;
        earlier = earlier_after;
        names = rw (map-append name_of (slice_set rows new.parent lower) (new ∷ []), map-set_same name_of rows new.parent lower no_row refl)
            (IsDistinct-push nat_list_eq_equiv (map name_of rows) new.name read.names (list_any-map (bytes_eq new.name) name_of rows ∙ is_new.other));
        each = All-append (IsFundedRow parts) (slice_set rows new.parent lower) (new ∷ [])
            (All-set (IsFundedRow parts) rows new.parent lower (record { name = parent.name; budget = omega (arith, parent.budget); max = parent.max; critical = parent.critical }) read.each)
            (All-from_recursion (IsFundedRow parts) (new ∷ []) (record { name = is_new.name; budget = is_new.within_max; max = is_new.max; critical = is_new.critical }, tt));
        budgets = budgets_after;
        subtrees = subtrees_after;
      }

pub partitions_at-ok : (parts : ℕ) (t : Members) (rows : List PartitionRow) → partitions_at parts t ≡ Ok rows → IsTree parts rows
unfolding partitions_at
partitions_at-ok parts t rows e =
    let elements = bind-ok (value_of (row_tables Partition last_partition) place.Top t) _ rows e in
    let few : items_len elements.0 ≤ last_partition = tables-ok Partition last_partition place.Top t elements.0 elements.1 in
    let read : AreRead parts (1 + items_len elements.0) rows =
    read_each-keeps (next_partition parts) rows_with_new (AreRead parts)
    (λ n so_far d new before read. more parts n so_far new before (next_partition-ok parts so_far d new (omega (arith, before.count, before.some)) read))
    elements.0 1 (system parts ∷ []) rows (start parts) elements.2 in
    let count : length rows ≡ 1 + items_len elements.0 = read.count in
    record {
      some = omega arith;
      few = omega arith;
      root = read.root;
      parents = λ i over within. omega (arith, read.earlier i within);
      names = read.names;
      funded = record { each = read.each; budgets = sum-map budget_of rows ∙ read.budgets };
      subtrees = read.subtrees;
    }
