-- A partition that is printed reads as itself, and so do all partitions of a tree.
use Rattle.std.proofs.Common.{◌≡◌, ℕ, zero, suc, ◌+◌, ◌≤◌, ◌-◌, ◌<◌, false, List, [], ◌∷◌, ◌++◌, length, map, get_or, take, drop, Some, Ok, refl, ap, sym, ◌∙◌, arith, le-leb, length-append}
use Rattle.std.proofs.lemmas.List.{drop-append-le, map-append, length-map, get_or-map, length-set, length-take-le}
use Rattle.std.proofs.lemmas.List.Elements.{All-get_or}
use Rattle.std.specs.List.{list_any}
use Rattle.std.specs.Str.{bytes_eq}
use Rattle.toml.specs.Data.{Data}
use Rattle.toml.specs.View.{items_of}
use Rattle.aps_model.specs.declared.partition.PartitionRow.{PartitionRow}
use Rattle.aps_model.specs.Limits.{most_critical}
use Rattle.aps_model.specs.Partition.{row_or_none, no_row, partition_named, IsFundedRow}
use Rattle.aps_model.specs.Name.{IsName}
use Rattle.aps_model.specs.Valid.{IsTree}
use Rattle.aps_scenario.specs.declared.refusal.Place.{Place}
use Rattle.aps_scenario.specs.declared.refusal.Place.TheVariants as place
use Rattle.aps_scenario.specs.Elements.{read_each}
use Rattle.aps_scenario.specs.Partitions.{partition_at, partition_values, is_partition, next_partition, partitions_from, rows_with_new, system}
use Rattle.aps_scenario.specs.PrintedTree.{budget_given_back, rows_before, rows_listed, listed_rows}
use Rattle.aps_scenario.specs.PrintedPartitions.{partition_table}
use Rattle.aps_scenario.proofs.PrintedElements.{read_each-push}
use Rattle.aps_scenario.proofs.PrintedNames.{new-among-before, position-named}
use Rattle.aps_scenario.proofs.PrintedTree.{length-before, before-parent, before-kept, names-before, before-tree, before-gives}
use Rattle.aps_scenario.proofs.PrintedValues.{no_rest, not_less, is_name-true}
use Rattle.aps_scenario.proofs.Lists.{list_any-map}

-- what a partition has that is new, over the rows before it
pub record IsNewRow (parts : ℕ) (before : List PartitionRow) (parent : List ℕ) (row : PartitionRow) : Type 0 where
  pub ranges : IsFundedRow parts row
  pub new : is_partition before row.name ≡ false
  pub under : IsName parent
  pub found : partition_named before parent ≡ Some row.parent
  pub funded : row.budget ≤ (row_or_none before row.parent).budget

pub partition-reads : (parts : ℕ) (before rows : List PartitionRow) (place : Place) (row : PartitionRow)
    → IsNewRow parts before (row_or_none rows row.parent).name row → partition_at parts before place (partition_table rows row) ≡ Ok row
unfolding partition_at partition_values
partition-reads parts before rows place row is =
    let parent = (row_or_none rows row.parent).name in
    let budget : row.budget ≤ parts = omega (arith, is.ranges.budget, is.ranges.max) in
    rw (
      is_name-true row.name is.ranges.name,
      is.new,
      is_name-true parent is.under,
      is.found,
      le-leb 0 row.budget (omega arith),
      le-leb row.budget parts budget,
      no_rest row.budget,
      le-leb 0 row.critical (omega arith),
      le-leb row.critical most_critical is.ranges.critical,
      no_rest row.critical,
      le-leb row.budget row.max is.ranges.budget,
      le-leb row.max parts is.ranges.max,
      no_rest row.max,
      not_less (row_or_none before row.parent).budget row.budget is.funded,
    ) refl

abbrev name_of : PartitionRow → List ℕ
name_of row = row.name

pub length-listed : (n : ℕ) (rows : List PartitionRow) → length rows ≡ suc n → length (rows_listed n rows) ≡ suc n
length-listed zero rows count = count
length-listed (suc n) rows count =
    let child = row_or_none rows (suc n) in
    let parent = row_or_none rows child.parent in
    let same = length-set rows child.parent (record parent { budget = parent.budget + child.budget }) in
    let size : length (rows_before rows (suc n)) ≡ suc n = length-take-le (suc n) (budget_given_back rows (suc n)) (omega arith) in
    let front = length-listed n (rows_before rows (suc n)) size in
    let whole = length-append (rows_listed n (rows_before rows (suc n))) (child ∷ []) in
    omega arith

-- the rows of a tree with no row but its root
lone-root : (parts : ℕ) (rows : List PartitionRow) → IsTree parts rows → length rows ≡ 1 → rows ≡ system parts ∷ []
lone-root parts [] tree count = absurd (omega arith)
lone-root parts (root ∷ []) tree count =
    let whole : root.budget ≡ parts = omega (arith, tree.funded.budgets) in
    let same : record { name = root.name; parent = root.parent; budget = root.budget; critical = root.critical; max = root.max } ≡ system parts =
    rw (tree.root.name, tree.root.parent, whole, tree.root.critical, tree.root.max) refl in
    ap (λ (row : PartitionRow). row ∷ []) same
lone-root parts (root ∷ row ∷ rows) tree count = absurd (omega arith)

module _ (parts : ℕ) (printed : List PartitionRow) where
  -- the last row is read after those before it
  last-reads : (n : ℕ) (rows : List PartitionRow) (count : length rows ≡ suc (suc n)) (tree : IsTree parts rows)
      → ((i : ℕ) → i < suc (suc n) → (row_or_none printed i).name ≡ (row_or_none rows i).name)
      → next_partition parts (rows_before rows (suc n)) (partition_table printed (row_or_none rows (suc n))) ≡ Ok (row_or_none rows (suc n))
  last-reads n rows count tree named =
      let last = row_or_none rows (suc n) in
      let before = rows_before rows (suc n) in
      let under : last.parent < suc n = tree.parents (suc n) (omega arith) (omega arith) in
      let parent_row : IsFundedRow parts (row_or_none rows last.parent) = All-get_or (IsFundedRow parts) rows last.parent no_row (omega arith) tree.funded.each in
      let parent_name : (row_or_none printed last.parent).name ≡ (row_or_none rows last.parent).name = named last.parent (omega arith) in
      let parent_kept : (row_or_none before last.parent).name ≡ (row_or_none rows last.parent).name = before-kept parts rows tree n count name_of (λ row b. refl) last.parent under in
      let size = length-before parts rows tree n count in
      let names_size : length (map name_of rows) ≡ length rows = length-map rows name_of in
      let last_name : get_or (map name_of rows) (suc n) [] ≡ last.name = get_or-map name_of rows (suc n) no_row [] (omega arith) in
      let front : map name_of before ≡ take (suc n) (map name_of rows) = names-before parts rows tree n count in
      let new : is_partition before last.name ≡ false =
      sym (list_any-map (bytes_eq last.name) name_of before)
      ∙ ap (list_any (bytes_eq last.name)) front
      ∙ ap (λ (name : List ℕ). list_any (bytes_eq name) (take (suc n) (map name_of rows))) (sym last_name)
      ∙ new-among-before (suc n) (map name_of rows) [] (omega arith) tree.names in
      let found : partition_named before (row_or_none printed last.parent).name ≡ Some last.parent =
      ap (partition_named before) (parent_name ∙ sym parent_kept)
      ∙ position-named name_of before last.parent no_row (omega arith) (before-tree parts rows tree n count).names in
      let held : (row_or_none before last.parent).budget ≡ (row_or_none rows last.parent).budget + last.budget = ap (λ (row : PartitionRow). row.budget) (before-parent parts rows tree n count) in
      partition-reads parts before printed (place.Partition (length before - 1)) last (record {
        ranges = All-get_or (IsFundedRow parts) rows (suc n) no_row (omega arith) tree.funded.each;
        new = new;
        under = rw parent_name parent_row.name;
        found = found;
        funded = omega arith;
      })

  -- the rows of a tree are read, the root apart
  partitions-read : (n : ℕ) (rows : List PartitionRow) → length rows ≡ suc n → IsTree parts rows
      → ((i : ℕ) → i < suc n → (row_or_none printed i).name ≡ (row_or_none rows i).name)
      → partitions_from parts (system parts ∷ []) (items_of (map (partition_table printed) (drop 1 (rows_listed n rows)))) ≡ Ok rows
  unfolding read_each
  partitions-read zero rows count tree named = rw (lone-root parts rows tree count) refl
  partitions-read (suc n) rows count tree named =
      let last = row_or_none rows (suc n) in
      let before = rows_before rows (suc n) in
      let size = length-before parts rows tree n count in
      let listed_size = length-listed n before size in
      let earlier = partitions-read n before size (before-tree parts rows tree n count)
      (λ i within. named i (omega arith) ∙ sym (before-kept parts rows tree n count name_of (λ row b. refl) i within)) in
      let cut : drop 1 (rows_listed n before ++ last ∷ []) ≡ drop 1 (rows_listed n before) ++ last ∷ [] = drop-append-le 1 (rows_listed n before) (last ∷ []) (omega arith) in
      ap (λ (rs : List PartitionRow). partitions_from parts (system parts ∷ []) (items_of (map (partition_table printed) rs))) cut
      ∙ ap (λ (ds : List Data). partitions_from parts (system parts ∷ []) (items_of ds)) (map-append (partition_table printed) (drop 1 (rows_listed n before)) (last ∷ []))
      ∙ read_each-push (next_partition parts) rows_with_new (system parts ∷ []) (map (partition_table printed) (drop 1 (rows_listed n before))) (partition_table printed last) before last
      earlier (last-reads n rows count tree named)
      ∙ ap Ok (before-gives parts rows tree n count)

-- the printed rows of a tree are read as they are
pub partition_array-reads : (parts : ℕ) (rows : List PartitionRow) → IsTree parts rows
    → partitions_from parts (system parts ∷ []) (items_of (map (partition_table rows) (drop 1 (listed_rows rows)))) ≡ Ok rows
partition_array-reads parts rows tree =
    let some = tree.some in
    partitions-read parts rows (length rows - 1) rows (omega arith) tree (λ i within. refl)
