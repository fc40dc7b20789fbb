-- The rows of a tree before a place have no name of that place's row, and the root alone is a tree.
use lib.Chars.{codes}
use Rattle.std.proofs.Common.{◌≡◌, ℕ, zero, suc, ◌+◌, ◌<◌, ◌⊎◌, List, [], ◌∷◌, length, take, refl, sym, ◌∙◌, ap, subst, false, cond, not, nat_lt, Some, None, arith}
use Rattle.std.specs.List.{AllByRecursion, IsDistinct, position_or_len}
use Rattle.std.specs.Str.{bytes_eq}
use Rattle.std.proofs.lemmas.Bool.{le-ltb}
use Rattle.std.proofs.lemmas.List.{get_or-map, length-map}
use Rattle.std.proofs.lemmas.List.Elements.{All-from_recursion, All-get_or}
use Rattle.aps_model.specs.declared.partition.PartitionRow.{PartitionRow}
use Rattle.aps_model.specs.Limits.{percent, thousandths}
use Rattle.aps_model.specs.Name.{IsName}
use Rattle.aps_model.specs.Partition.{IsFundedRow, no_row, partition_named, row_or_none}
use Rattle.aps_tree.specs.Named.{names_of}
use Rattle.aps_tree.specs.Tree.{IsBudgetTree, root_row}

-- no name after the first equals it
apart : (name : List ℕ) (rows : List PartitionRow) (i : ℕ) → i < length rows → AllByRecursion (λ other. bytes_eq name other ≡ false) (names_of rows) → bytes_eq name (row_or_none rows i).name ≡ false
apart name rows i below others =
    let within : i < length (names_of rows) = subst (λ n. i < n) (sym (length-map rows (λ (r : PartitionRow). r.name))) below in
    subst (λ other. bytes_eq name other ≡ false) (get_or-map (λ (r : PartitionRow). r.name) rows i no_row [] below)
    (All-get_or (λ other. bytes_eq name other ≡ false) (names_of rows) i [] within (All-from_recursion (λ other. bytes_eq name other ≡ false) (names_of rows) others))

none_before : (rows : List PartitionRow) (i : ℕ) → i < length rows → IsDistinct bytes_eq (names_of rows)
    → position_or_len (λ (row : PartitionRow). bytes_eq row.name (row_or_none rows i).name) (take i rows) ≡ length (take i rows)
unfolding IsDistinct
none_before [] i below distinct = absurd (omega (arith, below))
none_before (row ∷ rows) zero below distinct = refl
none_before (row ∷ rows) (suc i) below distinct =
    let first = apart row.name rows i (omega (arith, below)) distinct.0 in
    let rest = none_before rows i (omega (arith, below)) distinct.1 in
    (λ j. cond (not (first j)) (1 + rest j) 0) ∙ omega arith

-- the name of row i is free among those before it
pub free_before : (rows : List PartitionRow) (i : ℕ) → i < length rows → IsDistinct bytes_eq (names_of rows) → partition_named (take i rows) (row_or_none rows i).name ≡ None
free_before rows i below distinct =
    let count = none_before rows i below distinct in
    let n = length (take i rows) in
    let past : nat_lt n n ≡ false = le-ltb n n (omega arith) in
    (λ j. cond (nat_lt (count j) n) (Some (count j)) None) ∙ ap (λ b. cond b (Some n) None) past

system_named : IsName (codes "System")
system_named = record { some = omega arith; few = omega arith; bytes = refl }

-- the root alone is a tree
pub root_tree : (parts : ℕ) → (parts ≡ percent) ⊎ (parts ≡ thousandths) → IsBudgetTree (record { parts = parts; rows = root_row parts ∷ [] })
unfolding IsDistinct
root_tree parts whole = record {
  parts = whole;
  named = record {
    some = omega arith;
    few = omega arith;
    root_name = refl;
    root_parent = refl;
    parents = λ i pos below. absurd (omega (arith, pos, below));
    names = (tt, tt);
  };
  funded = record {
    each = All-from_recursion (IsFundedRow parts) (root_row parts ∷ []) (record { name = system_named; budget = omega arith; max = omega arith; critical = omega arith }, tt);
    budgets = omega arith;
  };
}
