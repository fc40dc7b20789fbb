-- The texts of partitions, known in two ways.
use Rattle.std.proofs.Common.{◌≡◌, ℕ, ◌+◌, ◌<◌, ◌≤◌, List, [], ◌∷◌, length, refl, arith, Option}
use Rattle.std.specs.List.{flat_map, enumerate_from}
use Rattle.aps_model.specs.declared.partition.PartitionRow.{PartitionRow}
use Rattle.aps_model.specs.Limits.{most_partitions}
use Rattle.view_shares.specs.declared.share.Share.{Share}
use Rattle.view_shares.specs.declared.spent.Spent.{Spent}
use Rattle.view_shares.specs.Text.{partition_share_text}

-- two ways to know the same of each partition
pub same_texts : (f g : ℕ → Share) (a b : ℕ → Option Spent) → ((p : ℕ) → p < most_partitions → f p ≡ g p) → ((p : ℕ) → p < most_partitions → a p ≡ b p) → (n : ℕ) (rows : List PartitionRow)
    → n + length rows ≤ most_partitions
    → flat_map (partition_share_text f a) (enumerate_from n rows) ≡ flat_map (partition_share_text g b) (enumerate_from n rows)
same_texts f g a b shares spent n [] room = refl
same_texts f g a b shares spent n (row ∷ rows) room =
    rw (shares n (omega arith), spent n (omega arith), same_texts f g a b shares spent (n + 1) rows (omega arith)) refl
