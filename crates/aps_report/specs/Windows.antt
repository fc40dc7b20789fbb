use lib.Chars.{codes}
use Rattle.std.specs.Prelude.{◌≡◌, ℕ, ◌+◌, ◌*◌, ◌<◌, ◌^◌, List, ◌∷◌, length, map, slice_index, Bool, ◌&&◌, nat_eq, nat_le, nat_lt, if◌then◌else◌}
use Rattle.std.specs.List.{range_with_len}
use Rattle.std.specs.Fmt.{decimal}
use Rattle.aps_model.specs.declared.entry.Entry.{Entry}
use Rattle.aps_model.specs.declared.shape.Shape.{Shape}
use Rattle.aps_model.specs.Usage.{overlap, billed_by, used}
use Rattle.aps_model.specs.Journal.{line_of}
use Rattle.aps_model.specs.Limits.{most_partitions}

-- the cells of a table have a place for each window and partition
abbrev pub cell_of : List ℕ → ℕ → ℕ → ℕ
cell_of cells k p = slice_index cells (k * most_partitions + p)

-- the part of an entry's time that lies in a window
abbrev pub part_in_window : Shape → ℕ → Entry → ℕ
part_in_window shape k e = overlap shape.tick (k * shape.window) (k * shape.window + shape.window) e.from e.to

-- what an entry bills to a partition in a window
abbrev pub billed_in : Shape → ℕ → ℕ → Entry → ℕ
billed_in shape k p e = billed_by shape.tick p (k * shape.window) (k * shape.window + shape.window) e

-- what a partition used in a window
abbrev pub used_in_window : Shape → List Entry → ℕ → ℕ → ℕ
used_in_window shape h k p = used shape.tick h p (k * shape.window) (k * shape.window + shape.window)

-- the time of one more entry can be added to each cell
pub record HaveCellRoom (cells : List ℕ) : Type 0 where
  pub room : (k p : ℕ) → p < most_partitions → k * most_partitions + p < length cells → cell_of cells k p < 2 ^ 127

-- the window is one of those from one to before another
abbrev pub is_between : ℕ → ℕ → ℕ → Bool
is_between first past k = nat_le first k && nat_lt k past

-- the cells with an entry's time in the windows from one to before another added for one partition
pub record HaveParts (shape : Shape) (e : Entry) (p first past : ℕ) (before after : List ℕ) : Type 0 where
  pub places : length after ≡ length before
  pub each : (k q : ℕ) → q < most_partitions → k * most_partitions + q < length before
      → cell_of after k q ≡ cell_of before k q + (if nat_eq p q && is_between first past k then part_in_window shape k e else 0)

-- the cells with an entry's time added
pub record HaveEntry (shape : Shape) (e : Entry) (before after : List ℕ) : Type 0 where
  pub places : length after ≡ length before
  pub each : (k q : ℕ) → q < most_partitions → k * most_partitions + q < length before
      → cell_of after k q ≡ cell_of before k q + billed_in shape k q e

-- the cells are what each partition used in each window
pub record AreUsed (shape : Shape) (h : List Entry) (windows : ℕ) (cells : List ℕ) : Type 0 where
  pub places : length cells ≡ windows * most_partitions
  pub each : (k p : ℕ) → k < windows → p < most_partitions → cell_of cells k p ≡ used_in_window shape h k p

-- a cell with the space before it
abbrev pub cell_words : List ℕ → ℕ → ℕ → List ℕ
cell_words cells k p = 32 ∷ decimal (cell_of cells k p)

-- a window's line, from its cells
abbrev pub window_with : List ℕ → ℕ → ℕ → ℕ → List ℕ
window_with cells rows window k =
    line_of (codes "window" ∷ decimal (k * window) ∷ map (λ p. decimal (cell_of cells k p)) (range_with_len 0 rows))
