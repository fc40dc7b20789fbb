-- Lines of numbers, as contracts see them.
use Rattle.std.specs.Prelude.{◌≡◌, ◌≢◌, ◌≤◌, ℕ, ◌<◌, List, [], ◌∷◌, nat_eq, if◌then◌else◌, slice_index_or, slice_set, Option, Some, None}
use Rattle.laws_runs.specs.Waits.{times}

-- the lines, of numbers below this one
pub record Lines : Type 0 where
  pub lines : List (List ℕ)
  pub numbers : ℕ

abbrev pub queue_line_at : List (List ℕ) → ℕ → List ℕ
queue_line_at lines q = slice_index_or lines q []

abbrev pub with_line : Lines → ℕ → List ℕ → Lines
with_line s q line = record s { lines = slice_set s.lines q line }

-- who stands first
abbrev pub first_of : List ℕ → Option ℕ
first_of [] = None
first_of (x ∷ xs) = Some x

-- without the first x
abbrev pub without : ℕ → List ℕ → List ℕ
without x [] = []
without x (y ∷ ys) = if nat_eq y x then ys else y ∷ without x ys

-- the number stands in no line
abbrev pub IsInNone : Lines → ℕ → Type 0
IsInNone s x = (q : ℕ) → times x (queue_line_at s.lines q) ≡ 0

-- no number stands twice
pub record AreLinesApart (lines : List (List ℕ)) : Type 0 where
  pub once : (q x : ℕ) → times x (queue_line_at lines q) ≤ 1
  pub apart : (q r x : ℕ) → q ≢ r → 1 ≤ times x (queue_line_at lines q) → times x (queue_line_at lines r) ≡ 0
