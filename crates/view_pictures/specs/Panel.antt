-- Where the panels of partitions stand.
use Rattle.std.specs.Prelude.{◌≡◌, ℕ, ◌+◌, ◌*◌, ◌/◌, ◌%◌, Bool, nat_le, nat_lt, not, if◌then◌else◌}
use Rattle.view_pictures.specs.declared.panel.Panel.{Panel}
use Rattle.view_svg.specs.Span.{left_edge, shown_width}

-- more than eight stand in two columns
abbrev pub in_two : ℕ → Bool
in_two count = not (nat_le count 8)

-- how many stand below one another
abbrev pub rows_of_panels : ℕ → ℕ
rows_of_panels count = if in_two count then (count + 1) / 2 else count

-- the panel of partition p, of so many: the first column on the left, and in each the lower numbers higher up
pub record IsPanelPlaced (p count : ℕ) (panel : Panel) : Type 0 where
  pub x : panel.x ≡ (if nat_lt p (rows_of_panels count) then left_edge else 7900)
  pub y : panel.y ≡ 780 + (if in_two count then p % rows_of_panels count else p) * 1560
  pub width : panel.width ≡ (if in_two count then 5500 else shown_width)
  pub narrow : panel.narrow ≡ in_two count
