-- How parts of all processor time stand on a panel.
use Rattle.std.specs.Prelude.{ℕ, ◌-◌, ◌*◌, ◌/◌, List, [], ◌∷◌, Bool, min, nat_eq, nat_lt, if◌then◌else◌, slice_index_or}
use Rattle.std.specs.List.{position_or_len}
use Rattle.aps_model.specs.Limits.{thousandths}

-- what the top of a panel may stand for, in parts of 1,000 of all processor time, but for the last, which is all of it
abbrev pub tops : List ℕ
tops = 10 ∷ 20 ∷ 50 ∷ 100 ∷ 200 ∷ 300 ∷ 400 ∷ 500 ∷ 600 ∷ 800 ∷ []

-- what the top stands for that has this place
abbrev pub top_of_scale : ℕ → ℕ
top_of_scale scale = slice_index_or tops scale 1000

-- the part of the whole is below a top
abbrev pub is_below_top : ℕ → ℕ → ℕ → Bool
is_below_top part whole top = nat_lt (part * thousandths) (top * whole)

-- the place of the first top that the part is below, or of the last one
abbrev pub scale_of : ℕ → ℕ → ℕ
scale_of part whole = position_or_len (is_below_top part whole) tops

-- how high the lines of a panel are
abbrev pub plot_height : ℕ
plot_height = 900

-- how far a part of the whole stands below the top of a panel, which is 900 high and stands for so many parts of 1,000
abbrev pub depth_of : ℕ → ℕ → ℕ → ℕ
depth_of part whole top = if nat_eq (whole * top) 0 then plot_height else plot_height - min (part * 900000 / (whole * top)) plot_height
