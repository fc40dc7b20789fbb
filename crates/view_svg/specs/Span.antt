-- Where moments stand on a picture, and which it shows.
use Rattle.std.specs.Prelude.{ℕ, ◌+◌, ◌-◌, ◌*◌, ◌/◌, Bool, ◌&&◌, nat_le, nat_lt, min, max}

-- where time begins on a picture, how wide it is, and how wide the whole picture is, in units
abbrev pub left_edge : ℕ
left_edge = 1400

abbrev pub shown_width : ℕ
shown_width = 12000

abbrev pub page_width : ℕ
page_width = 14000

-- no moment that is shown is later
abbrev pub last_shown : ℕ
last_shown = 100000000000000000

-- no part of a picture begins lower, and none ends lower
abbrev pub lowest_top : ℕ
lowest_top = 1000000

abbrev pub lowest_foot : ℕ
lowest_foot = 1000000000

-- where many bars are drawn as columns: how many these are, and how many parts are stacked in each
abbrev pub column_count : ℕ
column_count = 600

abbrev pub stacked_count : ℕ
stacked_count = 65

-- time from one moment to another takes 12,000 units, and 1,400 are left of it; a moment outside stands at the nearer end
abbrev pub x_of : ℕ → ℕ → ℕ → ℕ
x_of from to moment = left_edge + (min (max moment from) to - from) * shown_width / (to - from)

-- time from one moment to another, of which some is shown
abbrev pub meets : ℕ → ℕ → ℕ → ℕ → Bool
meets shown_from shown_to from to = nat_lt shown_from to && nat_lt from shown_to

-- the moment is shown, as the end is too
abbrev pub shows_moment : ℕ → ℕ → ℕ → Bool
shows_moment shown_from shown_to moment = nat_le shown_from moment && nat_le moment shown_to

-- how much of the time is shown
abbrev pub shown_length : ℕ → ℕ → ℕ → ℕ → ℕ
shown_length shown_from shown_to from to = min to shown_to - max from shown_from
