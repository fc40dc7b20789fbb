-- The marks of a strip.
use Rattle.std.specs.Prelude.{ℕ, ◌+◌, ◌-◌, List, [], ◌∷◌, ◌++◌, length, map, min, nat_lt, if◌then◌else◌, Option, Some, None, slice_get, slice_index_or, slice_set}
use Rattle.aps_model.specs.Limits.{greatest_u64}
use Rattle.view_svg.specs.Span.{shows_moment, page_width, x_of}
use Rattle.view_pictures.specs.declared.mark.Mark.{Mark}

-- a mark that is drawn: where, its place in its list, and how many of those behind it are left out
pub record DrawnMark : Type 0 where
  pub x : ℕ
  pub place : ℕ
  pub more : ℕ

abbrev pub drawn_mark : Mark → DrawnMark
drawn_mark mark = record { x = mark.x; place = mark.place; more = mark.more }

abbrev pub all_drawn : List Mark → List DrawnMark
all_drawn marks = map drawn_mark marks

abbrev pub new_mark : ℕ → ℕ → DrawnMark
new_mark x place = record { x = x; place = place; more = 0 }

-- one more is left out behind it; the count stays at the greatest number that there is
abbrev pub with_more : DrawnMark → DrawnMark
with_more mark = record mark { more = min (mark.more + 1) greatest_u64 }

-- the marks with one more, where this one is the last: it is left out and counted where it is nearer than 80 units
abbrev pub after_last : Option DrawnMark → List DrawnMark → ℕ → ℕ → List DrawnMark
after_last None marks x place = marks ++ new_mark x place ∷ []
after_last (Some last) marks x place =
    if nat_lt x (last.x + 80) then slice_set marks (length marks - 1) (with_more last) else marks ++ new_mark x place ∷ []

abbrev pub with_drawn_mark : List DrawnMark → ℕ → ℕ → List DrawnMark
with_drawn_mark marks x place = after_last (slice_get marks (length marks - 1)) marks x place

-- the same, where the moment is shown
abbrev pub with_moment : ℕ → ℕ → List DrawnMark → ℕ → ℕ → List DrawnMark
with_moment from to marks moment place = if shows_moment from to moment then with_drawn_mark marks (x_of from to moment) place else marks

-- the marks with those of more moments, of which the first has this place
abbrev pub marks_from : ℕ → ℕ → List DrawnMark → ℕ → List ℕ → List DrawnMark
marks_from from to marks place [] = marks
marks_from from to marks place (moment ∷ moments) = marks_from from to (with_moment from to marks moment place) (place + 1) moments

-- the marks of all of these moments
abbrev pub marks_of : ℕ → ℕ → List ℕ → List DrawnMark
marks_of from to moments = marks_from from to [] 0 moments

-- no bar and no mark stands lower
abbrev pub lowest_bar : ℕ
lowest_bar = 2000000

-- how many units are free for a text behind the mark at this place, of a picture that is 14,000 wide
abbrev pub end_before : Option DrawnMark → ℕ
end_before None = page_width
end_before (Some next) = next.x - 70

abbrev pub room_behind : List DrawnMark → ℕ → ℕ
room_behind marks i = end_before (slice_get marks (i + 1)) - ((slice_index_or marks i (new_mark 0 0)).x + 60)
