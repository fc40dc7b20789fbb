-- The marks of a strip, one by one.
use Rattle.std.proofs.Common.{◌≡◌, ℕ, ◌+◌, ◌-◌, ◌<◌, ◌≤◌, List, [], ◌∷◌, ◌++◌, true, false, length, drop, get_or, ap, arith, refl, sym, ◌∙◌}
use Rattle.std.specs.Prelude.{Option, Some, nat_lt, if◌then◌else◌, slice_get, slice_set}
use Rattle.std.specs.Option.{option_map}
use Rattle.std.proofs.lemmas.List.{drop_all, drop_more, length-map, map-set, map_push}
use Rattle.std.proofs.lemmas.Option.{slice_get-map}
use Rattle.view_pictures.specs.declared.mark.Mark.{Mark}
use Rattle.view_pictures.specs.Strip.{DrawnMark, after_last, all_drawn, drawn_mark, marks_from, new_mark, with_drawn_mark, with_moment, with_more}

-- which mark is the last, drawn
last_drawn : (marks : List Mark) → slice_get (all_drawn marks) (length (all_drawn marks) - 1) ≡ option_map drawn_mark (slice_get marks (length marks - 1))
last_drawn marks = ap (λ n. slice_get (all_drawn marks) (n - 1)) (length-map marks drawn_mark) ∙ slice_get-map drawn_mark marks (length marks - 1)

-- with one mark more, by the last one
by_last : (marks : List Mark) (last : Option Mark) (x place : ℕ) → slice_get marks (length marks - 1) ≡ last → with_drawn_mark (all_drawn marks) x place ≡ after_last (option_map drawn_mark last) (all_drawn marks) x place
by_last marks last x place is = ap (λ found. after_last found (all_drawn marks) x place) (last_drawn marks ∙ ap (option_map drawn_mark) is)

-- there are n marks, of which this one is the last
pub record IsLast (marks : List Mark) (n : ℕ) (last : Mark) : Type 0 where
  pub count : n ≡ length marks
  pub place : slice_get marks (n - 1) ≡ Some last

last_is : (marks : List Mark) (n : ℕ) (last : Mark) → IsLast marks n last → slice_get marks (length marks - 1) ≡ Some last
last_is marks n last is = ap (λ k. slice_get marks (k - 1)) (sym is.count) ∙ is.place

-- the mark is counted at the last one
pub counted_mark : (marks : List Mark) (n : ℕ) (last one : Mark) (x place : ℕ) → IsLast marks n last → nat_lt x (last.x + 80) ≡ true → drawn_mark one ≡ with_more (drawn_mark last)
    → all_drawn (slice_set marks (n - 1) one) ≡ with_drawn_mark (all_drawn marks) x place
counted_mark marks n last one x place is near more =
    map-set drawn_mark marks (n - 1) one
    ∙ ap (λ m. slice_set (all_drawn marks) (n - 1) m) more
    ∙ ap (λ k. slice_set (all_drawn marks) (k - 1) (with_more (drawn_mark last))) (is.count ∙ sym (length-map marks drawn_mark))
    ∙ sym (by_last marks (Some last) x place (last_is marks n last is)
    ∙ ap (λ b. if b then slice_set (all_drawn marks) (length (all_drawn marks) - 1) (with_more (drawn_mark last)) else all_drawn marks ++ new_mark x place ∷ []) near)

-- it stands behind the last one
pub placed_mark : (marks : List Mark) (n : ℕ) (last one : Mark) (x place : ℕ) → IsLast marks n last → nat_lt x (last.x + 80) ≡ false → drawn_mark one ≡ new_mark x place
    → all_drawn (marks ++ one ∷ []) ≡ with_drawn_mark (all_drawn marks) x place
placed_mark marks n last one x place is far new =
    map_push drawn_mark marks one ∙ ap (λ m. all_drawn marks ++ m ∷ []) new
    ∙ sym (by_last marks (Some last) x place (last_is marks n last is)
    ∙ ap (λ b. if b then slice_set (all_drawn marks) (length (all_drawn marks) - 1) (with_more (drawn_mark last)) else all_drawn marks ++ new_mark x place ∷ []) far)

-- it is the first
pub first_mark : (marks : List Mark) (one : Mark) (x place : ℕ) → length marks ≡ 0 → drawn_mark one ≡ new_mark x place → all_drawn (marks ++ one ∷ []) ≡ with_drawn_mark (all_drawn marks) x place
first_mark [] one x place none new = ap (λ m. m ∷ []) new
first_mark (mark ∷ marks) one x place none new = absurd (omega (arith, none))

-- ---- the marks of moments

-- the marks so far, with those of the moments from place i on, are all marks
pub AreSoFar : ℕ → ℕ → List ℕ → ℕ → List DrawnMark → Type 0
AreSoFar from to moments i marks = marks_from from to [] 0 moments ≡ marks_from from to marks i (drop i moments)

pub none_so_far : (from to : ℕ) (moments : List ℕ) → AreSoFar from to moments 0 []
unfolding AreSoFar
none_so_far from to moments = refl

pub more_so_far : (from to : ℕ) (moments : List ℕ) (i d : ℕ) (marks : List DrawnMark) → i < length moments → AreSoFar from to moments i marks
    → AreSoFar from to moments (i + 1) (with_moment from to marks (get_or moments i d) i)
unfolding AreSoFar
more_so_far from to moments i d marks less so_far = so_far ∙ ap (λ left. marks_from from to marks i left) (drop_more moments i d less)

pub all_so_far : (from to : ℕ) (moments : List ℕ) (i : ℕ) (marks : List DrawnMark) → length moments ≤ i → AreSoFar from to moments i marks → marks ≡ marks_from from to [] 0 moments
unfolding AreSoFar
all_so_far from to moments i marks past so_far = sym (so_far ∙ ap (λ left. marks_from from to marks i left) (drop_all i moments past))
