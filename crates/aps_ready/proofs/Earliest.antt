use Rattle.std.proofs.Common.{◌≡◌, inl, inr, ◌⊎◌, ℕ, ◌<◌, ◌≤◌, Bool, true, false, List, refl, ◌∙◌, ap, arith}
use Rattle.aps_ready.specs.declared.entrant.Entrant.{Entrant}
use Rattle.aps_ready.specs.Entrant.{entrant_at}
use Rattle.aps_ready.specs.Leaders.{IsEarliest}
use Rattle.aps_ready.proofs.Fewer.{IsWithout, was_in, is_one}
use Rattle.aps_ready.specs.Group.{group_count}

abbrev stamp_of : List Entrant → ℕ → ℕ
stamp_of firsts g = (entrant_at firsts g).stamp

-- the best of a set, but for the groups that are left
pub record IsBestSoFar (firsts : List Entrant) (set left : ℕ → Bool) (best : Entrant) : Type 0 where
  pub group : ℕ
  pub below : group < group_count
  pub among : set group ≡ true
  pub is : best ≡ entrant_at firsts group
  pub inside : (g : ℕ) → left g ≡ true → set g ≡ true
  pub least : (g : ℕ) → g < group_count → set g ≡ true → left g ≡ false → best.stamp ≤ stamp_of firsts g

-- one alone is the best of itself
pub best_of_one : (firsts : List Entrant) (set left : ℕ → Bool) (start : ℕ) (best : Entrant) → start < group_count → set start ≡ true
    → best ≡ entrant_at firsts start → IsWithout set left start → IsBestSoFar firsts set left best
best_of_one firsts set left start best below here is without = record {
  group = start;
  below = below;
  among = here;
  is = is;
  inside = λ g h. was_in set left start g without h;
  least = λ g _ in_set gone.
      let same : g ≡ start = is_one set left start g without in_set gone in
      omega (arith, ap (λ (e : Entrant). e.stamp) is, ap (stamp_of firsts) same);
}

-- one more, whose stamp is smaller, is the best then; any other isn't
pub best_of_more : (firsts : List Entrant) (set left after : ℕ → Bool) (best : Entrant) (group : ℕ) (other new : Entrant)
    → IsBestSoFar firsts set left best → group < group_count → left group ≡ true → other ≡ entrant_at firsts group → IsWithout left after group
    → ((other.stamp < best.stamp) × (new ≡ other)) ⊎ ((best.stamp ≤ other.stamp) × (new ≡ best))
    → IsBestSoFar firsts set after new
best_of_more firsts set left after best group other new so_far below here other_is without (inl won) = record {
  group = group;
  below = below;
  among = so_far.inside group here;
  is = won.1 ∙ other_is;
  inside = λ g h. so_far.inside g (was_in left after group g without h);
  least = λ g g_below in_set gone. at_least g g_below in_set gone (left g) refl;
}
  where
    at_least : (g : ℕ) → g < group_count → set g ≡ true → after g ≡ false → (t : Bool) → left g ≡ t → new.stamp ≤ stamp_of firsts g
    at_least g g_below in_set gone true h =
        let is : g ≡ group = is_one left after group g without h gone in
        omega (arith, ap (λ (e : Entrant). e.stamp) won.1, ap (λ (e : Entrant). e.stamp) other_is, ap (stamp_of firsts) is)
    at_least g g_below in_set gone false h = omega (arith, won.0, ap (λ (e : Entrant). e.stamp) won.1, so_far.least g g_below in_set h)
best_of_more firsts set left after best group other new so_far below here other_is without (inr lost) = record {
  group = so_far.group;
  below = so_far.below;
  among = so_far.among;
  is = lost.1 ∙ so_far.is;
  inside = λ g h. so_far.inside g (was_in left after group g without h);
  least = λ g g_below in_set gone. at_least g g_below in_set gone (left g) refl;
}
  where
    at_least : (g : ℕ) → g < group_count → set g ≡ true → after g ≡ false → (t : Bool) → left g ≡ t → new.stamp ≤ stamp_of firsts g
    at_least g g_below in_set gone true h =
        let is : g ≡ group = is_one left after group g without h gone in
        omega (arith, lost.0, ap (λ (e : Entrant). e.stamp) lost.1, ap (λ (e : Entrant). e.stamp) other_is, ap (stamp_of firsts) is)
    at_least g g_below in_set gone false h = omega (arith, ap (λ (e : Entrant). e.stamp) lost.1, so_far.least g g_below in_set h)

-- where none is left it is the earliest
pub all_seen : (firsts : List Entrant) (set left : ℕ → Bool) (best : Entrant) → IsBestSoFar firsts set left best
    → ((g : ℕ) → left g ≡ false) → IsEarliest firsts set best
all_seen firsts set left best so_far none = record {
  group = so_far.group;
  below = so_far.below;
  among = so_far.among;
  is = so_far.is;
  least = λ g below in_set. so_far.least g below in_set (none g);
}
