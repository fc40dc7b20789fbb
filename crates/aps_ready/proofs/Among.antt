use Rattle.std.proofs.Common.{◌≡◌, ◌⊎◌, inl, inr, ℕ, ◌%◌, ◌<◌, ◌≤◌, Bool, true, false, cond, ◌&&◌, not, nat_eq, List, length, refl, sym, ◌∙◌, ap, subst, arith}
use Rattle.std.proofs.lemmas.Bool.Decides.{nat_tests}
use Rattle.aps_model.specs.declared.merit.PartFacts.{PartFacts}
use Rattle.aps_model.specs.Budget.{part_at}
use Rattle.aps_model.specs.Limits.{most_partitions}
use Rattle.aps_levels.specs.Bits.{set_has}
use Rattle.aps_levels.specs.Levels.{level_count}
use Rattle.aps_ready.specs.declared.entrant.Entrant.{Entrant}
use Rattle.aps_ready.specs.declared.leaders.Leaders.{Leaders}
use Rattle.aps_ready.specs.Entrant.{entrant_at, vacant, goes_before}
use Rattle.aps_ready.specs.Choice.{has_used_less, ahead_by, is_ahead}
use Rattle.aps_ready.specs.Firsts.{level_of, AreAt, AreLeast, AreEmpty}
use Rattle.aps_ready.specs.Best.{Sits, IsBest}
use Rattle.aps_ready.specs.Gates.{open_first}
use Rattle.aps_ready.specs.Leaders.{is_less_than, AreLeaders, IsEarliest}
use Rattle.aps_ready.proofs.Tops.{IsTop, IsKept, top_of, not_vacant}
use Rattle.aps_ready.proofs.Fractions.{smaller_chain, smaller_one_way, smaller_not_itself, not_more_than_smaller, has_budget}
use Rattle.aps_ready.specs.Group.{group_count}

below_or_not : (a b : ℕ) → (a < b) ⊎ (b ≤ a)
below_or_not a b = search arith

-- ---- the firsts of the leaders

-- nobody of a group goes before the best, where its first doesn't
behind_first : (e best first : Entrant) → best.level ≤ first.level → (first.level ≤ best.level → best.stamp ≤ first.stamp)
    → goes_before e first ≡ false → goes_before e best ≡ false
behind_first e best first level stamp h = grind (arith, nat_tests)

both : (a b : Bool) → (a && b) ≡ true → (a ≡ true) × (b ≡ true)
both true b h = (refl, h)
both false b h = absurd cc

pair : (a b : Bool) → a ≡ true → b ≡ true → (a && b) ≡ true
pair a b h k = rw (h, k) refl

equal : (a b : ℕ) → a ≡ b → nat_eq a b ≡ true
equal a b h = grind (arith, nat_tests)

same_of : (a b : ℕ) → nat_eq a b ≡ true → a ≡ b
same_of a b h = grind (arith, nat_tests)

not_true : (t : Bool) → not t ≡ true → t ≡ false
not_true true h = absurd cc
not_true false h = refl

-- somebody isn't ahead of another: by the fractions, or of equal ones by the rest
behind_by_fraction : (p q : PartFacts) (rest : Bool) → has_used_less p q ≡ false → has_used_less q p ≡ true → ahead_by p q rest ≡ false
behind_by_fraction p q rest h k = rw (h, k) refl

behind_by_rest : (p q : PartFacts) (rest : Bool) → has_used_less p q ≡ false → rest ≡ false → ahead_by p q rest ≡ false
behind_by_rest p q rest h k =
    ap (λ (t : Bool). cond t true (cond (has_used_less q p) false rest)) h ∙ ap (λ (t : Bool). cond (has_used_less q p) false t) k
    ∙ flat (has_used_less q p)
  where
    flat : (t : Bool) → cond t false false ≡ false
    flat true = refl
    flat false = refl

pub best_of_leaders : (parts : List PartFacts) (row : List Entrant) (firsts : List Entrant)
    (wanted found : ℕ → Bool) (leaders : Leaders) (best : Entrant) → IsKept row firsts → AreLeaders parts wanted leaders
    → AreLeast firsts (set_has leaders.groups) found → IsEarliest firsts found best → IsBest parts row wanted best
best_of_leaders parts row firsts wanted found leaders best kept are least earliest = record {
  inside = λ _. subst (λ (g : ℕ). wanted g ≡ true) (sym own_group) leads.0;
  sits = λ _. subst (Sits row) (sym earliest.is) (top.sits top_there);
  nobody = λ _. there;
  others = λ x within here among. (there, behind x within here among (is_less_than parts leaders.used leaders.budget (entrant_at row x).group) refl);
}
  where
    b : ℕ
    b = earliest.group

    top : IsTop row b (entrant_at firsts b)
    top = top_of row firsts b kept earliest.below

    -- the group of the best is at the least level, and leads
    parted : (nat_eq (level_of firsts b) least.level ≡ true) × (set_has leaders.groups b ≡ true)
    parted = both (nat_eq (level_of firsts b) least.level) (set_has leaders.groups b) (sym (least.these b earliest.below) ∙ earliest.among)

    level : level_of firsts b ≡ least.level
    level = same_of (level_of firsts b) least.level parted.0

    best_level : best.level ≡ least.level
    best_level = ap (λ (e : Entrant). e.level) earliest.is ∙ level

    top_there : (entrant_at firsts b).group < group_count
    top_there = elim (below_or_not (entrant_at firsts b).group group_count) [
      | inl g ↦ g
      | inr none ↦ absurd (omega (arith, level, least.below, ap (λ (e : Entrant). e.level) (top.none (λ g. omega (arith, g, none)))))
    ]

    own_group : best.group ≡ b
    own_group = ap (λ (e : Entrant). e.group) earliest.is ∙ top.group top_there

    there : best.group < group_count
    there = omega (arith, own_group, earliest.below)

    leads : (wanted b ≡ true) × (not (is_less_than parts leaders.used leaders.budget b) ≡ true)
    leads = both (wanted b) (not (is_less_than parts leaders.used leaders.budget b)) (sym (are.these b earliest.below) ∙ parted.1)

    not_less : is_less_than parts leaders.used leaders.budget b ≡ false
    not_less = not_true (is_less_than parts leaders.used leaders.budget b) leads.1

    part_b : PartFacts
    part_b = part_at parts (b % most_partitions)

    behind_b : (x : ℕ) → x < length row → (entrant_at row x).group < group_count → wanted (entrant_at row x).group ≡ true → (t : Bool)
        → is_less_than parts leaders.used leaders.budget (entrant_at row x).group ≡ t
        → ahead_by (part_at parts ((entrant_at row x).group % most_partitions)) part_b (goes_before (entrant_at row x) best) ≡ false
    behind_b x within here among true h =
        let part = part_at parts ((entrant_at row x).group % most_partitions) in
        let more : has_used_less part_b part ≡ true =
        not_more_than_smaller leaders.used leaders.budget part_b.used part_b.budget part.used part.budget h not_less in
        behind_by_fraction part part_b (goes_before (entrant_at row x) best)
        (smaller_one_way part_b.used part_b.budget part.used part.budget more) more
    behind_b x within here among false h =
        let g = (entrant_at row x).group in
        let part = part_at parts (g % most_partitions) in
        let led : set_has leaders.groups g ≡ true = are.these g here ∙ pair (wanted g) (not (is_less_than parts leaders.used leaders.budget g)) among (ap not h) in
        let first = (top_of row firsts g kept here).first x within refl in
        let low : best.level ≤ level_of firsts g = omega (arith, best_level, least.least g here led) in
        behind_by_rest part part_b (goes_before (entrant_at row x) best)
        (smaller_chain part.used part.budget leaders.used leaders.budget part_b.used part_b.budget (are.least g here among) not_less)
        (behind_first (entrant_at row x) best (entrant_at firsts g) low
        (λ high. earliest.least g here (least.these g here
        ∙ pair (nat_eq (level_of firsts g) least.level) (set_has leaders.groups g)
        (equal (level_of firsts g) least.level (omega (arith, high, low, best_level))) led))
        first.1)

    behind : (x : ℕ) → x < length row → (entrant_at row x).group < group_count → wanted (entrant_at row x).group ≡ true → (t : Bool)
        → is_less_than parts leaders.used leaders.budget (entrant_at row x).group ≡ t → is_ahead parts (entrant_at row x) best ≡ false
    behind x within here among t h =
        ap (λ (g : ℕ). ahead_by (part_at parts ((entrant_at row x).group % most_partitions)) (part_at parts (g % most_partitions)) (goes_before (entrant_at row x) best)) own_group
        ∙ behind_b x within here among t h

-- ---- groups that are candidates of class 1

-- the best of these groups, which passes a test, is the best of those of them that do
pub best_of_open : (parts : List PartFacts) (row : List Entrant) (set : ℕ → Bool) (best : Entrant)
    → open_first parts best.group ≡ true → IsBest parts row set best → IsBest parts row (λ g. set g && open_first parts g) best
best_of_open parts row set best opened is = record {
  inside = λ g. pair (set best.group) (open_first parts best.group) (is.inside g) opened;
  sits = is.sits;
  nobody = is.nobody;
  others = λ x within below here.
      is.others x within below (both (set (entrant_at row x).group) (open_first parts (entrant_at row x).group) here).0;
}

-- ---- groups at one level

-- each of them is at the least level
pub least_at_level : (firsts : List Entrant) (set leading : ℕ → Bool) (l group : ℕ) → AreAt firsts set l
    → ((g : ℕ) → g < group_count → leading g ≡ true → set g ≡ true) → group < group_count → leading group ≡ true → AreLeast firsts leading leading
least_at_level firsts set leading l group at inside below here = record {
  level = l;
  below = at.below;
  group = group;
  inside = below;
  some = here;
  these = λ g g_below. own (leading g) (nat_eq (level_of firsts g) l)
      (λ h. equal (level_of firsts g) l (at.same g g_below (inside g g_below h)));
  least = λ g g_below h. omega (arith, at.same g g_below (inside g g_below h));
}
  where
    own : (t s : Bool) → (t ≡ true → s ≡ true) → t ≡ (s && t)
    own true true h = refl
    own true false h = sym (h refl)
    own false true h = refl
    own false false h = refl

-- ---- one group alone

pub best_of_one : (parts : List PartFacts) (row : List Entrant) (firsts : List Entrant) (wanted : ℕ → Bool)
    (g : ℕ) → IsKept row firsts → g < group_count → level_of firsts g < level_count → wanted g ≡ true
    → ((k : ℕ) → k < group_count → wanted k ≡ true → k ≡ g) → IsBest parts row wanted (entrant_at firsts g)
best_of_one parts row firsts wanted g kept below level here one = record {
  inside = λ there. subst (λ (k : ℕ). wanted k ≡ true) (sym (top.group there)) here;
  sits = top.sits;
  nobody = λ _. top_there;
  others = λ x within x_here among. (top_there, behind x within (one (entrant_at row x).group x_here among));
}
  where
    top : IsTop row g (entrant_at firsts g)
    top = top_of row firsts g kept below

    top_there : (entrant_at firsts g).group < group_count
    top_there = elim (below_or_not (entrant_at firsts g).group group_count) [
      | inl there ↦ there
      | inr none ↦ absurd (omega (arith, level, ap (λ (e : Entrant). e.level) (top.none (λ there. omega (arith, there, none)))))
    ]

    part : PartFacts
    part = part_at parts (g % most_partitions)

    behind : (x : ℕ) → x < length row → (entrant_at row x).group ≡ g → is_ahead parts (entrant_at row x) (entrant_at firsts g) ≡ false
    behind x within own =
        ap (λ (k : ℕ). ahead_by (part_at parts (k % most_partitions)) (part_at parts ((entrant_at firsts g).group % most_partitions)) (goes_before (entrant_at row x) (entrant_at firsts g))) own
        ∙ ap (λ (k : ℕ). ahead_by part (part_at parts (k % most_partitions)) (goes_before (entrant_at row x) (entrant_at firsts g))) (top.group top_there)
        ∙ behind_by_rest part part (goes_before (entrant_at row x) (entrant_at firsts g)) (smaller_not_itself part.used part.budget)
        (top.first x within own).1

-- nobody is best where nobody leads
pub best_of_nobody : (parts : List PartFacts) (row : List Entrant) (firsts : List Entrant) (wanted : ℕ → Bool) (leaders : Leaders) (best : Entrant)
    → best ≡ vacant → AreLeaders parts wanted leaders → ((g : ℕ) → g < group_count → wanted g ≡ true → level_of firsts g < level_count)
    → AreEmpty firsts leaders.groups → IsBest parts row wanted best
best_of_nobody parts row firsts wanted leaders best is are occupied empty = record {
  inside = λ g. absurd (not_vacant best is g);
  sits = λ g. absurd (not_vacant best is g);
  nobody = λ low. absurd (omega (arith, low, ap (λ (e : Entrant). e.level) is));
  others = λ x within here among. absurd (nobody_led (entrant_at row x).group here among (is_less_than parts leaders.used leaders.budget (entrant_at row x).group) refl);
}
  where
    no_leader : (g : ℕ) → g < group_count → set_has leaders.groups g ≡ true → ⊥
    no_leader g below led =
        let own = both (wanted g) (not (is_less_than parts leaders.used leaders.budget g)) (sym (are.these g below) ∙ led) in
        omega (arith, empty g below led, occupied g below own.0)

    nobody_led : (g : ℕ) → g < group_count → wanted g ≡ true → (t : Bool) → is_less_than parts leaders.used leaders.budget g ≡ t → ⊥
    nobody_led g below among true h =
        let one = are.some (has_budget leaders.used leaders.budget (part_at parts (g % most_partitions)).used (part_at parts (g % most_partitions)).budget h) in
        no_leader one.0 one.1 one.2
    nobody_led g below among false h =
        no_leader g below (are.these g below ∙ pair (wanted g) (not (is_less_than parts leaders.used leaders.budget g)) among (ap not h))
