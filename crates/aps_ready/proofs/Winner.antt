use Rattle.std.proofs.Common.{◌≡◌, ◌≢◌, ◌⊎◌, inl, inr, ℕ, ◌%◌, ◌<◌, ◌≤◌, Bool, true, false, cond, ◌&&◌, ◌||◌, not, nat_eq, nat_lt, List, [], length, map, get_or, Option, Some, None, refl, sym, ◌∙◌, ap, subst, arith}
use Rattle.std.specs.List.{Contains}
use Rattle.std.proofs.lemmas.Bool.Decides.{nat_tests}
use Rattle.aps_model.specs.declared.shape.Free.{Free}
use Rattle.aps_model.specs.declared.shape.Free.TheVariants.{Priority, Ratio}
use Rattle.aps_model.specs.declared.merit.PartFacts.{PartFacts}
use Rattle.aps_model.specs.declared.merit.Contender.{Contender}
use Rattle.aps_model.specs.Merit.{is_candidate, IsGreater}
use Rattle.aps_model.specs.Budget.{part_at}
use Rattle.aps_model.specs.Pick.{merit_among, candidates, greatest, IsGreatestCandidate}
use Rattle.aps_model.proofs.GreatestLaws.{greatest-is, greatest-only, no_greatest, unbeaten-less}
use Rattle.aps_model.specs.Limits.{greatest_priority, last_partition, last_thread, most_partitions}
use Rattle.aps_levels.specs.declared.bits.Bits64.{Bits64}
use Rattle.aps_levels.specs.Bits.{set_has}
use Rattle.aps_levels.specs.Levels.{level_count}
use Rattle.aps_ready.specs.declared.entrant.Entrant.{Entrant}
use Rattle.aps_ready.specs.declared.gates.Gates.{Gates}
use Rattle.aps_ready.specs.Entrant.{entrant_at, goes_before}
use Rattle.aps_ready.specs.Ready.{members, entrant_facts, entrant_contender, entrant_seat, HasThreads, IsQueued}
use Rattle.aps_ready.specs.Gates.{is_first, is_open, open_first, AreGates}
use Rattle.aps_ready.specs.Firsts.{level_of, AreLeast, AreEmpty}
use Rattle.aps_ready.specs.Likely.{AreOccupied, AreLikely, AreLikelySecond}
use Rattle.aps_ready.specs.Choice.{is_ahead}
use Rattle.aps_ready.specs.Best.{Sits, IsBest}
use Rattle.aps_ready.specs.Winner.{is_above, is_candidate_at, IsWinner}
use Rattle.aps_ready.proofs.Queued.{seat_at, seat_in}
use Rattle.aps_ready.proofs.Content.{open_from, open_group, open_among, all_candidates}
use Rattle.aps_ready.proofs.Tops.{IsKept, level_at_most, Occupant, occupant, sits_level}
use Rattle.aps_ready.proofs.Above.{class_at, ahead_in_part, above_tie, above_by_ratio, above_lower_first, above_lower_second, above_class}
use Rattle.aps_ready.specs.Group.{group_count}

-- ---- what the gates say of somebody

-- a candidate of this class
pub record Stands (parts : List PartFacts) (e : Entrant) (k : ℕ) : Type 0 where
  pub candidate : is_candidate_at parts e ≡ true
  pub class : class_at parts e ≡ k

abbrev part_of : List PartFacts → Entrant → PartFacts
part_of parts e = part_at parts (e.group % most_partitions)

class_test : (t : Bool) → nat_eq (cond t 1 0) 1 ≡ t
class_test true = refl
class_test false = refl

candidate_is : (parts : List PartFacts) (e : Entrant) → e.group < group_count
    → is_candidate_at parts e ≡ is_open (part_of parts e) (nat_lt last_partition e.group)
candidate_is parts e below =
    let part = part_of parts e in
    let there : nat_lt e.group group_count ≡ true = grind (arith, nat_tests) in
    ap (λ (t : Bool). t && is_candidate (entrant_facts e) part) there
    ∙ ap (λ (t : Bool). not part.shut || (t && not part.funded)) (class_test (is_first part (nat_lt last_partition e.group)))

both : (a b : Bool) → (a && b) ≡ true → (a ≡ true) × (b ≡ true)
both true b h = (refl, h)
both false b h = absurd cc

not_true : (t : Bool) → not t ≡ true → t ≡ false
not_true true h = absurd cc
not_true false h = refl

pub first_stands : (parts : List PartFacts) (gates : Gates) (e : Entrant) → AreGates parts gates → e.group < group_count → set_has gates.first e.group ≡ true
    → Stands parts e 1
first_stands parts gates e are below h =
    let parted = both (is_open (part_of parts e) (nat_lt last_partition e.group)) (is_first (part_of parts e) (nat_lt last_partition e.group)) (sym (are.first e.group below) ∙ h) in
    record {
      candidate = candidate_is parts e below ∙ parted.0;
      class = ap (λ (t : Bool). cond t 1 0) parted.1;
    }

pub second_stands : (parts : List PartFacts) (gates : Gates) (e : Entrant) → AreGates parts gates → e.group < group_count → set_has gates.second e.group ≡ true
    → Stands parts e 0
second_stands parts gates e are below h =
    let parted = both (is_open (part_of parts e) (nat_lt last_partition e.group)) (not (is_first (part_of parts e) (nat_lt last_partition e.group)))
    (sym (are.second e.group below) ∙ h) in
    record {
      candidate = candidate_is parts e below ∙ parted.0;
      class = ap (λ (t : Bool). cond t 1 0) (not_true (is_first (part_of parts e) (nat_lt last_partition e.group)) parted.1);
    }

-- the same, where the group is one of candidates of class 1
pub open_stands : (parts : List PartFacts) (e : Entrant) → e.group < group_count → open_first parts e.group ≡ true → Stands parts e 1
open_stands parts e below h =
    let parted = both (is_open (part_of parts e) (nat_lt last_partition e.group)) (is_first (part_of parts e) (nat_lt last_partition e.group)) h in
    record {
      candidate = candidate_is parts e below ∙ parted.0;
      class = ap (λ (t : Bool). cond t 1 0) parted.1;
    }

-- every other candidate is of class 0
pub other_class : (parts : List PartFacts) (e : Entrant) → is_candidate_at parts e ≡ true → open_first parts e.group ≡ false → class_at parts e ≡ 0
other_class parts e here h =
    let part = part_of parts e in
    let mark = nat_lt last_partition e.group in
    ap (λ (t : Bool). cond t 1 0) (second (is_open part mark) (is_first part mark) (sym (candidate_is parts e (open_group parts e here)) ∙ here) h)
  where
    second : (a b : Bool) → a ≡ true → (a && b) ≡ false → b ≡ false
    second true b p q = q
    second false b p q = absurd cc

-- every candidate is in one of the two
pub in_one : (parts : List PartFacts) (gates : Gates) (e : Entrant) → AreGates parts gates → is_candidate_at parts e ≡ true
    → (set_has gates.first e.group ≡ true) ⊎ (set_has gates.second e.group ≡ true)
in_one parts gates e are here = by_test (is_first part (nat_lt last_partition e.group)) refl
  where
    part : PartFacts
    part = part_of parts e

    below : e.group < group_count
    below = open_group parts e here

    opened : is_open part (nat_lt last_partition e.group) ≡ true
    opened = sym (candidate_is parts e below) ∙ here

    pair : (a b : Bool) → a ≡ true → b ≡ true → (a && b) ≡ true
    pair a b h k = rw (h, k) refl

    by_test : (t : Bool) → is_first part (nat_lt last_partition e.group) ≡ t → (set_has gates.first e.group ≡ true) ⊎ (set_has gates.second e.group ≡ true)
    by_test true h = inl (are.first e.group below ∙ pair (is_open part (nat_lt last_partition e.group)) (is_first part (nat_lt last_partition e.group)) opened h)
    by_test false h =
        inr (are.second e.group below
        ∙ pair (is_open part (nat_lt last_partition e.group)) (not (is_first part (nat_lt last_partition e.group))) opened (ap not h))

-- ---- nobody is above the best

below_or_not : (a b : ℕ) → (a < b) ⊎ (b ≤ a)
below_or_not a b = search arith

-- the best of the groups at the least level: somebody is there, at that level
record IsAtLeast (firsts : List Entrant) (set groups : ℕ → Bool) (best : Entrant) (l : ℕ) : Type 0 where
  there : best.group < group_count
  among : set best.group ≡ true
  level : best.level ≡ l

in_found : (firsts : List Entrant) (set found : ℕ → Bool) (least : AreLeast firsts set found) (g : ℕ) → g < group_count → found g ≡ true
    → (level_of firsts g ≡ least.level) × (set g ≡ true)
in_found firsts set found least g below h =
    let parted = both (nat_eq (level_of firsts g) least.level) (set g) (sym (least.these g below) ∙ h) in
    (same (level_of firsts g) least.level parted.0, parted.1)
  where
    same : (a b : ℕ) → nat_eq a b ≡ true → a ≡ b
    same a b h = grind (arith, nat_tests)

not_before : (first e : Entrant) → goes_before e first ≡ false → first.level ≤ e.level
not_before first e h = grind (arith, nat_tests)

at_least : (parts : List PartFacts) (row : List Entrant) (firsts : List Entrant) (set found : ℕ → Bool) (best : Entrant)
    → IsKept row firsts → (least : AreLeast firsts set found) → IsBest parts row found best
    → IsAtLeast firsts set found best least.level
at_least parts row firsts set found best kept least is_best = record { there = there; among = own.1; level = omega (arith, low, high) }
  where
    -- who has the level of the group, in any of the found groups
    at : (g : ℕ) → g < group_count → found g ≡ true → Occupant row g (level_of firsts g)
    at g below h = occupant row firsts g kept below (omega (arith, least.below, (in_found firsts set found least g below h).0))

    -- and so isn't ahead of the best
    behind : (g : ℕ) → (below : g < group_count) → (h : found g ≡ true)
        → (best.group < group_count) × (is_ahead parts (entrant_at row (at g below h).place) best ≡ false)
    behind g below h =
        let who = at g below h in
        is_best.others who.place who.within (omega (arith, who.group, below)) (ap found who.group ∙ h)

    there : best.group < group_count
    there = (behind least.group least.inside least.some).0

    own : (level_of firsts best.group ≡ least.level) × (set best.group ≡ true)
    own = in_found firsts set found least best.group there (is_best.inside there)

    sits : Sits row best
    sits = is_best.sits there

    low : least.level ≤ best.level
    low = subst (λ (l : ℕ). l ≤ best.level) own.0
        (subst (λ (e : Entrant). level_of firsts e.group ≤ e.level) sits.is
        (level_at_most row firsts sits.place kept sits.within (subst (λ (e : Entrant). e.group < group_count) (sym sits.is) there)))

    high : best.level ≤ least.level
    high =
        let who = at best.group there (is_best.inside there) in
        let e = entrant_at row who.place in
        let before : goes_before e best ≡ false =
        sym (ahead_in_part parts e best (ap (λ (g : ℕ). g % most_partitions) who.group)) ∙ (behind best.group there (is_best.inside there)).1 in
        omega (arith, not_before best e before, who.level, own.0)

-- of the set nobody is above it
not_above : (free : Free) (parts : List PartFacts) (row : List Entrant) (firsts : List Entrant)
    (set found : ℕ → Bool) (best : Entrant) (k x : ℕ)
    → IsKept row firsts → (least : AreLeast firsts set found) → IsBest parts row found best
    → class_at parts best ≡ k → class_at parts (entrant_at row x) ≡ k
    → (best.level < (entrant_at row x).level → is_above free parts (entrant_at row x) best ≡ false)
    → x < length row → (entrant_at row x).group < group_count → set (entrant_at row x).group ≡ true
    → is_above free parts (entrant_at row x) best ≡ false
not_above free parts row firsts set found best k x kept least is_best best_class class lower within below among =
    elim (below_or_not best.level (entrant_at row x).level) [
      | inl low ↦ lower low
      | inr high ↦ above_tie free parts (entrant_at row x) best k class best_class (same_level high) (behind high).1
    ]
  where
    e : Entrant
    e = entrant_at row x

    best_at : IsAtLeast firsts set found best least.level
    best_at = at_least parts row firsts set found best kept least is_best

    from_least : least.level ≤ level_of firsts e.group
    from_least = least.least e.group below among

    to_level : level_of firsts e.group ≤ e.level
    to_level = level_at_most row firsts x kept within below

    same_level : e.level ≤ best.level → e.level ≡ best.level
    same_level high = omega (arith, high, from_least, to_level, best_at.level)

    in_these : e.level ≤ best.level → found e.group ≡ true
    in_these high = least.these e.group below ∙ pair (nat_eq (level_of firsts e.group) least.level) (set e.group)
        (equal (level_of firsts e.group) least.level (omega (arith, high, from_least, to_level, best_at.level))) among
      where
        pair : (a b : Bool) → a ≡ true → b ≡ true → (a && b) ≡ true
        pair a b h k = rw (h, k) refl

        equal : (a b : ℕ) → a ≡ b → nat_eq a b ≡ true
        equal a b h = grind (arith, nat_tests)

    behind : e.level ≤ best.level → (best.group < group_count) × (is_ahead parts e best ≡ false)
    behind high = is_best.others x within below (in_these high)

small : (row : List Entrant) (x : ℕ) → IsQueued row → x < length row → (entrant_at row x).group < group_count → (entrant_at row x).level ≤ greatest_priority
small row x queued within below = queued.levels x within below

-- an empty group has nobody
no_member : (row : List Entrant) (firsts : List Entrant) (set : Bits64) (x : ℕ) → IsKept row firsts → AreEmpty firsts set
    → x < length row → (entrant_at row x).group < group_count → set_has set (entrant_at row x).group ≡ true → ⊥
no_member row firsts set x kept empty within below among =
    omega (
      arith,
      empty (entrant_at row x).group below among,
      level_at_most row firsts x kept within below,
      kept.queued.levels x within below,
    )

-- ---- somebody of class 1

pub first_wins : (free : Free) (parts : List PartFacts) (row : List Entrant) (firsts : List Entrant)
    (gates : Gates) (found : Bits64) (best : Entrant) → AreGates parts gates → IsKept row firsts → AreLeast firsts (set_has gates.first) (set_has found)
    → IsBest parts row (set_has found) best → IsWinner free parts row best
first_wins free parts row firsts gates found best are kept least is_best = record {
  open_here = λ _. stands.candidate;
  sits = is_best.sits;
  others = λ x within here. (best_at.there, beaten x within here (in_one parts gates (entrant_at row x) are here));
}
  where
    best_at : IsAtLeast firsts (set_has gates.first) (set_has found) best least.level
    best_at = at_least parts row firsts (set_has gates.first) (set_has found) best kept least is_best

    stands : Stands parts best 1
    stands = first_stands parts gates best are best_at.there best_at.among

    beaten : (x : ℕ) → x < length row → is_candidate_at parts (entrant_at row x) ≡ true
        → (set_has gates.first (entrant_at row x).group ≡ true) ⊎ (set_has gates.second (entrant_at row x).group ≡ true)
        → is_above free parts (entrant_at row x) best ≡ false
    beaten x within here (inl one) =
        let below = open_group parts (entrant_at row x) here in
        let class = (first_stands parts gates (entrant_at row x) are below one).class in
        not_above free parts row firsts (set_has gates.first) (set_has found) best 1 x kept least is_best stands.class class
        (λ low. above_lower_first free parts (entrant_at row x) best class stands.class low (small row x kept.queued within below))
        within below one
    beaten x within here (inr two) =
        let below = open_group parts (entrant_at row x) here in
        above_class free parts (entrant_at row x) best (second_stands parts gates (entrant_at row x) are below two).class stands.class

-- somebody of class 1 at the least level of all
pub near_wins : (free : Free) (parts : List PartFacts) (row : List Entrant) (firsts : List Entrant)
    (occupied near : Bits64) (best : Entrant) → IsKept row firsts
    → ((g : ℕ) → g < group_count → set_has occupied g ≡ nat_lt (level_of firsts g) level_count) → AreLeast firsts (set_has occupied) (set_has near)
    → IsBest parts row (λ g. set_has near g && open_first parts g) best → best.group < group_count → IsWinner free parts row best
near_wins free parts row firsts occupied near best kept some least is_best there = record {
  open_here = λ _. stands.candidate;
  sits = is_best.sits;
  others = λ x within here. (there, beaten x within here (open_first parts (entrant_at row x).group) refl);
}
  where
    found : ℕ → Bool
    found g = set_has near g && open_first parts g

    inside : found best.group ≡ true
    inside = is_best.inside there

    stands : Stands parts best 1
    stands = open_stands parts best there (both (set_has near best.group) (open_first parts best.group) inside).1

    low : (l : ℕ) → nat_lt l level_count ≡ true → l < level_count
    low l h = grind (arith, nat_tests)

    less : (a b : ℕ) → a < b → nat_lt a b ≡ true
    less a b h = grind (arith, nat_tests)

    is_at : (g : ℕ) → g < group_count → set_has near g ≡ nat_eq (level_of firsts g) least.level
    is_at g below = least.these g below ∙ by_test (nat_eq (level_of firsts g) least.level) refl
      where
        by_test : (t : Bool) → nat_eq (level_of firsts g) least.level ≡ t → (t && set_has occupied g) ≡ t
        by_test false h = refl
        by_test true h =
            let same : level_of firsts g ≡ least.level = grind (arith, nat_tests) in
            some g below ∙ less (level_of firsts g) level_count (omega (arith, same, least.below))

    least_open : AreLeast firsts (open_first parts) found
    least_open = record {
      level = least.level;
      below = least.below;
      group = best.group;
      inside = there;
      some = inside;
      these = λ g below. ap (λ (t : Bool). t && open_first parts g) (is_at g below);
      least = λ g below _. at_most g below (below_or_not (level_of firsts g) level_count);
    }
      where
        at_most : (g : ℕ) → g < group_count → (level_of firsts g < level_count) ⊎ (level_count ≤ level_of firsts g) → least.level ≤ level_of firsts g
        at_most g below (inl down) = least.least g below (some g below ∙ less (level_of firsts g) level_count down)
        at_most g below (inr up) = omega (arith, up, least.below)

    beaten : (x : ℕ) → x < length row → is_candidate_at parts (entrant_at row x) ≡ true → (t : Bool)
        → open_first parts (entrant_at row x).group ≡ t → is_above free parts (entrant_at row x) best ≡ false
    beaten x within here true one =
        let below = open_group parts (entrant_at row x) here in
        let class = (open_stands parts (entrant_at row x) below one).class in
        not_above free parts row firsts (open_first parts) found best 1 x kept least_open is_best stands.class class
        (λ low. above_lower_first free parts (entrant_at row x) best class stands.class low (small row x kept.queued within below))
        within below one
    beaten x within here false two = above_class free parts (entrant_at row x) best (other_class parts (entrant_at row x) here two) stands.class

-- ---- nobody of class 1

only_second : (parts : List PartFacts) (row : List Entrant) (firsts : List Entrant) (gates : Gates) (x : ℕ)
    → AreGates parts gates → IsKept row firsts → AreEmpty firsts gates.first → x < length row
    → is_candidate_at parts (entrant_at row x) ≡ true → set_has gates.second (entrant_at row x).group ≡ true
only_second parts row firsts gates x are kept empty within here =
    by_side (in_one parts gates (entrant_at row x) are here)
  where
    by_side : (set_has gates.first (entrant_at row x).group ≡ true) ⊎ (set_has gates.second (entrant_at row x).group ≡ true)
        → set_has gates.second (entrant_at row x).group ≡ true
    by_side (inl one) = absurd (no_member row firsts gates.first x kept empty within (open_group parts (entrant_at row x) here) one)
    by_side (inr two) = two

pub second_wins : (parts : List PartFacts) (row : List Entrant) (firsts : List Entrant)
    (gates : Gates) (found : Bits64) (best : Entrant) → AreGates parts gates → IsKept row firsts → AreEmpty firsts gates.first
    → AreLeast firsts (set_has gates.second) (set_has found) → IsBest parts row (set_has found) best → IsWinner Priority parts row best
second_wins parts row firsts gates found best are kept empty least is_best = record {
  open_here = λ _. stands.candidate;
  sits = is_best.sits;
  others = λ x within here.
      let below = open_group parts (entrant_at row x) here in
      let two = only_second parts row firsts gates x are kept empty within here in
      let class = (second_stands parts gates (entrant_at row x) are below two).class in (
        best_at.there,
        not_above Priority parts row firsts (set_has gates.second) (set_has found) best 0 x kept least is_best stands.class class
            (λ low. above_lower_second parts (entrant_at row x) best class stands.class low (small row x kept.queued within below))
            within below two,
      );
}
  where
    best_at : IsAtLeast firsts (set_has gates.second) (set_has found) best least.level
    best_at = at_least parts row firsts (set_has gates.second) (set_has found) best kept least is_best

    stands : Stands parts best 0
    stands = second_stands parts gates best are best_at.there best_at.among

pub ratio_wins : (parts : List PartFacts) (row : List Entrant) (firsts : List Entrant)
    (gates : Gates) (found : Bits64) (best : Entrant) → AreGates parts gates → IsKept row firsts → AreEmpty firsts gates.first
    → AreOccupied firsts gates.second found → IsBest parts row (set_has found) best → IsWinner Ratio parts row best
ratio_wins parts row firsts gates found best are kept empty occupied is_best = record {
  open_here = λ g. (stands g).candidate;
  sits = is_best.sits;
  others = λ x within here.
      let below = open_group parts (entrant_at row x) here in
      let two = only_second parts row firsts gates x are kept empty within here in
      let class = (second_stands parts gates (entrant_at row x) are below two).class in
      let level = small row x kept.queued within below in
      let behind = is_best.others x within below (is_found x within below level two) in (
        behind.0,
        above_by_ratio parts (entrant_at row x) best class (stands behind.0).class level
            (sits_level row best kept.queued behind.0 (is_best.sits behind.0)) behind.1,
      );
}
  where
    stands : best.group < group_count → Stands parts best 0
    stands g = second_stands parts gates best are g
        (both (set_has gates.second best.group) (nat_lt (level_of firsts best.group) level_count) (sym (occupied best.group g) ∙ is_best.inside g)).0

    is_found : (x : ℕ) → x < length row → (entrant_at row x).group < group_count → (entrant_at row x).level ≤ greatest_priority
        → set_has gates.second (entrant_at row x).group ≡ true → set_has found (entrant_at row x).group ≡ true
    is_found x within below level two =
        let most = level_at_most row firsts x kept within below in
        occupied (entrant_at row x).group below
        ∙ pair (set_has gates.second (entrant_at row x).group) (nat_lt (level_of firsts (entrant_at row x).group) level_count) two
        (less (level_of firsts (entrant_at row x).group) level_count (omega (arith, most, level)))
      where
        pair : (a b : Bool) → a ≡ true → b ≡ true → (a && b) ≡ true
        pair a b h k = rw (h, k) refl

        less : (a b : ℕ) → a < b → nat_lt a b ≡ true
        less a b h = grind (arith, nat_tests)

pub nobody_wins : (parts : List PartFacts) (row : List Entrant) (firsts : List Entrant)
    (gates : Gates) (found : Bits64) (best : Entrant) → AreGates parts gates → IsKept row firsts → AreEmpty firsts gates.first
    → AreEmpty firsts gates.second → ((g : ℕ) → g < group_count → set_has found g ≡ false) → IsBest parts row (set_has found) best
    → IsWinner Priority parts row best
nobody_wins parts row firsts gates found best are kept empty empty_too none is_best = record {
  open_here = λ g. absurd (clash (set_has found best.group) (is_best.inside g) (none best.group g));
  sits = is_best.sits;
  others = λ x within here.
      absurd (no_member row firsts gates.second x kept empty_too within (open_group parts (entrant_at row x) here)
      (only_second parts row firsts gates x are kept empty within here));
}
  where
    clash : (t : Bool) → t ≡ true → t ≡ false → ⊥
    clash t p q = cc

pub likely_wins : (free : Free) (parts : List PartFacts) (row : List Entrant) (firsts : List Entrant)
    (gates : Gates) (found : Bits64) (best : Entrant) → AreGates parts gates → IsKept row firsts → AreLikely free firsts gates found
    → IsBest parts row (set_has found) best → IsWinner free parts row best
likely_wins free parts row firsts gates found best are kept (inl least) is_best =
    first_wins free parts row firsts gates found best are kept least is_best
likely_wins Ratio parts row firsts gates found best are kept (inr rest) is_best =
    ratio_wins parts row firsts gates found best are kept rest.0 rest.1 is_best
likely_wins Priority parts row firsts gates found best are kept (inr rest) is_best = elim rest.1 [
  | inl least ↦ second_wins parts row firsts gates found best are kept rest.0 least is_best
  | inr none ↦ nobody_wins parts row firsts gates found best are kept rest.0 none.0 none.1 is_best
]

-- ---- it is the greatest candidate

-- stamps differ
same_member : (row : List Entrant) (x y : ℕ) → IsQueued row → x < length row → y < length row → (entrant_at row x).group < group_count → (entrant_at row y).group < group_count
    → (entrant_at row x).stamp ≡ (entrant_at row y).stamp → entrant_at row x ≡ entrant_at row y
same_member row x y queued x_in y_in gx gy same = ap (entrant_at row) (queued.stamps x y x_in y_in gx gy same)

pub best_is_greatest : (free : Free) (parts : List PartFacts) (row : List Entrant) (best : Entrant) → IsQueued row → IsWinner free parts row best → best.group < group_count
    → greatest free parts (members (map entrant_seat row)) ≡ Some (entrant_contender best)
best_is_greatest free parts row best queued is_winner g = by_result (greatest free parts (members (map entrant_seat row))) refl
  where
    sits : Sits row best
    sits = is_winner.sits g

    here : is_candidate_at parts (entrant_at row sits.place) ≡ true
    here = ap (is_candidate_at parts) sits.is ∙ is_winner.open_here g

    among : Contains (candidates parts (members (map entrant_seat row))) (entrant_contender best)
    among = subst (λ (e : Entrant). Contains (candidates parts (members (map entrant_seat row))) (entrant_contender e)) sits.is (open_among parts row sits.place sits.within here)

    is_greatest : IsGreatestCandidate free parts (members (map entrant_seat row)) (entrant_contender best)
    is_greatest = record {
      candidate = among;
      others = all_candidates (λ (c : Contender). c.stamp ≢ best.stamp → IsGreater free (merit_among parts (entrant_contender best)) (merit_among parts c)) parts row
          (λ x within here ne. unbeaten-less free parts (entrant_contender best) (entrant_contender (entrant_at row x)) ne (is_winner.others x within here).1);
    }

    nothing : (cs : List Contender) (c : Contender) → cs ≡ [] → Contains cs c → ⊥
    nothing cs c none (k, within, is) = omega (arith, within, ap length none)

    by_result : (r : Option Contender) → greatest free parts (members (map entrant_seat row)) ≡ r → greatest free parts (members (map entrant_seat row)) ≡ Some (entrant_contender best)
    by_result None h = absurd (nothing _ _ (no_greatest free parts (members (map entrant_seat row)) h) among)
    by_result (Some c) h =
        let at = open_from parts row c (greatest-is free parts (members (map entrant_seat row)) c h).candidate in
        let stamp : best.stamp ≡ (entrant_at row at.place).stamp = greatest-only free parts (members (map entrant_seat row)) c (entrant_contender best) h is_greatest ∙ ap (λ (d : Contender). d.stamp) at.is in
        let same : entrant_at row sits.place ≡ entrant_at row at.place =
        same_member row sits.place at.place queued sits.within at.within (open_group parts (entrant_at row sits.place) here) (open_group parts (entrant_at row at.place) at.open_here)
        (ap (λ (e : Entrant). e.stamp) sits.is ∙ stamp) in
        h ∙ ap (λ (d : Contender). Some d) (at.is ∙ ap entrant_contender (sym same ∙ sits.is))

pub none_is_greatest : (free : Free) (parts : List PartFacts) (row : List Entrant) (best : Entrant) → IsWinner free parts row best → (best.group < group_count → ⊥)
    → greatest free parts (members (map entrant_seat row)) ≡ None
none_is_greatest free parts row best is_winner none = by_result (greatest free parts (members (map entrant_seat row))) refl
  where
    by_result : (r : Option Contender) → greatest free parts (members (map entrant_seat row)) ≡ r → greatest free parts (members (map entrant_seat row)) ≡ None
    by_result None h = h
    by_result (Some c) h =
        let at = open_from parts row c (greatest-is free parts (members (map entrant_seat row)) c h).candidate in
        absurd (none (is_winner.others at.place at.within at.open_here).0)

-- ---- where the best sits

pub record Place (row : List Entrant) (x : ℕ) : Type 0 where
  pub within : x < length row
  pub present : get_or (map entrant_seat row) x None ≢ None

pub place_by : (row : List Entrant) (best : Entrant) (x : ℕ) → IsQueued row → Sits row best → best.group < group_count → x ≡ best.thread → Place row x
place_by row best x queued sits g is =
    let group : (entrant_at row sits.place).group < group_count = subst (λ (e : Entrant). e.group < group_count) (sym sits.is) g in
    let same : sits.place ≡ x = sym (queued.threads sits.place sits.within group) ∙ ap (λ (e : Entrant). e.thread) sits.is ∙ sym is in
    record {
      within = omega (arith, same, sits.within);
      present = λ none. is_some (entrant_contender (entrant_at row sits.place)) (sym (seat_in (entrant_at row sits.place) group) ∙ sym (seat_at row sits.place sits.within) ∙ ap (λ (i : ℕ). get_or (map entrant_seat row) i None) same ∙ none);
    }
  where
    is_some : (c : Contender) → Some c ≡ None → ⊥
    is_some c h = cc

pub thread_small : (row : List Entrant) (best : Entrant) → HasThreads row → IsQueued row → Sits row best → best.group < group_count
    → best.thread ≤ last_thread
thread_small row best few queued sits g =
    let there : (entrant_at row sits.place).group < group_count = subst (λ (e : Entrant). e.group < group_count) (sym sits.is) g in
    omega (arith, few sits.place there, queued.threads sits.place sits.within there, ap (λ (e : Entrant). e.thread) sits.is)

-- ---- the groups that are looked at aren't empty

pub least_occupied : (firsts : List Entrant) (set found : ℕ → Bool) → AreLeast firsts set found → (g : ℕ) → g < group_count → found g ≡ true
    → level_of firsts g < level_count
least_occupied firsts set found least g below h = omega (arith, least.below, (in_found firsts set found least g below h).0)

pub likely_second_occupied : (free : Free) (firsts : List Entrant) (second found : Bits64) → AreLikelySecond free firsts second found
    → (g : ℕ) → g < group_count → set_has found g ≡ true → level_of firsts g < level_count
likely_second_occupied Ratio firsts second found occupied g below h =
    is_less (level_of firsts g) level_count (both (set_has second g) (nat_lt (level_of firsts g) level_count) (sym (occupied g below) ∙ h)).1
  where
    is_less : (a b : ℕ) → nat_lt a b ≡ true → a < b
    is_less a b h = grind (arith, nat_tests)
likely_second_occupied Priority firsts second found (inl least) g below h = least_occupied firsts (set_has second) (set_has found) least g below h
likely_second_occupied Priority firsts second found (inr none) g below h = absurd (clash (set_has found g) h (none.1 g below))
  where
    clash : (t : Bool) → t ≡ true → t ≡ false → ⊥
    clash t p q = cc
