use Rattle.std.proofs.Common.{◌≡◌, ◌≢◌, ◌⊎◌, inl, inr, ℕ, zero, suc, ◌+◌, ◌%◌, ◌<◌, ◌≤◌, Bool, true, false, cond, ◌&&◌, ◌||◌, not, nat_eq, nat_lt, List, [], ◌∷◌, length, map, Option, Some, None, refl, sym, ◌∙◌, ap, arith}
use Rattle.std.specs.List.{Contains, find, range_with_len, list_any}
use Rattle.std.specs.Option.{option_or}
use Rattle.std.proofs.lemmas.Bool.{cases_eq}
use Rattle.std.proofs.lemmas.Bool.Decides.{nat_tests}
use Rattle.std.proofs.lemmas.List.{get_or_past}
use Rattle.std.proofs.lemmas.List.Folds.{find-append, list_any_at, list_any_none}
use Rattle.aps_model.specs.declared.merit.PartFacts.{PartFacts}
use Rattle.aps_model.specs.declared.merit.Contender.{Contender}
use Rattle.aps_model.specs.Budget.{part_at, no_part}
use Rattle.aps_model.specs.Pick.{candidates, missing}
use Rattle.aps_model.proofs.Ranges.{range_more}
use Rattle.aps_model.specs.Limits.{most_partitions}
use Rattle.aps_levels.specs.declared.bits.Bits64.{Bits64}
use Rattle.aps_levels.specs.Bits.{set_has}
use Rattle.aps_levels.specs.Levels.{level_count}
use Rattle.aps_ready.specs.declared.entrant.Entrant.{Entrant}
use Rattle.aps_ready.specs.declared.gates.Gates.{Gates}
use Rattle.aps_ready.specs.Entrant.{entrant_at}
use Rattle.aps_ready.specs.Ready.{members, entrant_contender, entrant_seat, IsQueued}
use Rattle.aps_ready.specs.Winner.{is_candidate_at}
use Rattle.aps_ready.specs.Gates.{AreGates}
use Rattle.aps_ready.specs.Firsts.{firsts_of, level_of}
use Rattle.aps_ready.proofs.Content.{open_group, open_among, all_candidates}
use Rattle.aps_ready.proofs.Tops.{kept, occupant, level_at_most}
use Rattle.aps_ready.proofs.Winner.{first_stands, second_stands, in_one}
use Rattle.aps_ready.specs.Group.{group_count}

-- ---- the first number of a range that does

more : (test : ℕ → Bool) (n : ℕ) → find test (range_with_len 0 (suc n)) ≡ option_or (find test (range_with_len 0 n)) (cond (test n) (Some n) None)
more test n =
    let next : suc n ≡ n + 1 = omega arith in
    ap (λ (m : ℕ). find test (range_with_len 0 m)) next
    ∙ ap (find test) (range_more 0 n n (omega arith)) ∙ find-append test (range_with_len 0 n) (n ∷ [])

pub find_none : (test : ℕ → Bool) (n : ℕ) → ((k : ℕ) → k < n → test k ≡ false) → find test (range_with_len 0 n) ≡ None
find_none test zero none = refl
find_none test (suc n) none =
    let before : find test (range_with_len 0 n) ≡ None = find_none test n (λ k below. none k (omega (arith, below))) in
    more test n ∙ ap (λ (r : Option ℕ). option_or r (cond (test n) (Some n) None)) before
    ∙ ap (λ (t : Bool). cond t (Some n) None) (none n (omega arith))

pub find_some : (test : ℕ → Bool) (n p : ℕ) → p < n → test p ≡ true → ((k : ℕ) → k < p → test k ≡ false)
    → find test (range_with_len 0 n) ≡ Some p
find_some test zero p below here earlier = absurd (omega (arith, below))
find_some test (suc n) p below here earlier = by_place (find_some test n p) (cases_eq p n)
  where
    by_place : (p < n → test p ≡ true → ((k : ℕ) → k < p → test k ≡ false) → find test (range_with_len 0 n) ≡ Some p)
        → (p ≡ n) ⊎ (p ≢ n) → find test (range_with_len 0 (suc n)) ≡ Some p
    by_place found (inl same) =
        let before : find test (range_with_len 0 n) ≡ None = find_none test n (λ k low. earlier k (omega (arith, low, same))) in
        more test n ∙ ap (λ (r : Option ℕ). option_or r (cond (test n) (Some n) None)) before
        ∙ ap (λ (t : Bool). cond t (Some n) None) (ap test (sym same) ∙ here)
        ∙ ap (λ (m : ℕ). Some m) (sym same)
    by_place found (inr other) =
        more test n
        ∙ ap (λ (r : Option ℕ). option_or r (cond (test n) (Some n) None)) (found (omega (arith, below, other)) here earlier)

-- ---- whether a partition has a candidate

abbrev is_of : ℕ → Contender → Bool
is_of p c = nat_eq c.facts.partition p

abbrev pub has_candidate : List PartFacts → List Entrant → ℕ → Bool
has_candidate parts row p = list_any (is_of p) (candidates parts (members (map entrant_seat row)))

clash : (t : Bool) → t ≡ true → t ≡ false → ⊥
clash t p q = cc

equal : (a b : ℕ) → a ≡ b → nat_eq a b ≡ true
equal a b h = grind (arith, nat_tests)

both : (a b : Bool) → (a && b) ≡ true → (a ≡ true) × (b ≡ true)
both true b h = (refl, h)
both false b h = absurd cc

one_of : (a b : Bool) → (a || b) ≡ true → (a ≡ true) ⊎ (b ≡ true)
one_of true b h = inl refl
one_of false b h = inr h

-- somebody is of the group
record IsOf (row : List Entrant) (g : ℕ) : Type 0 where
  place : ℕ
  within : place < length row
  group : (entrant_at row place).group ≡ g

-- the groups that somebody is of
pub record AreOccupied (row : List Entrant) (some : Bits64) : Type 0 where
  who : (g : ℕ) → g < group_count → set_has some g ≡ true → IsOf row g
  all : (x : ℕ) → x < length row → (entrant_at row x).group < group_count → set_has some (entrant_at row x).group ≡ true

-- the groups that have candidates: neither shut nor empty
record AreHeld (gates : Gates) (some groups : Bits64) : Type 0 where
  held : (g : ℕ) → g < group_count → set_has groups g ≡ ((set_has gates.first g || set_has gates.second g) && set_has some g)

group_has : (parts : List PartFacts) (row : List Entrant) (gates : Gates) (some groups : Bits64)
    (p g : ℕ) → AreGates parts gates → AreOccupied row some → AreHeld gates some groups → g < group_count → g % most_partitions ≡ p → set_has groups g ≡ true
    → has_candidate parts row p ≡ true
group_has parts row gates some groups p g are there held below same here =
    any_among (candidates parts (members (map entrant_seat row))) (entrant_contender e) among (equal (e.group % most_partitions) p partition)
  where
    parted : ((set_has gates.first g || set_has gates.second g) ≡ true) × (set_has some g ≡ true)
    parted = both (set_has gates.first g || set_has gates.second g) (set_has some g) (sym (held.held g below) ∙ here)

    who : IsOf row g
    who = there.who g below parted.1

    e : Entrant
    e = entrant_at row who.place

    inside : e.group < group_count
    inside = omega (arith, who.group, below)

    stands : (set_has gates.first g ≡ true) ⊎ (set_has gates.second g ≡ true) → is_candidate_at parts e ≡ true
    stands (inl one) = (first_stands parts gates e are inside (ap (set_has gates.first) who.group ∙ one)).candidate
    stands (inr two) = (second_stands parts gates e are inside (ap (set_has gates.second) who.group ∙ two)).candidate

    among : Contains (candidates parts (members (map entrant_seat row))) (entrant_contender e)
    among = open_among parts row who.place who.within (stands (one_of (set_has gates.first g) (set_has gates.second g) parted.0))

    partition : e.group % most_partitions ≡ p
    partition = ap (λ (m : ℕ). m % most_partitions) who.group ∙ same

    any_among : (cs : List Contender) (c : Contender) → Contains cs c → is_of p c ≡ true → list_any (is_of p) cs ≡ true
    any_among cs c (k, within, is) h = list_any_at (is_of p) cs k c within (ap (is_of p) is ∙ h)

group_partition : (g p : ℕ) → g < group_count → p < most_partitions → g % most_partitions ≡ p → (g ≡ p) ⊎ (g ≡ p + most_partitions)
group_partition g p g_below p_below same = elim (halves g) [
  | inl low ↦ inl (omega (arith, low, same))
  | inr high ↦ inr (omega (arith, high, g_below, same))
]
  where
    halves : (g : ℕ) → (g < most_partitions) ⊎ (most_partitions ≤ g)
    halves g = search arith

-- the group of a candidate is held
held_by : (parts : List PartFacts) (row : List Entrant) (gates : Gates) (some groups : Bits64)
    (x : ℕ) → AreGates parts gates → AreOccupied row some → AreHeld gates some groups → x < length row
    → is_candidate_at parts (entrant_at row x) ≡ true → set_has groups (entrant_at row x).group ≡ true
held_by parts row gates some groups x are there held within here =
    held.held g below ∙ pair (set_has gates.first g || set_has gates.second g) (set_has some g)
    (either (in_one parts gates (entrant_at row x) are here)) (there.all x within below)
  where
    g : ℕ
    g = (entrant_at row x).group

    below : g < group_count
    below = open_group parts (entrant_at row x) here

    pair : (a b : Bool) → a ≡ true → b ≡ true → (a && b) ≡ true
    pair a b h k = rw (h, k) refl

    left : (a b : Bool) → a ≡ true → (a || b) ≡ true
    left a b h = rw h refl

    right : (a b : Bool) → b ≡ true → (a || b) ≡ true
    right true b h = refl
    right false b h = h

    either : (set_has gates.first g ≡ true) ⊎ (set_has gates.second g ≡ true) → (set_has gates.first g || set_has gates.second g) ≡ true
    either (inl one) = left (set_has gates.first g) (set_has gates.second g) one
    either (inr two) = right (set_has gates.first g) (set_has gates.second g) two

none_has : (parts : List PartFacts) (row : List Entrant) (gates : Gates) (some groups : Bits64)
    (p : ℕ) → AreGates parts gates → AreOccupied row some → AreHeld gates some groups → p < most_partitions
    → set_has groups p ≡ false → set_has groups (p + most_partitions) ≡ false → has_candidate parts row p ≡ false
none_has parts row gates some groups p are there held below plain marked =
    list_any_none (is_of p) (candidates parts (members (map entrant_seat row)))
    (all_candidates (λ (c : Contender). is_of p c ≡ false) parts row (λ x within here. by_test x within here (nat_eq ((entrant_at row x).group % most_partitions) p) refl))
  where
    by_test : (x : ℕ) → x < length row → is_candidate_at parts (entrant_at row x) ≡ true → (t : Bool)
        → nat_eq ((entrant_at row x).group % most_partitions) p ≡ t → nat_eq ((entrant_at row x).group % most_partitions) p ≡ false
    by_test x within here false h = h
    by_test x within here true h =
        let same : (entrant_at row x).group % most_partitions ≡ p = grind (arith, nat_tests) in
        let is_held = held_by parts row gates some groups x are there held within here in
        elim (group_partition (entrant_at row x).group p (open_group parts (entrant_at row x) here) below same) [
          | inl low ↦ absurd (clash (set_has groups p) (ap (set_has groups) (sym low) ∙ is_held) plain)
          | inr high ↦ absurd (clash (set_has groups (p + most_partitions)) (ap (set_has groups) (sym high) ∙ is_held) marked)
        ]

partition_has : (parts : List PartFacts) (row : List Entrant) (gates : Gates) (some groups : Bits64)
    (p : ℕ) → AreGates parts gates → AreOccupied row some → AreHeld gates some groups → p < most_partitions
    → (set_has groups p || set_has groups (p + most_partitions)) ≡ has_candidate parts row p
partition_has parts row gates some groups p are there held below = by_tests (set_has groups p) (set_has groups (p + most_partitions)) refl refl
  where
    same_place : (p : ℕ) → p < most_partitions → p % most_partitions ≡ p
    same_place p h = omega (arith, h)

    marked_place : (p : ℕ) → p < most_partitions → (p + most_partitions) % most_partitions ≡ p
    marked_place p h = omega (arith, h)

    by_tests : (a b : Bool) → set_has groups p ≡ a → set_has groups (p + most_partitions) ≡ b → (a || b) ≡ has_candidate parts row p
    by_tests true b h k =
        sym (group_has parts row gates some groups p p are there held (omega (arith, below)) (same_place p below) h)
    by_tests false true h k =
        sym (group_has parts row gates some groups p (p + most_partitions) are there held (omega (arith, below)) (marked_place p below) k)
    by_tests false false h k = sym (none_has parts row gates some groups p are there held below h k)

-- ---- the partitions with a budget and no candidate

abbrev pub is_starved : List PartFacts → List Entrant → ℕ → Bool
is_starved parts row p = nat_lt 0 (part_at parts p).budget && not (has_candidate parts row p)

-- the sets that the look goes through, by the clauses of its calls
pub record AreSteps (gates : Gates) (a b c d e f : Bits64) : Type 0 where
  pub opened : (k : ℕ) → set_has a k ≡ (set_has gates.first k || set_has gates.second k)
  pub groups : (k : ℕ) → set_has c k ≡ (set_has a k && set_has b k)
  pub upper : (k : ℕ) → set_has d k ≡ set_has c (k + most_partitions)
  pub held : (k : ℕ) → set_has e k ≡ (set_has c k || set_has d k)
  pub starved : (k : ℕ) → k < 64 → set_has f k ≡ (set_has gates.budgeted k && not (set_has e k))

starved_is : (parts : List PartFacts) (row : List Entrant) (gates : Gates) (a b c d e f : Bits64) (p : ℕ) → AreGates parts gates → AreOccupied row b → AreSteps gates a b c d e f → p < most_partitions
    → set_has f p ≡ is_starved parts row p
starved_is parts row gates a b c d e f p are there steps below =
    steps.starved p (omega (arith, below))
    ∙ ap (λ (t : Bool). t && not (set_has e p)) (are.budgeted p (omega (arith, below)) ∙ ap (λ (t : Bool). t && nat_lt 0 (part_at parts p).budget) (less p most_partitions below))
    ∙ ap (λ (t : Bool). nat_lt 0 (part_at parts p).budget && not t)
    (steps.held p ∙ ap (λ (t : Bool). set_has c p || t) (steps.upper p) ∙ partition_has parts row gates b c p are there are_held below)
  where
    less : (a b : ℕ) → a < b → nat_lt a b ≡ true
    less a b h = grind (arith, nat_tests)

    are_held : AreHeld gates b c
    are_held = record { held = λ g _. steps.groups g ∙ ap (λ (t : Bool). t && set_has b g) (steps.opened g) }

-- a partition that starves exists
within_parts : (parts : List PartFacts) (row : List Entrant) (p : ℕ) → is_starved parts row p ≡ true → p < length parts
within_parts parts row p h = by_place (below_or_not p (length parts))
  where
    below_or_not : (a b : ℕ) → (a < b) ⊎ (b ≤ a)
    below_or_not a b = search arith

    by_place : (p < length parts) ⊎ (length parts ≤ p) → p < length parts
    by_place (inl low) = low
    by_place (inr high) =
        let none : (part_at parts p).budget ≡ 0 = ap (λ (part : PartFacts). part.budget) (get_or_past parts p no_part high) in
        absurd (clash (nat_lt 0 (part_at parts p).budget) (both (nat_lt 0 (part_at parts p).budget) (not (has_candidate parts row p)) h).0
        (ap (λ (n : ℕ). nat_lt 0 n) none))

pub starved_found : (parts : List PartFacts) (row : List Entrant) (gates : Gates) (a b c d e f : Bits64) (p : ℕ) → AreGates parts gates
    → AreOccupied row b → AreSteps gates a b c d e f → p < most_partitions
    → set_has f p ≡ true → ((k : ℕ) → k < p → set_has f k ≡ false) → missing parts (members (map entrant_seat row)) ≡ Some p
starved_found parts row gates a b c d e f p are there steps below here earlier =
    let is = starved_is parts row gates a b c d e f in
    let starved : is_starved parts row p ≡ true = sym (is p are there steps below) ∙ here in
    find_some (is_starved parts row) (length parts) p (within_parts parts row p starved) starved
    (λ k low. sym (is k are there steps (omega (arith, low, below))) ∙ earlier k low)

pub none_starved : (parts : List PartFacts) (row : List Entrant) (gates : Gates) (a b c d e f : Bits64) → AreGates parts gates
    → AreOccupied row b → AreSteps gates a b c d e f → length parts ≤ most_partitions
    → ((k : ℕ) → k < most_partitions → set_has f k ≡ false) → missing parts (members (map entrant_seat row)) ≡ None
none_starved parts row gates a b c d e f are there steps few none =
    find_none (is_starved parts row) (length parts)
    (λ k low. sym (starved_is parts row gates a b c d e f k are there steps (omega (arith, low, few))) ∙ none k (omega (arith, low, few)))

-- no partition from number 32 on counts
pub not_past : (parts : List PartFacts) (gates : Gates) (e f : Bits64) (p : ℕ) → AreGates parts gates → p < 64 → most_partitions ≤ p
    → ((k : ℕ) → k < 64 → set_has f k ≡ (set_has gates.budgeted k && not (set_has e k))) → set_has f p ≡ false
not_past parts gates e f p are below past minus =
    minus p below ∙ ap (λ (t : Bool). t && not (set_has e p)) (are.budgeted p below ∙ ap (λ (t : Bool). t && nat_lt 0 (part_at parts p).budget) (not_less p most_partitions past))
  where
    not_less : (a b : ℕ) → b ≤ a → nat_lt a b ≡ false
    not_less a b h = grind (arith, nat_tests)

-- ---- the groups that aren't empty

pub groups_occupied : (row : List Entrant) (some : Bits64) → IsQueued row
    → ((g : ℕ) → g < group_count → set_has some g ≡ nat_lt (level_of (firsts_of row) g) level_count) → AreOccupied row some
groups_occupied row some queued is = record { who = who; all = all }
  where
    low : (l : ℕ) → nat_lt l level_count ≡ true → l < level_count
    low l h = grind (arith, nat_tests)

    less : (a b : ℕ) → a < b → nat_lt a b ≡ true
    less a b h = grind (arith, nat_tests)

    who : (g : ℕ) → g < group_count → set_has some g ≡ true → IsOf row g
    who g below h =
        let found = occupant row (firsts_of row) g (kept row queued) below (low (level_of (firsts_of row) g) (sym (is g below) ∙ h)) in
        record { place = found.place; within = found.within; group = found.group }

    all : (x : ℕ) → x < length row → (entrant_at row x).group < group_count → set_has some (entrant_at row x).group ≡ true
    all x within below =
        is (entrant_at row x).group below
        ∙ less (level_of (firsts_of row) (entrant_at row x).group) level_count
        (omega (arith, level_at_most row (firsts_of row) x (kept row queued) within below, queued.levels x within below))
