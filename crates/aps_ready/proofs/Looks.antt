use Rattle.std.proofs.Common.{◌≡◌, ◌≢◌, ◌⊎◌, inl, inr, ℕ, ◌<◌, ◌≤◌, Bool, true, false, ◌&&◌, nat_eq, nat_lt, List, length, refl, sym, ◌∙◌, ap, subst, arith}
use Rattle.std.proofs.lemmas.Bool.Decides.{nat_tests}
use Rattle.aps_model.specs.Limits.{most_threads}
use Rattle.aps_levels.specs.declared.bits.Bits64.{Bits64}
use Rattle.aps_levels.specs.Bits.{set_has}
use Rattle.aps_levels.specs.Levels.{level_count}
use Rattle.aps_ready.specs.declared.entrant.Entrant.{Entrant}
use Rattle.aps_ready.specs.Best.{Sits}
use Rattle.aps_ready.specs.Entrant.{entrant_at, goes_before}
use Rattle.aps_ready.specs.Firsts.{firsts_of, level_of, AreAt, AreEmpty, AreLeast}
use Rattle.aps_ready.specs.Lists.{head_of, link, list_of, IsNode, IsLinked, AreLists}
use Rattle.aps_ready.specs.Table.{bits_at, AreAtLeast, HasLevel, IsLevelFree}
use Rattle.aps_ready.proofs.ListLaws.{headed, same_head, head_low}
use Rattle.aps_ready.proofs.Rings.{within_row, list_of_thread, list_of_head, head_node}
use Rattle.aps_ready.proofs.Tops.{IsTop, kept, top_of, Occupant, occupant, level_at_most}
use Rattle.aps_ready.specs.Group.{group_count}

below_or_not : (a b : ℕ) → (a < b) ⊎ (b ≤ a)
below_or_not a b = search arith

clash : (t : Bool) → t ≡ true → t ≡ false → ⊥
clash t p q = cc

less : (a b : ℕ) → a < b → nat_lt a b ≡ true
less a b h = grind (arith, nat_tests)

not_less : (a b : ℕ) → b ≤ a → nat_lt a b ≡ false
not_less a b h = grind (arith, nat_tests)

equal_self : (g : ℕ) → nat_eq g g ≡ true
equal_self g = grind (arith, nat_tests)

is_same : (a b : ℕ) → nat_eq a b ≡ true → a ≡ b
is_same a b h = grind (arith, nat_tests)

equal : (a b : ℕ) → a ≡ b → nat_eq a b ≡ true
equal a b h = grind (arith, nat_tests)

not_equal : (a b : ℕ) → a ≢ b → nat_eq a b ≡ false
not_equal a b h = grind (arith, nat_tests)

both : (a b : Bool) → (a && b) ≡ true → (a ≡ true) × (b ≡ true)
both true b h = (refl, h)
both false b h = absurd cc

pair : (a b : Bool) → a ≡ true → b ≡ true → (a && b) ≡ true
pair a b h k = rw (h, k) refl

-- ---- who stands in a list

-- the first of a list that isn't empty
pub record IsIn (row : List Entrant) (l g x : ℕ) : Type 0 where
  pub within : x < length row
  pub group : (entrant_at row x).group ≡ g
  pub level : (entrant_at row x).level ≡ l

-- a thread in the list of a level and a group is of these
in_list : (row : List Entrant) (l g x : ℕ) → IsNode row x → x < most_threads → g < group_count → list_of row x ≡ head_of l g → IsIn row l g x
in_list row l g x node low below list =
    let there = node.there low in
    let same = same_head (entrant_at row x).level (entrant_at row x).group l g there below (sym (list_of_thread row x low) ∙ list) in
    record { within = within_row row x there; group = same.1; level = same.0 }

-- whom the link of a head leads to
behind_head : (row : List Entrant) (after before : List ℕ) (at_level : List Bits64) (l g : ℕ) → AreLists row after before at_level → l < level_count → g < group_count
    → link after (head_of l g) < most_threads → IsIn row l g (link after (head_of l g))
behind_head row after before at_level l g lists l_below g_below low =
    let head : most_threads ≤ head_of l g = omega arith in
    let is : IsLinked row after before (head_of l g) =
    lists.rings.forth (head_of l g) (head_node row (head_of l g) head (head_low l g l_below g_below)) in
    in_list row l g (link after (head_of l g)) is.node low g_below (is.same ∙ list_of_head row (head_of l g) head)

-- somebody is in a list that is known
somebody : (row : List Entrant) (after before : List ℕ) (at_level : List Bits64) (l g : ℕ) → AreLists row after before at_level → l < level_count → g < group_count
    → set_has (bits_at at_level l) g ≡ true → IsIn row l g (link after (head_of l g))
somebody row after before at_level l g lists l_below g_below h =
    let head : most_threads ≤ head_of l g = omega arith in
    let is : IsLinked row after before (head_of l g) =
    lists.rings.forth (head_of l g) (head_node row (head_of l g) head (head_low l g l_below g_below)) in
    elim (below_or_not (link after (head_of l g)) most_threads) [
      | inl low ↦ behind_head row after before at_level l g lists l_below g_below low
      | inr high ↦
          absurd (lists.some l g l_below g_below h (sym (list_of_head row (link after (head_of l g)) high) ∙ is.same ∙ list_of_head row (head_of l g) head))
    ]

-- ---- the levels of the groups

-- a group is at no level below that of its first
at_most : (row : List Entrant) (after before : List ℕ) (at_level : List Bits64) (l g : ℕ) → AreLists row after before at_level → l < level_count → g < group_count
    → set_has (bits_at at_level l) g ≡ true → level_of (firsts_of row) g ≤ l
at_most row after before at_level l g lists l_below g_below h =
    let one = somebody row after before at_level l g lists l_below g_below h in
    let x = link after (head_of l g) in
    let there : (entrant_at row x).group < group_count = omega (arith, one.group, g_below) in
    let most = level_at_most row (firsts_of row) x (kept row lists.queued) one.within there in
    omega (arith, one.level, ap (level_of (firsts_of row)) one.group, most)

-- and it is at that level
there_is : (row : List Entrant) (after before : List ℕ) (at_level : List Bits64) (g : ℕ) → AreLists row after before at_level → g < group_count
    → level_of (firsts_of row) g < level_count → set_has (bits_at at_level (level_of (firsts_of row) g)) g ≡ true
there_is row after before at_level g lists below some =
    let one = occupant row (firsts_of row) g (kept row lists.queued) below some in
    let there : (entrant_at row one.place).group < group_count = omega (arith, one.group, below) in
    ap (λ (k : ℕ). set_has (bits_at at_level k) g) (sym one.level)
    ∙ ap (set_has (bits_at at_level (entrant_at row one.place).level)) (sym one.group) ∙ lists.used one.place there

pub are_occupied : (row : List Entrant) (after before : List ℕ) (at_level : List Bits64) (occupied : Bits64) → AreLists row after before at_level
    → ((g : ℕ) → g < group_count → set_has occupied g ≡ true → HasLevel at_level g)
    → ((l g : ℕ) → l < level_count → g < group_count → set_has (bits_at at_level l) g ≡ true → set_has occupied g ≡ true)
    → (g : ℕ) → g < group_count → set_has occupied g ≡ nat_lt (level_of (firsts_of row) g) level_count
are_occupied row after before at_level occupied lists some all g below = by_test (set_has occupied g) refl
  where
    level : ℕ
    level = level_of (firsts_of row) g

    by_test : (t : Bool) → set_has occupied g ≡ t → set_has occupied g ≡ nat_lt level level_count
    by_test true h =
        let at = some g below h in
        h ∙ sym (less level level_count (omega (arith, at.below, at_most row after before at_level at.level g lists at.below below at.here)))
    by_test false h = elim (below_or_not level level_count) [
      | inl low ↦ absurd (clash (set_has occupied g) (all level g low below (there_is row after before at_level g lists below low)) h)
      | inr high ↦ h ∙ sym (not_less level level_count high)
    ]

-- ---- the least level of a set

same_at : (row : List Entrant) (after before : List ℕ) (at_level : List Bits64) (set : ℕ → Bool) (l g : ℕ) → AreLists row after before at_level
    → l < level_count → g < group_count → ((k : ℕ) → k < l → IsLevelFree at_level set k) → set g ≡ true
    → set_has (bits_at at_level l) g ≡ nat_eq (level_of (firsts_of row) g) l
same_at row after before at_level set l g lists l_below g_below free among = by_test (set_has (bits_at at_level l) g) refl
  where
    level : ℕ
    level = level_of (firsts_of row) g

    by_test : (t : Bool) → set_has (bits_at at_level l) g ≡ t → set_has (bits_at at_level l) g ≡ nat_eq level l
    by_test true h = elim (below_or_not level l) [
      | inl low ↦ absurd (clash (set_has (bits_at at_level level) g && set g)
          (pair (set_has (bits_at at_level level) g) (set g) (there_is row after before at_level g lists g_below (omega (arith, low, l_below))) among)
          (free level low g g_below))
      | inr high ↦ h ∙ sym (equal level l (omega (arith, high, at_most row after before at_level l g lists l_below g_below h)))
    ]
    by_test false h = h ∙ sym (not_equal level l (λ same.
        clash (set_has (bits_at at_level l) g)
        (ap (λ (k : ℕ). set_has (bits_at at_level k) g) (sym same) ∙ there_is row after before at_level g lists g_below (omega (arith, same, l_below))) h))

pub least_is : (row : List Entrant) (after before : List ℕ) (at_level : List Bits64) (set found : ℕ → Bool) (l : ℕ) → AreLists row after before at_level
    → AreAtLeast at_level set l found → AreLeast (firsts_of row) set found
least_is row after before at_level set found l lists least = record {
  level = l;
  below = least.below;
  group = least.group;
  inside = least.inside;
  some = least.some;
  these = λ g below. least.these g below ∙ by_test g below (set g) refl;
  least = λ g below among. elim (below_or_not (level_of (firsts_of row) g) l) [
    | inl low ↦ absurd (clash (set_has (bits_at at_level (level_of (firsts_of row) g)) g && set g)
        (pair (set_has (bits_at at_level (level_of (firsts_of row) g)) g) (set g)
        (there_is row after before at_level g lists below (omega (arith, low, least.below))) among)
        (least.free (level_of (firsts_of row) g) low g below))
    | inr high ↦ high
  ];
}
  where
    flat : (t : Bool) → (t && false) ≡ false
    flat true = refl
    flat false = refl

    by_test : (g : ℕ) → g < group_count → (t : Bool) → set g ≡ t → (set_has (bits_at at_level l) g && set g) ≡ (nat_eq (level_of (firsts_of row) g) l && set g)
    by_test g below true h = ap (λ (t : Bool). t && set g) (same_at row after before at_level set l g lists least.below below least.free h)
    by_test g below false h =
        ap (λ (t : Bool). set_has (bits_at at_level l) g && t) h ∙ flat (set_has (bits_at at_level l) g)
        ∙ sym (ap (λ (t : Bool). nat_eq (level_of (firsts_of row) g) l && t) h ∙ flat (nat_eq (level_of (firsts_of row) g) l))

pub least_at : (row : List Entrant) (after before : List ℕ) (at_level : List Bits64) (set found : ℕ → Bool) (l : ℕ) → AreLists row after before at_level
    → AreAtLeast at_level set l found → AreAt (firsts_of row) found l
least_at row after before at_level set found l lists least = record {
  below = least.below;
  same = λ g below h.
      let parts = both (set_has (bits_at at_level l) g) (set g) (sym (least.these g below) ∙ h) in
      is_same (level_of (firsts_of row) g) l
      (sym (same_at row after before at_level set l g lists least.below below least.free parts.1) ∙ parts.0);
}

pub none_least : (row : List Entrant) (after before : List ℕ) (at_level : List Bits64) (set : Bits64) → AreLists row after before at_level
    → ((l : ℕ) → l < level_count → IsLevelFree at_level (set_has set) l) → AreEmpty (firsts_of row) set
none_least row after before at_level set lists free g below among = elim (below_or_not (level_of (firsts_of row) g) level_count) [
  | inl low ↦ absurd (clash (set_has (bits_at at_level (level_of (firsts_of row) g)) g && set_has set g)
      (pair (set_has (bits_at at_level (level_of (firsts_of row) g)) g) (set_has set g) (there_is row after before at_level g lists below low) among)
      (free (level_of (firsts_of row) g) low g below))
  | inr high ↦ high
]

-- ---- the first of a group

after_or_not : (a b : Entrant) → goes_before a b ≡ false → a.level ≡ b.level → b.stamp ≤ a.stamp
after_or_not a b h same = grind (arith, nat_tests)

-- the first of a group stands behind the head of the list of its level
pub record IsFirstOf (row : List Entrant) (after : List ℕ) (l g : ℕ) : Type 0 where
  pub within : link after (head_of l g) < length row
  pub is : entrant_at row (link after (head_of l g)) ≡ entrant_at (firsts_of row) g

pub first_is : (row : List Entrant) (after before : List ℕ) (at_level : List Bits64) (l g : ℕ) → AreLists row after before at_level → l < level_count → g < group_count
    → level_of (firsts_of row) g ≡ l → IsFirstOf row after l g
first_is row after before at_level l g lists l_below g_below level = record {
  within = first.within;
  is = ap (entrant_at row) (lists.queued.stamps t sits.place first.within sits.within t_there sits_there
      (omega (arith, least, most, ap (λ (e : Entrant). e.stamp) sits.is))) ∙ sits.is;
}
  where
    t : ℕ
    t = link after (head_of l g)

    one : Occupant row g (level_of (firsts_of row) g)
    one = occupant row (firsts_of row) g (kept row lists.queued) g_below (omega (arith, level, l_below))

    -- whoever is of this group and level has a thread before it
    list_is : (x : ℕ) → x < length row → (entrant_at row x).group ≡ g → (entrant_at row x).level ≡ l → list_of row x ≡ head_of l g
    list_is x within group is =
        list_of_thread row x (omega (arith, lists.rings.few x (omega (arith, group, g_below)))) ∙ ap (λ (k : ℕ). head_of k (entrant_at row x).group) is ∙ ap (head_of l) group

    low : t < most_threads
    low = subst (λ (h : ℕ). link after h < most_threads) (list_is one.place one.within one.group (one.level ∙ level))
        (headed row after before one.place lists.rings (omega (arith, one.group, g_below))).thread

    first : IsIn row l g t
    first = behind_head row after before at_level l g lists l_below g_below low

    t_there : (entrant_at row t).group < group_count
    t_there = omega (arith, first.group, g_below)

    top : IsTop row g (entrant_at (firsts_of row) g)
    top = top_of row (firsts_of row) g (kept row lists.queued) g_below

    behind : ((entrant_at (firsts_of row) g).group ≡ g) × (goes_before (entrant_at row t) (entrant_at (firsts_of row) g) ≡ false)
    behind = top.first t first.within first.group

    sits : Sits row (entrant_at (firsts_of row) g)
    sits = top.sits (omega (arith, behind.0, g_below))

    sits_there : (entrant_at row sits.place).group < group_count
    sits_there = omega (arith, ap (λ (e : Entrant). e.group) sits.is, behind.0, g_below)

    least : (entrant_at (firsts_of row) g).stamp ≤ (entrant_at row t).stamp
    least = after_or_not (entrant_at row t) (entrant_at (firsts_of row) g) behind.1 (first.level ∙ sym level)

    most : (entrant_at row t).stamp ≤ (entrant_at row sits.place).stamp
    most = subst (λ (h : ℕ). (entrant_at row (link after h)).stamp ≤ (entrant_at row sits.place).stamp)
        (list_is sits.place sits.within (ap (λ (e : Entrant). e.group) sits.is ∙ behind.0) (ap (λ (e : Entrant). e.level) sits.is ∙ level))
        (headed row after before sits.place lists.rings sits_there).first
