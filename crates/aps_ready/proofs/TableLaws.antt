use Rattle.std.proofs.Common.{◌≡◌, ◌≢◌, ◌⊎◌, inl, inr, ℕ, ◌+◌, ◌-◌, ◌<◌, ◌≤◌, Bool, true, false, not, ◌&&◌, ◌||◌, nat_eq, List, length, get_or, set, replicate, refl, sym, ◌∙◌, ap, subst, arith, get_or-set_same, get_or-set_other}
use Rattle.std.proofs.lemmas.Bool.{cases_eq}
use Rattle.std.proofs.lemmas.Bool.Decides.{nat_tests}
use Rattle.std.proofs.lemmas.List.{get_or_read, get_or_past, get_or-replicate, length-replicate}
use Rattle.aps_levels.specs.declared.bits.Bits64.{Bits64}
use Rattle.aps_levels.specs.declared.levels.Levels.{Levels}
use Rattle.aps_levels.specs.Bits.{set_has}
use Rattle.aps_levels.specs.Levels.{has_level, level_count}
use Rattle.aps_ready.specs.Table.{bits_at, levels_at, no_bits, no_levels, AreAtLeast, IsFirstLevel, IsLevelFree, IsLevelTable}
use Rattle.aps_ready.specs.Group.{group_count}

equal_self : (g : ℕ) → nat_eq g g ≡ true
equal_self g = grind (arith, nat_tests)

not_equal : (g k : ℕ) → g ≢ k → nat_eq g k ≡ false
not_equal g k ne = grind (arith, nat_tests)

-- ---- one place of a row is set

flat : (t : Bool) → (t && false) ≡ false
flat true = refl
flat false = refl

whole : (t : Bool) → (t && true) ≡ t
whole true = refl
whole false = refl

-- the levels of a group get, or lose, one
pub with_in : (of_group : List Levels) (before after : Levels) (level group : ℕ) → group < length of_group → before ≡ get_or of_group group before
    → ((k : ℕ) → has_level after k ≡ (nat_eq k level || has_level before k))
    → (l g : ℕ) → has_level (levels_at (set of_group group after) g) l ≡ ((nat_eq l level && nat_eq g group) || has_level (levels_at of_group g) l)
with_in of_group before after level group within read with l g = elim (cases_eq g group) [
  | inl same ↦
      let here : levels_at (set of_group group after) g ≡ after =
      ap (levels_at (set of_group group after)) same ∙ get_or-set_same of_group group after no_levels within in
      let was : before ≡ levels_at of_group g = get_or_read of_group group before within read no_levels ∙ ap (levels_at of_group) (sym same) in
      ap (λ (s : Levels). has_level s l) here ∙ with l ∙ ap (λ (s : Levels). nat_eq l level || has_level s l) was
      ∙ ap (λ (t : Bool). t || has_level (levels_at of_group g) l)
      (sym (ap (λ (t : Bool). nat_eq l level && t) (ap (λ (k : ℕ). nat_eq k group) same ∙ equal_self group) ∙ whole (nat_eq l level)))
  | inr ne ↦
      ap (λ (s : Levels). has_level s l) (get_or-set_other of_group group g after no_levels ne)
      ∙ ap (λ (t : Bool). t || has_level (levels_at of_group g) l)
      (sym (ap (λ (t : Bool). nat_eq l level && t) (not_equal g group ne) ∙ flat (nat_eq l level)))
]

pub without_in : (of_group : List Levels) (before after : Levels) (level group : ℕ) → group < length of_group → before ≡ get_or of_group group before
    → ((k : ℕ) → has_level after k ≡ (not (nat_eq k level) && has_level before k))
    → (l g : ℕ) → has_level (levels_at (set of_group group after) g) l ≡ (not (nat_eq l level && nat_eq g group) && has_level (levels_at of_group g) l)
without_in of_group before after level group within read without l g = elim (cases_eq g group) [
  | inl same ↦
      let here : levels_at (set of_group group after) g ≡ after =
      ap (levels_at (set of_group group after)) same ∙ get_or-set_same of_group group after no_levels within in
      let was : before ≡ levels_at of_group g = get_or_read of_group group before within read no_levels ∙ ap (levels_at of_group) (sym same) in
      ap (λ (s : Levels). has_level s l) here ∙ without l ∙ ap (λ (s : Levels). not (nat_eq l level) && has_level s l) was
      ∙ ap (λ (t : Bool). not t && has_level (levels_at of_group g) l)
      (sym (ap (λ (t : Bool). nat_eq l level && t) (ap (λ (k : ℕ). nat_eq k group) same ∙ equal_self group) ∙ whole (nat_eq l level)))
  | inr ne ↦
      ap (λ (s : Levels). has_level s l) (get_or-set_other of_group group g after no_levels ne)
      ∙ ap (λ (t : Bool). not t && has_level (levels_at of_group g) l)
      (sym (ap (λ (t : Bool). nat_eq l level && t) (not_equal g group ne) ∙ flat (nat_eq l level)))
]

-- ---- a group comes to a level, or goes

left_is : (a b : Bool) → a ≡ true → (a || b) ≡ true
left_is a b h = rw h refl

right_is : (a b : Bool) → b ≡ true → (a || b) ≡ true
right_is true b h = refl
right_is false b h = h

either : (a b : Bool) → (a || b) ≡ true → (a ≡ true) ⊎ (b ≡ true)
either true b h = inl refl
either false b h = inr h

both : (a b : Bool) → (a && b) ≡ true → (a ≡ true) × (b ≡ true)
both true b h = (refl, h)
both false b h = absurd cc

is_same : (a b : ℕ) → nat_eq a b ≡ true → a ≡ b
is_same a b h = grind (arith, nat_tests)

pub entered : (at_level new : List Bits64) (levels more : Levels) (of_group new_of : List Levels) (some all : Bits64) (level group : ℕ)
    → IsLevelTable at_level levels of_group some → level < level_count → group < group_count → length new ≡ length at_level → length new_of ≡ length of_group
    → ((l g : ℕ) → set_has (bits_at new l) g ≡ ((nat_eq l level && nat_eq g group) || set_has (bits_at at_level l) g))
    → ((l g : ℕ) → has_level (levels_at new_of g) l ≡ ((nat_eq l level && nat_eq g group) || has_level (levels_at of_group g) l))
    → ((k : ℕ) → has_level more k ≡ (nat_eq k level || has_level levels k))
    → ((k : ℕ) → set_has all k ≡ (nat_eq k group || set_has some k))
    → IsLevelTable new more new_of all
entered at_level new levels more of_group new_of some all level group table l_below g_below each groups at in_group with_level with_group = record {
  each = each ∙ table.each;
  groups = groups ∙ table.groups;
  in_use = λ l g l_in g_in h. with_level l ∙ (elim (either (nat_eq l level && nat_eq g group) (set_has (bits_at at_level l) g) (sym (at l g) ∙ h)) [
    | inl this ↦ left_is (nat_eq l level) (has_level levels l) (both (nat_eq l level) (nat_eq g group) this).0
    | inr old ↦ right_is (nat_eq l level) (has_level levels l) (table.in_use l g l_in g_in old)
  ]);
  used = λ l l_in h. elim (either (nat_eq l level) (has_level levels l) (sym (with_level l) ∙ h)) [
    | inl this ↦ record {
      group = group;
      below = g_below;
      here = at l group ∙ left_is (nat_eq l level && nat_eq group group) (set_has (bits_at at_level l) group)
          (ap (λ (t : Bool). t && nat_eq group group) this ∙ equal_self group);
    }
    | inr old ↦
        let was = table.used l l_in old in
        record {
          group = was.group;
          below = was.below;
          here = at l was.group ∙ right_is (nat_eq l level && nat_eq was.group group) (set_has (bits_at at_level l) was.group) was.here;
        }
  ];
  same = λ l g l_in g_in. in_group l g ∙ ap (λ (t : Bool). (nat_eq l level && nat_eq g group) || t) (table.same l g l_in g_in) ∙ sym (at l g);
  all = λ l g l_in g_in h. with_group g ∙ (elim (either (nat_eq l level && nat_eq g group) (set_has (bits_at at_level l) g) (sym (at l g) ∙ h)) [
    | inl this ↦ left_is (nat_eq g group) (set_has some g) (both (nat_eq l level) (nat_eq g group) this).1
    | inr old ↦ right_is (nat_eq g group) (set_has some g) (table.all l g l_in g_in old)
  ]);
  some = λ g g_in h. elim (either (nat_eq g group) (set_has some g) (sym (with_group g) ∙ h)) [
    | inl this ↦ record {
      level = level;
      below = l_below;
      here = at level g ∙ left_is (nat_eq level level && nat_eq g group) (set_has (bits_at at_level level) g)
          (ap (λ (t : Bool). t && nat_eq g group) (equal_self level) ∙ this);
    }
    | inr old ↦
        let was = table.some g g_in old in
        record {
          level = was.level;
          below = was.below;
          here = at was.level g ∙ right_is (nat_eq was.level level && nat_eq g group) (set_has (bits_at at_level was.level) g) was.here;
        }
  ];
}

pub left : (at_level new : List Bits64) (levels fewer : Levels) (of_group new_of : List Levels) (some rest : Bits64) (level group : ℕ)
    → IsLevelTable at_level levels of_group some → level < level_count → group < group_count → length new ≡ level_count → length new_of ≡ group_count
    → ((l g : ℕ) → set_has (bits_at new l) g ≡ (not (nat_eq l level && nat_eq g group) && set_has (bits_at at_level l) g))
    → ((l g : ℕ) → l < level_count → g < group_count → set_has (bits_at new l) g ≡ true → has_level levels l ≡ true → has_level fewer l ≡ true)
    → ((l : ℕ) → has_level fewer l ≡ true → has_level levels l ≡ true)
    → (has_level fewer level ≡ true → (g : ℕ) × (g < group_count) × (set_has (bits_at new level) g ≡ true))
    → ((l g : ℕ) → has_level (levels_at new_of g) l ≡ (not (nat_eq l level && nat_eq g group) && has_level (levels_at of_group g) l))
    → ((l g : ℕ) → l < level_count → g < group_count → has_level (levels_at new_of g) l ≡ true → set_has some g ≡ true → set_has rest g ≡ true)
    → ((g : ℕ) → set_has rest g ≡ true → set_has some g ≡ true)
    → (set_has rest group ≡ true → (l : ℕ) × (l < level_count) × (has_level (levels_at new_of group) l ≡ true))
    → IsLevelTable new fewer new_of rest
left at_level new levels fewer of_group new_of some rest level group table l_below g_below each groups at in_fewer before_level own_level in_group all before own = record {
  each = each;
  groups = groups;
  in_use = λ l g l_in g_in h. in_fewer l g l_in g_in h
      (table.in_use l g l_in g_in (both (not (nat_eq l level && nat_eq g group)) (set_has (bits_at at_level l) g) (sym (at l g) ∙ h)).1);
  used = λ l l_in h. elim (cases_eq l level) [
    | inl is ↦
        let one = own_level (ap (has_level fewer) (sym is) ∙ h) in
        record { group = one.0; below = one.1; here = ap (λ (k : ℕ). set_has (bits_at new k) one.0) is ∙ one.2 }
    | inr ne ↦
        let was = table.used l l_in (before_level l h) in
        record {
          group = was.group;
          below = was.below;
          here = at l was.group
              ∙ ap (λ (t : Bool). not (t && nat_eq was.group group) && set_has (bits_at at_level l) was.group) (not_equal l level ne) ∙ was.here;
        }
  ];
  same = same;
  all = λ l g l_in g_in h. all l g l_in g_in (same l g l_in g_in ∙ h)
      (table.all l g l_in g_in (both (not (nat_eq l level && nat_eq g group)) (set_has (bits_at at_level l) g) (sym (at l g) ∙ h)).1);
  some = λ g g_in h. elim (cases_eq g group) [
    | inl is ↦
        let one = own (ap (set_has rest) (sym is) ∙ h) in
        record {
          level = one.0;
          below = one.1;
          here = ap (λ (k : ℕ). set_has (bits_at new one.0) k) is ∙ sym (same one.0 group one.1 g_below) ∙ one.2;
        }
    | inr ne ↦
        let was = table.some g g_in (before g h) in
        record {
          level = was.level;
          below = was.below;
          here = at was.level g
              ∙ ap (λ (t : Bool). not (nat_eq was.level level && t) && set_has (bits_at at_level was.level) g) (not_equal g group ne)
              ∙ ap (λ (t : Bool). not t && set_has (bits_at at_level was.level) g) (flat (nat_eq was.level level)) ∙ was.here;
        }
  ];
}
  where
    same : (l g : ℕ) → l < level_count → g < group_count → has_level (levels_at new_of g) l ≡ set_has (bits_at new l) g
    same l g l_in g_in =
        in_group l g ∙ ap (λ (t : Bool). not (nat_eq l level && nat_eq g group) && t) (table.same l g l_in g_in) ∙ sym (at l g)

-- a level that is left by its last group is no longer in use
pub left_in_use : (at_level : List Bits64) (levels fewer : Levels) (rest : Bits64) (level l g : ℕ) → length at_level ≡ level_count → level < level_count
    → ((k : ℕ) → set_has rest k ≡ false) → ((k : ℕ) → has_level fewer k ≡ (not (nat_eq k level) && has_level levels k))
    → set_has (bits_at (set at_level level rest) l) g ≡ true → has_level levels l ≡ true → has_level fewer l ≡ true
left_in_use at_level levels fewer rest level l g count below empty without still kept = elim (cases_eq l level) [
  | inl same ↦
      let here : bits_at (set at_level level rest) l ≡ rest =
      ap (bits_at (set at_level level rest)) same ∙ get_or-set_same at_level level rest no_bits (omega (arith, count, below)) in
      absurd (clash (set_has rest g) (ap (λ (b : Bits64). set_has b g) (sym here) ∙ still) (empty g))
  | inr ne ↦ without l ∙ ap (λ (t : Bool). not t && has_level levels l) (not_equal l level ne) ∙ kept
]
  where
    clash : (t : Bool) → t ≡ true → t ≡ false → ⊥
    clash t p q = cc

-- ---- the search

below_or_not : (a b : ℕ) → (a < b) ⊎ (b ≤ a)
below_or_not a b = search arith

-- a level that isn't in use has no group
unused : (at_level : List Bits64) (levels : Levels) (of_group : List Levels) (some : Bits64) (l g : ℕ) → IsLevelTable at_level levels of_group some → l < level_count → g < group_count → has_level levels l ≡ false → set_has (bits_at at_level l) g ≡ false
unused at_level levels of_group some l g index l_below g_below none = by_test (set_has (bits_at at_level l) g) refl
  where
    by_test : (t : Bool) → set_has (bits_at at_level l) g ≡ t → set_has (bits_at at_level l) g ≡ false
    by_test true h = absurd (clash (has_level levels l) (index.in_use l g l_below g_below h) none)
      where
        clash : (u : Bool) → u ≡ true → u ≡ false → ⊥
        clash u p q = cc
    by_test false h = h

and_false : (a b : Bool) → a ≡ false → (a && b) ≡ false
and_false a b h = rw h refl

clash : (t : Bool) → t ≡ true → t ≡ false → ⊥
clash t p q = cc

-- at the levels of a word that are no longer left no group of the set is
pub record IsSearched (at_level : List Bits64) (word left set : Bits64) (from : ℕ) : Type 0 where
  pub done : (k : ℕ) → k < 64 → set_has word k ≡ true → set_has left k ≡ false → IsLevelFree at_level (set_has set) (from + k)

pub none_searched : (at_level : List Bits64) (word set : Bits64) (from : ℕ) → IsSearched at_level word word set from
none_searched at_level word set from = record { done = λ k below h none. absurd (clash (set_has word k) h none) }

pub one_searched : (at_level : List Bits64) (word left after set : Bits64) (from p : ℕ) → IsSearched at_level word left set from
    → ((k : ℕ) → set_has after k ≡ (not (nat_eq k p) && set_has left k)) → IsLevelFree at_level (set_has set) (from + p) → IsSearched at_level word after set from
one_searched at_level word left after set from p searched without free = record {
  done = λ k below h none. elim (cases_eq k p) [
    | inl same ↦ subst (λ j. IsLevelFree at_level (set_has set) (from + j)) (sym same) free
    | inr ne ↦ searched.done k below h (sym (without k ∙ ap (λ (t : Bool). not t && set_has left k) (not_equal k p ne)) ∙ none)
  ];
}

pub first_found : (at_level : List Bits64) (word left set found : Bits64) (from p group : ℕ) → IsSearched at_level word left set from
    → p < 64 → ((k : ℕ) → k < p → set_has left k ≡ false)
    → ((g : ℕ) → set_has found g ≡ (set_has (bits_at at_level (from + p)) g && set_has set g)) → group < group_count → set_has found group ≡ true
    → IsFirstLevel at_level word (set_has set) from (from + p) (set_has found)
first_found at_level word left set found from p group searched below earlier these inside some = record {
  place = p;
  below = below;
  at = refl;
  group = group;
  inside = inside;
  some = some;
  these = λ g _. these g;
  earlier = λ k low h. searched.done k (omega (arith, low, below)) h (earlier k low);
}

-- no group of the set is at any of the first levels of a quarter where none is at those in use, nor at any before
pub quarter_free : (at_level : List Bits64) (levels : Levels) (of_group : List Levels) (some word : Bits64) (set : ℕ → Bool) (from most : ℕ) → IsLevelTable at_level levels of_group some
    → from + most ≤ level_count → most ≤ 64 → ((k : ℕ) → k < 64 → set_has word k ≡ has_level levels (from + k)) → ((l : ℕ) → l < from → IsLevelFree at_level set l)
    → ((k : ℕ) → k < most → set_has word k ≡ true → IsLevelFree at_level set (from + k)) → (l : ℕ) → l < from + most → IsLevelFree at_level set l
quarter_free at_level levels of_group some word set from most table inside few same before free l low = elim (below_or_not l from) [
  | inl early ↦ before l early
  | inr late ↦ subst (IsLevelFree at_level set) (omega (arith, late)) (by_word (l - from) (omega (arith, low, late)) (set_has word (l - from)) refl)
]
  where
    by_word : (k : ℕ) → k < most → (t : Bool) → set_has word k ≡ t → IsLevelFree at_level set (from + k)
    by_word k below true h = free k below h
    by_word k below false h = λ g g_below.
        and_false (set_has (bits_at at_level (from + k)) g) (set g)
        (unused at_level levels of_group some (from + k) g table (omega (arith, below, inside)) g_below (sym (same k (omega (arith, below, few))) ∙ h))

pub first_is_least : (at_level : List Bits64) (levels : Levels) (of_group : List Levels) (some word : Bits64) (set : ℕ → Bool) (from level : ℕ) (found : ℕ → Bool)
    → IsLevelTable at_level levels of_group some → from + 64 ≤ level_count → ((k : ℕ) → k < 64 → set_has word k ≡ has_level levels (from + k)) → ((l : ℕ) → l < from → IsLevelFree at_level set l)
    → IsFirstLevel at_level word set from level found → AreAtLeast at_level set level found
first_is_least at_level levels of_group some word set from level found table inside same before first =
    let at = first.at in
    let below = first.below in
    record {
      below = omega (arith, at, below, inside);
      group = first.group;
      inside = first.inside;
      some = first.some;
      these = first.these;
      free = λ l low.
          quarter_free at_level levels of_group some word set from first.place table (omega (arith, below, inside)) (omega (arith, below)) same before
          first.earlier l (omega (arith, low, at));
    }

-- ---- nobody is anywhere

no_bit : (k : ℕ) → set_has no_bits k ≡ false
no_bit k = grind (arith, nat_tests)

no_level : (k : ℕ) → has_level no_levels k ≡ false
no_level k = grind (arith, nat_tests)

pub nowhere : (b : Bits64) (n l g : ℕ) → ((k : ℕ) → set_has b k ≡ false) → set_has (bits_at (replicate n b) l) g ≡ false
nowhere b n l g none = elim (below_or_not l n) [
  | inl low ↦ ap (λ (c : Bits64). set_has c g) (get_or-replicate n l b no_bits low) ∙ none g
  | inr past ↦ ap (λ (c : Bits64). set_has c g) (get_or_past (replicate n b) l no_bits (omega (arith, past, length-replicate n b))) ∙ no_bit g
]

pub at_none : (s : Levels) (n g l : ℕ) → ((k : ℕ) → has_level s k ≡ false) → has_level (levels_at (replicate n s) g) l ≡ false
at_none s n g l none = elim (below_or_not g n) [
  | inl low ↦ ap (λ (t : Levels). has_level t l) (get_or-replicate n g s no_levels low) ∙ none l
  | inr past ↦ ap (λ (t : Levels). has_level t l) (get_or_past (replicate n s) g no_levels (omega (arith, past, length-replicate n s))) ∙ no_level l
]

pub empty_table : (b some : Bits64) (s levels : Levels) → ((k : ℕ) → set_has b k ≡ false) → ((k : ℕ) → has_level s k ≡ false)
    → ((k : ℕ) → has_level levels k ≡ false)
    → ((k : ℕ) → set_has some k ≡ false) → IsLevelTable (replicate level_count b) levels (replicate group_count s) some
empty_table b some s levels none no_levels idle nobody = record {
  used = λ l _ h. absurd (clash (has_level levels l) h (idle l));
  each = length-replicate level_count b;
  groups = length-replicate group_count s;
  in_use = λ l g l_below g_below h. absurd (clash (set_has (bits_at (replicate level_count b) l) g) h (nowhere b level_count l g none));
  same = λ l g l_below g_below. at_none s group_count g l no_levels ∙ sym (nowhere b level_count l g none);
  all = λ l g l_below g_below h. absurd (clash (set_has (bits_at (replicate level_count b) l) g) h (nowhere b level_count l g none));
  some = λ g g_below h. absurd (clash (set_has some g) h (nobody g));
}
  where
    clash : (t : Bool) → t ≡ true → t ≡ false → ⊥
    clash t p q = cc

-- a group without a level is at none
pub left_occupied : (of_group : List Levels) (after : Levels) (occupied rest : Bits64) (group l g : ℕ) → group < length of_group
    → ((k : ℕ) → has_level after k ≡ false) → ((k : ℕ) → set_has rest k ≡ (not (nat_eq k group) && set_has occupied k))
    → has_level (levels_at (set of_group group after) g) l ≡ true → set_has occupied g ≡ true → set_has rest g ≡ true
left_occupied of_group after occupied rest group l g within none without still was = elim (cases_eq g group) [
  | inl same ↦
      let here : levels_at (set of_group group after) g ≡ after =
      ap (levels_at (set of_group group after)) same ∙ get_or-set_same of_group group after no_levels within in
      absurd (clash (has_level after l) (ap (λ (s : Levels). has_level s l) (sym here) ∙ still) (none l))
  | inr ne ↦ without g ∙ ap (λ (t : Bool). not t && set_has occupied g) (not_equal g group ne) ∙ was
]
  where
    clash : (t : Bool) → t ≡ true → t ≡ false → ⊥
    clash t p q = cc
