use Rattle.std.proofs.Common.{◌≡◌, ◌≢◌, ℕ, ◌-◌, ◌%◌, ◌<◌, ◌≤◌, ◌⊎◌, inl, inr, Bool, true, false, cond, ◌&&◌, ◌||◌, nat_eq, nat_lt, List, refl, sym, ◌∙◌, ap, arith}
use Rattle.std.proofs.lemmas.Bool.Decides.{nat_tests}
use Rattle.aps_model.specs.declared.shape.Free.{Free}
use Rattle.aps_model.specs.declared.shape.Free.TheVariants.{Priority, Ratio}
use Rattle.aps_model.specs.declared.merit.PartFacts.{PartFacts}
use Rattle.aps_model.specs.declared.merit.Merit.{Merit}
use Rattle.aps_model.specs.Merit.{smaller, class_of, greater_first, is_greater}
use Rattle.aps_model.specs.Budget.{part_at}
use Rattle.aps_model.specs.Pick.{merit_among}
use Rattle.aps_model.proofs.MeritOrder.{greater_order}
use Rattle.aps_model.specs.Limits.{greatest_priority, most_partitions}
use Rattle.aps_ready.specs.declared.entrant.Entrant.{Entrant}
use Rattle.aps_ready.specs.Entrant.{goes_before}
use Rattle.aps_ready.specs.Ready.{entrant_facts, entrant_contender}
use Rattle.aps_ready.specs.Choice.{ahead_by, is_ahead, is_ahead_by_level}
use Rattle.aps_ready.specs.Winner.{is_above}

-- ---- tests of numbers

less : (a b : ℕ) → a < b → nat_lt a b ≡ true
less a b h = grind (arith, nat_tests)

not_less : (a b : ℕ) → b ≤ a → nat_lt a b ≡ false
not_less a b h = grind (arith, nat_tests)

equal : (a b : ℕ) → a ≡ b → nat_eq a b ≡ true
equal a b h = grind (arith, nat_tests)

not_equal : (a b : ℕ) → a ≢ b → nat_eq a b ≡ false
not_equal a b h = grind (arith, nat_tests)

below_or_not : (a b : ℕ) → (a < b) ⊎ (b ≤ a)
below_or_not a b = search arith

-- ---- the order among those of one class

abbrev part_of : List PartFacts → Entrant → PartFacts
part_of parts e = part_at parts (e.group % most_partitions)

-- the merit of an entrant, as if it were of this class
abbrev pub of_class : ℕ → List PartFacts → Entrant → Merit
of_class k parts e = record {
  class = k;
  priority = greatest_priority - e.level;
  used = (part_of parts e).used;
  budget = (part_of parts e).budget;
  stamp = e.stamp;
}

-- the lower level has the higher priority
by_level : (la lb sa sb : ℕ) → la ≤ greatest_priority → lb ≤ greatest_priority
    → (nat_lt la lb || (nat_eq la lb && nat_lt sa sb)) ≡ greater_first (greatest_priority - la) (greatest_priority - lb) (nat_lt sa sb)
by_level la lb sa sb a_small b_small = elim (below_or_not la lb) [
  | inl low ↦
      ap (λ (t : Bool). t || (nat_eq la lb && nat_lt sa sb)) (less la lb low)
      ∙ sym (ap (λ (t : Bool). cond t true (cond (nat_lt (greatest_priority - la) (greatest_priority - lb)) false (nat_lt sa sb)))
      (less (greatest_priority - lb) (greatest_priority - la) (omega (arith, low, a_small, b_small))))
  | inr high ↦ elim (below_or_not lb la) [
    | inl more ↦
        let left : (nat_lt la lb || (nat_eq la lb && nat_lt sa sb)) ≡ false =
        rw (not_less la lb high, not_equal la lb (λ e. omega (arith, e, more))) refl in
        let right : greater_first (greatest_priority - la) (greatest_priority - lb) (nat_lt sa sb) ≡ false =
        rw (not_less (greatest_priority - lb) (greatest_priority - la) (omega (arith, more)), less (greatest_priority - la) (greatest_priority - lb) (omega (arith, more, a_small))) refl in
        left ∙ sym right
    | inr same ↦
        let left : (nat_lt la lb || (nat_eq la lb && nat_lt sa sb)) ≡ nat_lt sa sb =
        rw (not_less la lb high, equal la lb (omega (arith, high, same))) refl in
        let right : greater_first (greatest_priority - la) (greatest_priority - lb) (nat_lt sa sb) ≡ nat_lt sa sb =
        rw (not_less (greatest_priority - lb) (greatest_priority - la) (omega (arith, high, same)), not_less (greatest_priority - la) (greatest_priority - lb) (omega (arith, high, same))) refl in
        left ∙ sym right
  ]
]

-- it is the order of merits of class 0 by ratio
ahead_is : (parts : List PartFacts) (a b : Entrant) → a.level ≤ greatest_priority → b.level ≤ greatest_priority
    → is_ahead parts a b ≡ is_greater Ratio (of_class 0 parts a) (of_class 0 parts b)
ahead_is parts a b a_small b_small = ap (ahead_by (part_of parts a) (part_of parts b)) (by_level a.level b.level a.stamp b.stamp a_small b_small)

not_smaller : (u b : ℕ) → smaller u b u b ≡ false
not_smaller u b = grind (arith, nat_tests)

-- in one partition the level and the stamp decide
pub ahead_in_part : (parts : List PartFacts) (a b : Entrant) → a.group % most_partitions ≡ b.group % most_partitions → is_ahead parts a b ≡ goes_before a b
ahead_in_part parts a b same =
    let part = part_of parts b in
    let flat : ahead_by part part (goes_before a b) ≡ goes_before a b =
    ap (λ (t : Bool). cond t true (cond t false (goes_before a b))) (not_smaller part.used part.budget) in
    ap (λ (p : ℕ). ahead_by (part_at parts p) part (goes_before a b)) same ∙ flat

-- ---- merits

abbrev pub class_at : List PartFacts → Entrant → ℕ
class_at parts e = class_of (entrant_facts e) (part_at parts (e.group % most_partitions))

with_classes : (free : Free) (parts : List PartFacts) (a b : Entrant) (j k : ℕ) → class_at parts a ≡ j → class_at parts b ≡ k
    → is_above free parts a b ≡ is_greater free (of_class j parts a) (of_class k parts b)
with_classes free parts a b j k h i =
    ap (λ (n : ℕ). is_greater free (of_class n parts a) (merit_among parts (entrant_contender b))) h
    ∙ ap (λ (n : ℕ). is_greater free (of_class j parts a) (of_class n parts b)) i

abbrev numbers : ℕ → ℕ → ℕ → ℕ → ℕ → Merit
numbers k p u b s = record { class = k; priority = p; used = u; budget = b; stamp = s }

either : (t x : Bool) → cond (t && t) x x ≡ x
either true x = refl
either false x = refl

-- of one class and one priority the fraction and the stamp decide
tie : (free : Free) (k p ua ba sa ub bb sb : ℕ)
    → is_greater free (numbers k p ua ba sa) (numbers k p ub bb sb)
    ≡ cond (smaller ua ba ub bb) true (cond (smaller ub bb ua ba) false (nat_lt sa sb))
tie Priority k p ua ba sa ub bb sb = rw (not_less k k (omega arith), not_less p p (omega arith)) refl
tie Ratio k p ua ba sa ub bb sb =
    rw (not_less k k (omega arith), not_less p p (omega arith))
    (either (nat_eq k 0) (cond (smaller ua ba ub bb) true (cond (smaller ub bb ua ba) false (nat_lt sa sb))))

before_tie : (a b : Entrant) → a.level ≡ b.level → goes_before a b ≡ nat_lt a.stamp b.stamp
before_tie a b same =
    rw (not_less a.level b.level (omega (arith, same)), equal a.level b.level same) refl

-- of one class and one level the fraction and the stamp decide
pub above_at_level : (free : Free) (parts : List PartFacts) (a b : Entrant) (k : ℕ) → class_at parts a ≡ k → class_at parts b ≡ k
    → a.level ≡ b.level → is_above free parts a b ≡ is_ahead parts a b
above_at_level free parts a b k h i same =
    let u = part_of parts a in
    let v = part_of parts b in
    with_classes free parts a b k k h i
    ∙ ap (λ (l : ℕ). is_greater free (numbers k (greatest_priority - l) u.used u.budget a.stamp) (of_class k parts b)) same
    ∙ tie free k (greatest_priority - b.level) u.used u.budget a.stamp v.used v.budget b.stamp
    ∙ ap (ahead_by u v) (sym (before_tie a b same))

pub above_tie : (free : Free) (parts : List PartFacts) (a b : Entrant) (k : ℕ) → class_at parts a ≡ k → class_at parts b ≡ k
    → a.level ≡ b.level → is_ahead parts a b ≡ false → is_above free parts a b ≡ false
above_tie free parts a b k h i same behind = above_at_level free parts a b k h i same ∙ behind

-- of class 0, where free time goes by ratio, the level comes after the fraction
pub above_second_by_ratio : (parts : List PartFacts) (a b : Entrant) → class_at parts a ≡ 0 → class_at parts b ≡ 0
    → a.level ≤ greatest_priority → b.level ≤ greatest_priority → is_above Ratio parts a b ≡ is_ahead parts a b
above_second_by_ratio parts a b h i a_small b_small = with_classes Ratio parts a b 0 0 h i ∙ sym (ahead_is parts a b a_small b_small)

pub above_by_ratio : (parts : List PartFacts) (a b : Entrant) → class_at parts a ≡ 0 → class_at parts b ≡ 0
    → a.level ≤ greatest_priority → b.level ≤ greatest_priority → is_ahead parts a b ≡ false → is_above Ratio parts a b ≡ false
above_by_ratio parts a b h i a_small b_small behind =
    above_second_by_ratio parts a b h i a_small b_small ∙ behind

lower : (k pa pb : ℕ) (rest : Bool) → pa < pb → greater_first k k (greater_first pa pb rest) ≡ false
lower k pa pb rest low = rw (not_less k k (omega arith), not_less pb pa (omega (arith, low)), less pa pb low) refl

pub above_lower_second : (parts : List PartFacts) (a b : Entrant) → class_at parts a ≡ 0 → class_at parts b ≡ 0
    → b.level < a.level → a.level ≤ greatest_priority → is_above Priority parts a b ≡ false
above_lower_second parts a b h i low small =
    with_classes Priority parts a b 0 0 h i ∙ lower 0 (greatest_priority - a.level) (greatest_priority - b.level) _ (omega (arith, low, small))

pub above_lower_first : (free : Free) (parts : List PartFacts) (a b : Entrant) → class_at parts a ≡ 1 → class_at parts b ≡ 1
    → b.level < a.level → a.level ≤ greatest_priority → is_above free parts a b ≡ false
above_lower_first Priority parts a b h i low small =
    with_classes Priority parts a b 1 1 h i ∙ lower 1 (greatest_priority - a.level) (greatest_priority - b.level) _ (omega (arith, low, small))
above_lower_first Ratio parts a b h i low small =
    with_classes Ratio parts a b 1 1 h i ∙ lower 1 (greatest_priority - a.level) (greatest_priority - b.level) _ (omega (arith, low, small))

pub above_class : (free : Free) (parts : List PartFacts) (a b : Entrant) → class_at parts a ≡ 0 → class_at parts b ≡ 1
    → is_above free parts a b ≡ false
above_class Priority parts a b h i = with_classes Priority parts a b 0 1 h i ∙ refl
above_class Ratio parts a b h i = with_classes Ratio parts a b 0 1 h i ∙ refl

pub above_first : (free : Free) (parts : List PartFacts) (a b : Entrant) → class_at parts a ≡ 1 → class_at parts b ≡ 0
    → is_above free parts a b ≡ true
above_first Priority parts a b h i = with_classes Priority parts a b 1 0 h i ∙ refl
above_first Ratio parts a b h i = with_classes Ratio parts a b 1 0 h i ∙ refl

-- ---- the level comes first

higher : (k pa pb : ℕ) (rest : Bool) → pb < pa → greater_first k k (greater_first pa pb rest) ≡ true
higher k pa pb rest high = rw (not_less k k (omega arith), less pb pa high) refl

-- what is so of the lower and of the higher level, and where they are equal, is so by level
by_levels : (parts : List PartFacts) (a b : Entrant) (above : Bool) → (a.level ≡ b.level → above ≡ is_ahead parts a b)
    → (a.level < b.level → above ≡ true) → (b.level < a.level → above ≡ false) → above ≡ is_ahead_by_level parts a b
by_levels parts a b above same low high = elim (below_or_not a.level b.level) [
  | inl below ↦
      low below ∙ sym (ap (λ (t : Bool). cond t (is_ahead parts a b) (nat_lt a.level b.level)) (not_equal a.level b.level (λ e. omega (arith, e, below)))
      ∙ less a.level b.level below)
  | inr least ↦ elim (below_or_not b.level a.level) [
    | inl over ↦
        high over ∙ sym (ap (λ (t : Bool). cond t (is_ahead parts a b) (nat_lt a.level b.level)) (not_equal a.level b.level (λ e. omega (arith, e, over)))
        ∙ not_less a.level b.level least)
    | inr most ↦
        let e : a.level ≡ b.level = omega (arith, least, most) in
        same e ∙ sym (ap (λ (t : Bool). cond t (is_ahead parts a b) (nat_lt a.level b.level)) (equal a.level b.level e))
  ]
]

pub above_first_by_level : (free : Free) (parts : List PartFacts) (a b : Entrant) → class_at parts a ≡ 1 → class_at parts b ≡ 1
    → a.level ≤ greatest_priority → b.level ≤ greatest_priority → is_above free parts a b ≡ is_ahead_by_level parts a b
above_first_by_level free parts a b h i a_small b_small =
    by_levels parts a b (is_above free parts a b) (above_at_level free parts a b 1 h i)
    (λ low. above_higher free (omega (arith, low, b_small)))
    (λ high. above_lower_first free parts a b h i high a_small)
  where
    above_higher : (free : Free) → greatest_priority - b.level < greatest_priority - a.level → is_above free parts a b ≡ true
    above_higher Priority high = with_classes Priority parts a b 1 1 h i ∙ higher 1 (greatest_priority - a.level) (greatest_priority - b.level) _ high
    above_higher Ratio high = with_classes Ratio parts a b 1 1 h i ∙ higher 1 (greatest_priority - a.level) (greatest_priority - b.level) _ high

pub above_second_by_level : (parts : List PartFacts) (a b : Entrant) → class_at parts a ≡ 0 → class_at parts b ≡ 0
    → a.level ≤ greatest_priority → b.level ≤ greatest_priority → is_above Priority parts a b ≡ is_ahead_by_level parts a b
above_second_by_level parts a b h i a_small b_small =
    by_levels parts a b (is_above Priority parts a b) (above_at_level Priority parts a b 0 h i)
    (λ low. with_classes Priority parts a b 0 0 h i ∙ higher 0 (greatest_priority - a.level) (greatest_priority - b.level) _ (omega (arith, low, b_small)))
    (λ high. above_lower_second parts a b h i high a_small)

-- ---- nobody is above whoever isn't below

pub above_one_way : (free : Free) (parts : List PartFacts) (a b : Entrant) → is_above free parts a b ≡ true → is_above free parts b a ≡ false
above_one_way free parts a b h = (greater_order free).one_way (merit_among parts (entrant_contender a)) (merit_among parts (entrant_contender b)) h
