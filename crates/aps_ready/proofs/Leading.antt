use Rattle.std.proofs.Common.{◌≡◌, ◌⊎◌, inl, inr, ℕ, ◌+◌, ◌%◌, ◌<◌, ◌≤◌, Bool, true, false, ◌&&◌, ◌||◌, not, nat_eq, nat_lt, List, refl, sym, ◌∙◌, ap, arith}
use Rattle.std.proofs.lemmas.Bool.Decides.{nat_tests}
use Rattle.aps_model.specs.declared.merit.PartFacts.{PartFacts}
use Rattle.aps_model.specs.Merit.{smaller}
use Rattle.aps_model.specs.Budget.{part_at}
use Rattle.aps_model.specs.Limits.{most_partitions}
use Rattle.aps_levels.specs.declared.bits.Bits64.{Bits64}
use Rattle.aps_levels.specs.Bits.{set_has}
use Rattle.aps_ready.specs.declared.leaders.Leaders.{Leaders}
use Rattle.aps_ready.specs.Leaders.{is_less_than, is_more_than, HasGroup, AreLeading, AreLeaders}
use Rattle.aps_ready.specs.Small.{IsSmall}
use Rattle.aps_ready.proofs.Fractions.{smaller_one_way, smaller_not_itself, smaller_than_more, has_budget}
use Rattle.aps_ready.specs.Group.{group_count}

clash : (t : Bool) → t ≡ true → t ≡ false → ⊥
clash t p q = cc

either : (a b : Bool) → (a || b) ≡ true → (a ≡ true) ⊎ (b ≡ true)
either true b h = inl refl
either false b h = inr h

or_left : (a b : Bool) → a ≡ true → (a || b) ≡ true
or_left true b h = refl
or_left false b h = absurd cc

or_right : (a b : Bool) → b ≡ true → (a || b) ≡ true
or_right true b h = refl
or_right false b h = h

pair : (a b : Bool) → a ≡ true → b ≡ true → (a && b) ≡ true
pair a b h k = rw (h, k) refl

first : (a b : Bool) → (a && b) ≡ true → a ≡ true
first true b h = refl
first false b h = absurd cc

second : (a b : Bool) → (a && b) ≡ true → b ≡ true
second true b h = h
second false b h = absurd cc

pub same_of : (a b : ℕ) → nat_eq a b ≡ true → a ≡ b
same_of a b h = grind (arith, nat_tests)

equal : (a b : ℕ) → a ≡ b → nat_eq a b ≡ true
equal a b h = grind (arith, nat_tests)

-- ---- the same groups, told otherwise

pub leading_same : (parts : List PartFacts) (before after : ℕ → Bool) (leaders : Leaders)
    → ((g : ℕ) → g < group_count → before g ≡ after g) → AreLeading parts before leaders → AreLeading parts after leaders
leading_same parts before after leaders same are = record {
  level = are.level;
  all = λ g below h. are.all g below (same g below ∙ h);
  least = λ g below h. are.least g below (same g below ∙ h);
  some = λ have. let s = are.some have in (s.0, s.1, sym (same s.0 s.1) ∙ s.2, s.3);
  one = are.one;
  used = are.used;
  budget = are.budget;
}

-- nobody leads where nobody was seen
pub none_leading : (parts : List PartFacts) (seen : ℕ → Bool) (leaders : Leaders) → ((g : ℕ) → g < group_count → seen g ≡ false)
    → ((g : ℕ) → set_has leaders.groups g ≡ false) → leaders.used ≡ 1 → leaders.budget ≡ 0 → AreLeading parts seen leaders
none_leading parts seen leaders unseen none one no_budget = record {
  level = λ g _ h. absurd (clash (set_has leaders.groups g) h (none g));
  all = λ g below h. absurd (clash (seen g) h (unseen g below));
  least = λ g below h. absurd (clash (seen g) h (unseen g below));
  some = λ have. absurd (omega (arith, have, no_budget));
  one = λ _. one;
  used = omega (arith, one);
  budget = omega (arith, no_budget);
}

-- ---- the groups of one more partition

-- those of them that are in the set
abbrev pub more_of : (ℕ → Bool) → ℕ → ℕ → Bool
more_of set p g = set g && nat_eq (g % most_partitions) p

-- these are the two groups of the partition
abbrev pub AreOf : ℕ → (ℕ → Bool) → Type 0
AreOf p these = (g : ℕ) → g < group_count → these g ≡ nat_eq (g % most_partitions) p

own : (these : ℕ → Bool) (p g : ℕ) → AreOf p these → g < group_count → these g ≡ true → g % most_partitions ≡ p
own these p g are below h = same_of (g % most_partitions) p (sym (are g below) ∙ h)

-- the partition of the group stands so
part_here : (parts : List PartFacts) (part : PartFacts) (p g : ℕ) → part ≡ part_at parts p → g % most_partitions ≡ p → part_at parts (g % most_partitions) ≡ part
part_here parts part p g is own = ap (part_at parts) own ∙ sym is

own_of : (set : ℕ → Bool) (p g : ℕ) → more_of set p g ≡ true → g % most_partitions ≡ p
own_of set p g h = same_of (g % most_partitions) p (second (set g) (nat_eq (g % most_partitions) p) h)

more_in : (set : ℕ → Bool) (these : ℕ → Bool) (p g : ℕ) → AreOf p these → g < group_count → more_of set p g ≡ true → these g ≡ true
more_in set these p g are below h = are g below ∙ second (set g) (nat_eq (g % most_partitions) p) h

-- the partition has used less
pub less_more : (parts : List PartFacts) (set seen : ℕ → Bool) (old : Leaders) (part : PartFacts) (p budget : ℕ) (groups : Bits64)
    → part ≡ part_at parts p → AreOf p (set_has groups) → HasGroup set p → AreLeading parts seen old → IsSmall part → budget ≡ part.budget
    → smaller part.used part.budget old.used old.budget ≡ true
    → AreLeading parts (λ g. seen g || more_of set p g) (record { groups = groups; used = part.used; budget = budget })
less_more parts set seen old part p budget groups is are_of one are small same less = record {
  level = λ g below h.
      ap (λ (q : PartFacts). smaller part.used budget q.used q.budget) (part_here parts part p g is (own (set_has groups) p g are_of below h)) ∙ self;
  all = λ g below among not_less. elim (either (seen g) (more_of set p g) among) [
    | inl s ↦ absurd (clash (is_less_than parts part.used budget g) (seen_less g below s) not_less)
    | inr m ↦ more_in set (set_has groups) p g are_of below m
  ];
  least = λ g below among. elim (either (seen g) (more_of set p g) among) [
    | inl s ↦ smaller_one_way part.used budget (part_at parts (g % most_partitions)).used (part_at parts (g % most_partitions)).budget (seen_less g below s)
    | inr m ↦
        ap (λ (q : PartFacts). smaller q.used q.budget part.used budget) (part_here parts part p g is (own_of set p g m)) ∙ self_too
  ];
  some = λ _. (
    one.group,
    one.inside,
    or_right (seen one.group) (more_of set p one.group)
        (pair (set one.group) (nat_eq (one.group % most_partitions) p) one.here (equal (one.group % most_partitions) p one.own)),
    are_of one.group one.inside ∙ equal (one.group % most_partitions) p one.own,
  );
  one = λ none. absurd (omega (arith, none, same, has_budget part.used part.budget old.used old.budget less));
  used = small.used;
  budget = omega (arith, same, small.budget);
}
  where
    self : smaller part.used budget part.used part.budget ≡ false
    self = ap (λ (b : ℕ). smaller part.used b part.used part.budget) same ∙ smaller_not_itself part.used part.budget

    self_too : smaller part.used part.budget part.used budget ≡ false
    self_too = ap (λ (b : ℕ). smaller part.used part.budget part.used b) same ∙ smaller_not_itself part.used part.budget

    seen_less : (g : ℕ) → g < group_count → seen g ≡ true → is_less_than parts part.used budget g ≡ true
    seen_less g below s =
        smaller_than_more part.used budget (part_at parts (g % most_partitions)).used (part_at parts (g % most_partitions)).budget old.used old.budget
        (ap (λ (b : ℕ). smaller part.used b old.used old.budget) same ∙ less) (are.least g below s)

-- it has used no less; whether it has used more says who leads
not_less_more : (parts : List PartFacts) (set seen : ℕ → Bool) (old : Leaders) (part : PartFacts) (p : ℕ) → part ≡ part_at parts p
    → AreLeading parts seen old → smaller part.used part.budget old.used old.budget ≡ false
    → (g : ℕ) → g < group_count → (seen g || more_of set p g) ≡ true → is_more_than parts old.used old.budget g ≡ false
not_less_more parts set seen old part p is are h g below among = elim (either (seen g) (more_of set p g) among) [
  | inl s ↦ are.least g below s
  | inr m ↦ ap (λ (q : PartFacts). smaller q.used q.budget old.used old.budget) (part_here parts part p g is (own_of set p g m)) ∙ h
]

-- it has used the same fraction
pub equal_more : (parts : List PartFacts) (set seen : ℕ → Bool) (old : Leaders) (part : PartFacts) (p : ℕ) (groups joined : Bits64)
    → part ≡ part_at parts p → AreOf p (set_has groups) → AreLeading parts seen old
    → ((g : ℕ) → set_has joined g ≡ (set_has old.groups g || set_has groups g))
    → smaller part.used part.budget old.used old.budget ≡ false → smaller old.used old.budget part.used part.budget ≡ false
    → AreLeading parts (λ g. seen g || more_of set p g) (record { groups = joined; used = old.used; budget = old.budget })
equal_more parts set seen old part p groups joined is are_of are join h i = record {
  level = λ g below in_joined. elim (either (set_has old.groups g) (set_has groups g) (sym (join g) ∙ in_joined)) [
    | inl o ↦ are.level g below o
    | inr n ↦ ap (λ (q : PartFacts). smaller old.used old.budget q.used q.budget) (part_here parts part p g is (own (set_has groups) p g are_of below n)) ∙ i
  ];
  all = λ g below among not_less. join g ∙ (elim (either (seen g) (more_of set p g) among) [
    | inl s ↦ or_left (set_has old.groups g) (set_has groups g) (are.all g below s not_less)
    | inr m ↦ or_right (set_has old.groups g) (set_has groups g) (more_in set (set_has groups) p g are_of below m)
  ]);
  least = not_less_more parts set seen old part p is are h;
  some = λ have.
      let s = are.some have in
      (s.0, s.1, or_left (seen s.0) (more_of set p s.0) s.2, join s.0 ∙ or_left (set_has old.groups s.0) (set_has groups s.0) s.3);
  one = are.one;
  used = are.used;
  budget = are.budget;
}

-- it has used more
pub more_more : (parts : List PartFacts) (set seen : ℕ → Bool) (old : Leaders) (part : PartFacts) (p : ℕ)
    → part ≡ part_at parts p → AreLeading parts seen old → smaller old.used old.budget part.used part.budget ≡ true
    → AreLeading parts (λ g. seen g || more_of set p g) old
more_more parts set seen old part p is are i = record {
  level = are.level;
  all = λ g below among not_less. elim (either (seen g) (more_of set p g) among) [
    | inl s ↦ are.all g below s not_less
    | inr m ↦ absurd (clash (is_less_than parts old.used old.budget g)
        (ap (λ (q : PartFacts). smaller old.used old.budget q.used q.budget) (part_here parts part p g is (own_of set p g m)) ∙ i) not_less)
  ];
  least = not_less_more parts set seen old part p is are (smaller_one_way old.used old.budget part.used part.budget i);
  some = λ have. let s = are.some have in (s.0, s.1, or_left (seen s.0) (more_of set p s.0) s.2, s.3);
  one = are.one;
  used = are.used;
  budget = are.budget;
}

-- ---- where all were seen, those of the set lead

pub leaders_of : (parts : List PartFacts) (set : ℕ → Bool) (leading : Leaders) (groups : Bits64)
    → AreLeading parts set leading → ((g : ℕ) → set_has groups g ≡ (set_has leading.groups g && set g))
    → AreLeaders parts set (record { groups = groups; used = leading.used; budget = leading.budget })
leaders_of parts set leading groups are meet = record {
  these = λ g below. meet g ∙ picked (set_has leading.groups g) (set g)
      (is_less_than parts leading.used leading.budget g) (are.level g below) (λ among not_less. are.all g below among not_less);
  least = are.least;
  some = λ have. let s = are.some have in (s.0, s.1, meet s.0 ∙ pair (set_has leading.groups s.0) (set s.0) s.3 s.2);
}
  where
    both_true : (w : Bool) → w ≡ (w && not false)
    both_true true = refl
    both_true false = refl

    picked : (l w x : Bool) → (l ≡ true → x ≡ false) → (w ≡ true → x ≡ false → l ≡ true) → (l && w) ≡ (w && not x)
    picked true w x level all = both_true w ∙ sym (ap (λ (t : Bool). w && not t) (level refl))
    picked false true true level all = refl
    picked false true false level all = absurd (clash false (all refl refl) refl)
    picked false false x level all = refl

-- a group is of a partition where it is one of its two
pub one_of_two : (g p : ℕ) → g < group_count → p < most_partitions → (nat_eq g (p + most_partitions) || (nat_eq g p || false)) ≡ nat_eq (g % most_partitions) p
one_of_two g p below p_below = grind (arith, nat_tests)

-- ---- the groups that were seen

-- all those of partitions that aren't left
abbrev pub seen_of : (ℕ → Bool) → (ℕ → Bool) → ℕ → Bool
seen_of wanted left g = wanted g && not (left (g % most_partitions))

pub none_seen : (w l : Bool) → (w ≡ true → l ≡ true) → (w && not l) ≡ false
none_seen true true h = refl
none_seen true false h = absurd (clash true refl (sym (h refl)))
none_seen false l h = refl

pub one_more : (wanted left after : ℕ → Bool) (p : ℕ) → ((k : ℕ) → after k ≡ (not (nat_eq k p) && left k))
    → (g : ℕ) → (seen_of wanted left g || (wanted g && nat_eq (g % most_partitions) p)) ≡ seen_of wanted after g
one_more wanted left after p without g =
    split (wanted g) (left (g % most_partitions)) (nat_eq (g % most_partitions) p) ∙ ap (λ (t : Bool). wanted g && not t) (sym (without (g % most_partitions)))
  where
    split : (w l s : Bool) → ((w && not l) || (w && s)) ≡ (w && not (not s && l))
    split false l s = refl
    split true true true = refl
    split true true false = refl
    split true false true = refl
    split true false false = refl

pub all_seen : (w l : Bool) → l ≡ false → (w && not l) ≡ w
all_seen true l none = ap not none
all_seen false l none = refl

-- ---- the partitions that exist

is_less : (a b : ℕ) → nat_lt a b ≡ true → a < b
is_less a b h = grind (arith, nat_tests)

less : (a b : ℕ) → a < b → nat_lt a b ≡ true
less a b h = grind (arith, nat_tests)

pub cut_of : (all left : ℕ → Bool) (end p : ℕ) → ((k : ℕ) → left k ≡ (nat_lt k end && all k)) → left p ≡ true → (p < end) × (all p ≡ true)
cut_of all left end p is h =
    let both = sym (is p) ∙ h in
    (is_less p end (first (nat_lt p end) (all p) both), second (nat_lt p end) (all p) both)

pub kept_in : (all left : ℕ → Bool) (end p : ℕ) → ((k : ℕ) → left k ≡ (nat_lt k end && all k)) → p < end → all p ≡ true
    → left p ≡ true
kept_in all left end p is below h = is p ∙ pair (nat_lt p end) (all p) (less p end below) h

-- ---- the partitions that groups are of

below_or_not : (a b : ℕ) → (a < b) ⊎ (b ≤ a)
below_or_not a b = search arith

pub has_group : (groups upper joined half : ℕ → Bool) → ((k : ℕ) → upper k ≡ groups (k + most_partitions)) → ((k : ℕ) → joined k ≡ (groups k || upper k))
    → ((k : ℕ) → half k ≡ (nat_lt k most_partitions && joined k)) → (p : ℕ) → half p ≡ true → HasGroup groups p
has_group groups upper joined half upper_is joined_is half_is p h =
    let both = sym (half_is p) ∙ h in
    let low : p < most_partitions = is_less p most_partitions (first (nat_lt p most_partitions) (joined p) both) in
    elim (either (groups p) (upper p) (sym (joined_is p) ∙ second (nat_lt p most_partitions) (joined p) both)) [
      | inl here ↦ record { below = low; group = p; inside = omega (arith, low); here = here; own = omega (arith, low) }
      | inr here ↦
          record { below = low; group = p + most_partitions; inside = omega (arith, low); here = sym (upper_is p) ∙ here; own = omega (arith, low) }
    ]

pub folded : (groups upper joined half : ℕ → Bool) → ((k : ℕ) → upper k ≡ groups (k + most_partitions)) → ((k : ℕ) → joined k ≡ (groups k || upper k))
    → ((k : ℕ) → half k ≡ (nat_lt k most_partitions && joined k)) → (g : ℕ) → g < group_count → groups g ≡ true → half (g % most_partitions) ≡ true
folded groups upper joined half upper_is joined_is half_is g below h =
    half_is (g % most_partitions)
    ∙ pair (nat_lt (g % most_partitions) most_partitions) (joined (g % most_partitions)) (less (g % most_partitions) most_partitions (omega arith))
    (joined_is (g % most_partitions) ∙ (elim (below_or_not g most_partitions) [
      | inl low ↦
          let same : g % most_partitions ≡ g = omega (arith, low) in
          ap (λ (t : Bool). t || upper (g % most_partitions)) (ap groups same ∙ h)
      | inr high ↦
          let same : g % most_partitions + most_partitions ≡ g = omega (arith, high, below) in
          or_right (groups (g % most_partitions)) (upper (g % most_partitions)) (upper_is (g % most_partitions) ∙ ap groups same ∙ h)
    ]))
