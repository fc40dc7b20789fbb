use Rattle.std.proofs.Common.{◌≡◌, ◌≢◌, ◌⊎◌, inl, inr, ℕ, ◌+◌, ◌-◌, ◌%◌, ◌<◌, ◌≤◌, Bool, true, false, cond, ◌&&◌, nat_eq, nat_lt, List, [], ◌∷◌, ◌++◌, length, get_or, set, sym, ◌∙◌, ap, refl, arith, get_or-set_same, get_or-set_other}
use Rattle.std.proofs.lemmas.Bool.{cases_eq}
use Rattle.std.proofs.Math.Seq.{get_or-append_seam}
use Rattle.std.proofs.lemmas.List.{get_or_append_left, get_or-append_right, get_or_past}
use Rattle.std.proofs.lemmas.Bool.Decides.{nat_tests}
use Rattle.aps_model.specs.declared.merit.PartFacts.{PartFacts}
use Rattle.aps_model.specs.Budget.{part_at, no_part}
use Rattle.aps_model.specs.Limits.{last_partition, most_partitions}
use Rattle.aps_levels.specs.declared.bits.Bits64.{Bits64}
use Rattle.aps_levels.specs.Bits.{set_has}
use Rattle.aps_ready.specs.declared.gates.Gates.{Gates}
use Rattle.aps_ready.specs.Gates.{is_open_first, is_open_second, AreGatesOf}
use Rattle.aps_ready.specs.Group.{group_count}

-- ---- one partition stands otherwise

equal : (a b : ℕ) → a ≡ b → nat_eq a b ≡ true
equal a b same = grind (arith, nat_tests)

not_equal : (a b : ℕ) → a ≢ b → nat_eq a b ≡ false
not_equal a b other = grind (arith, nat_tests)

less : (a b : ℕ) → a < b → nat_lt a b ≡ true
less a b h = grind (arith, nat_tests)

not_less : (a b : ℕ) → b ≤ a → nat_lt a b ≡ false
not_less a b h = grind (arith, nat_tests)

set_here : (n : ℕ) (old : PartFacts) (p : ℕ) (part : PartFacts) → n ≡ p → cond (nat_eq n p) part old ≡ part
set_here n old p part same = ap (λ (t : Bool). cond t part old) (equal n p same)

set_there : (n : ℕ) (old : PartFacts) (p : ℕ) (part : PartFacts) → n ≢ p → cond (nat_eq n p) part old ≡ old
set_there n old p part other = ap (λ (t : Bool). cond t part old) (not_equal n p other)

below_or_not : (a b : ℕ) → (a < b) ⊎ (b ≤ a)
below_or_not a b = search arith

-- a group is of the partition, or its marked one, or of another partition
group_of : (g p : ℕ) → g < group_count → p < most_partitions
    → ((g ≡ p + most_partitions) × (nat_lt last_partition g ≡ true)) ⊎ (((g ≡ p) × (nat_lt last_partition g ≡ false)) ⊎ (g % most_partitions ≢ p))
group_of g p below small = elim (cases_eq (g % most_partitions) p) [
  | inr other ↦ inr (inr other)
  | inl same ↦ elim (below_or_not g most_partitions) [
    | inl low ↦ inr (inl (omega (arith, low, same), grind (arith, nat_tests)))
    | inr high ↦ inl (omega (arith, high, below, same), grind (arith, nat_tests))
  ]
]

pub gate_set : (test : PartFacts → Bool → Bool) (stands : ℕ → PartFacts) (p : ℕ) (part : PartFacts) (old plain both : Bits64) → p < most_partitions
    → ((k : ℕ) → set_has plain k ≡ cond (nat_eq k p) (test part false) (set_has old k))
    → ((k : ℕ) → set_has both k ≡ cond (nat_eq k (p + most_partitions)) (test part true) (set_has plain k))
    → ((g : ℕ) → g < group_count → set_has old g ≡ test (stands (g % most_partitions)) (nat_lt last_partition g))
    → (g : ℕ) → g < group_count → set_has both g ≡ test (cond (nat_eq (g % most_partitions) p) part (stands (g % most_partitions))) (nat_lt last_partition g)
gate_set test stands p part old plain both small plain_is both_is was g below = elim (group_of g p below small) [
  | inl marked ↦
      let place : g % most_partitions ≡ p = omega (arith, marked.0, small) in
      let left : set_has both g ≡ test part true =
      both_is g ∙ ap (λ (t : Bool). cond t (test part true) (set_has plain g)) (equal g (p + most_partitions) marked.0) in
      left ∙ sym (now_here place true marked.1)
  | inr rest ↦ elim rest [
    | inl bare ↦
        let place : g % most_partitions ≡ p = omega (arith, bare.0, small) in
        let apart : g ≢ p + most_partitions = λ e. omega (arith, e, bare.0) in
        let left : set_has both g ≡ test part false =
        plain_here apart ∙ ap (λ (t : Bool). cond t (test part false) (set_has old g)) (equal g p bare.0) in
        left ∙ sym (now_here place false bare.1)
    | inr other ↦
        let apart : g ≢ p = λ e. other (omega (arith, e, small)) in
        let far : g ≢ p + most_partitions = λ e. other (omega (arith, e, small)) in
        let left : set_has both g ≡ set_has old g =
        plain_here far ∙ ap (λ (t : Bool). cond t (test part false) (set_has old g)) (not_equal g p apart) in
        left ∙ was g below
        ∙ ap (λ (q : PartFacts). test q (nat_lt last_partition g)) (sym (set_there (g % most_partitions) (stands (g % most_partitions)) p part other))
  ]
]
  where
    plain_here : g ≢ p + most_partitions → set_has both g ≡ cond (nat_eq g p) (test part false) (set_has old g)
    plain_here apart =
        both_is g ∙ ap (λ (t : Bool). cond t (test part true) (set_has plain g)) (not_equal g (p + most_partitions) apart) ∙ plain_is g

    now_here : g % most_partitions ≡ p → (t : Bool) → nat_lt last_partition g ≡ t
        → test (cond (nat_eq (g % most_partitions) p) part (stands (g % most_partitions))) (nat_lt last_partition g) ≡ test part t
    now_here place t is =
        ap (λ (q : PartFacts). test q (nat_lt last_partition g)) (set_here (g % most_partitions) (stands (g % most_partitions)) p part place) ∙ ap (test part) is

pub budget_set : (stands : ℕ → PartFacts) (p : ℕ) (part : PartFacts) (old new : Bits64) → p < most_partitions
    → ((k : ℕ) → set_has new k ≡ cond (nat_eq k p) (nat_lt 0 part.budget) (set_has old k))
    → ((q : ℕ) → q < 64 → set_has old q ≡ (nat_lt q most_partitions && nat_lt 0 (stands q).budget))
    → (q : ℕ) → q < 64 → set_has new q ≡ (nat_lt q most_partitions && nat_lt 0 (cond (nat_eq q p) part (stands q)).budget)
budget_set stands p part old new small put was q below = elim (cases_eq q p) [
  | inl same ↦
      let left : set_has new q ≡ nat_lt 0 part.budget =
      put q ∙ ap (λ (t : Bool). cond t (nat_lt 0 part.budget) (set_has old q)) (equal q p same) in
      left ∙ sym (ap (λ (t : Bool). t && nat_lt 0 (cond (nat_eq q p) part (stands q)).budget) (less q most_partitions (omega (arith, same, small)))
      ∙ ap (λ (part : PartFacts). nat_lt 0 part.budget) (set_here q (stands q) p part same))
  | inr other ↦
      let left : set_has new q ≡ set_has old q = put q ∙ ap (λ (t : Bool). cond t (nat_lt 0 part.budget) (set_has old q)) (not_equal q p other) in
      left ∙ was q below ∙ ap (λ (r : PartFacts). nat_lt q most_partitions && nat_lt 0 r.budget) (sym (set_there q (stands q) p part other))
]

-- ---- gates read a partition only below number 32

pub gates_same : (before after : ℕ → PartFacts) (gates : Gates) → ((q : ℕ) → q < most_partitions → before q ≡ after q) → AreGatesOf before gates
    → AreGatesOf after gates
gates_same before after gates same are = record {
  first = λ g below. are.first g below ∙ ap (λ (part : PartFacts). is_open_first part (nat_lt last_partition g)) (same (g % most_partitions) (omega arith));
  second = λ g below. are.second g below ∙ ap (λ (part : PartFacts). is_open_second part (nat_lt last_partition g)) (same (g % most_partitions) (omega arith));
  budgeted = λ p below. are.budgeted p below ∙ by_place p (below_or_not p most_partitions);
}
  where
    by_place : (p : ℕ) → (p < most_partitions) ⊎ (most_partitions ≤ p) → (nat_lt p most_partitions && nat_lt 0 (before p).budget) ≡ (nat_lt p most_partitions && nat_lt 0 (after p).budget)
    by_place p (inl low) = ap (λ (part : PartFacts). nat_lt p most_partitions && nat_lt 0 part.budget) (same p low)
    by_place p (inr high) =
        ap (λ (t : Bool). t && nat_lt 0 (before p).budget) (not_less p most_partitions high)
        ∙ sym (ap (λ (t : Bool). t && nat_lt 0 (after p).budget) (not_less p most_partitions high))

-- ---- partitions by their list

pub set_in_list : (parts : List PartFacts) (p q : ℕ) (part : PartFacts) → p < length parts
    → cond (nat_eq q p) part (part_at parts q) ≡ part_at (set parts p part) q
set_in_list parts p q part within = elim (cases_eq q p) [
  | inl same ↦
      set_here q (part_at parts q) p part same
      ∙ sym (get_or-set_same parts p part no_part within) ∙ ap (part_at (set parts p part)) (sym same)
  | inr other ↦ set_there q (part_at parts q) p part other ∙ sym (get_or-set_other parts p q part no_part other)
]

pub added_to_list : (parts : List PartFacts) (p q : ℕ) (part : PartFacts) → length parts ≡ p
    → cond (nat_eq q p) part (part_at parts q) ≡ part_at (parts ++ part ∷ []) q
added_to_list parts p q part end = elim (cases_eq q p) [
  | inl same ↦
      set_here q (part_at parts q) p part same
      ∙ sym (get_or-append_seam parts part [] no_part) ∙ ap (part_at (parts ++ part ∷ [])) (end ∙ sym same)
  | inr other ↦ set_there q (part_at parts q) p part other ∙ elsewhere other (below_or_not q (length parts))
]
  where
    past : (i : ℕ) → 1 ≤ i → get_or (part ∷ []) i no_part ≡ no_part
    past i some = get_or_past (part ∷ []) i no_part (omega (arith, some))

    elsewhere : q ≢ p → (q < length parts) ⊎ (length parts ≤ q) → part_at parts q ≡ part_at (parts ++ part ∷ []) q
    elsewhere other (inl inside) = sym (get_or_append_left parts (part ∷ []) no_part q inside)
    elsewhere other (inr outside) =
        get_or_past parts q no_part outside
        ∙ sym (get_or-append_right parts (part ∷ []) (length parts) q no_part refl outside
        ∙ past (q - length parts) (omega (arith, other, outside, end)))

-- the first n partitions alone
abbrev pub told : List PartFacts → ℕ → ℕ → PartFacts
told parts n q = cond (nat_lt q n) (part_at parts q) no_part

pub told_none : (parts : List PartFacts) (q : ℕ) → part_at [] q ≡ told parts 0 q
told_none parts q = sym (ap (λ (t : Bool). cond t (part_at parts q) no_part) (not_less q 0 (omega arith)))

pub told_more : (parts : List PartFacts) (n q : ℕ) (part : PartFacts) → part ≡ part_at parts n
    → cond (nat_eq q n) part (told parts n q) ≡ told parts (n + 1) q
told_more parts n q part is = elim (cases_eq q n) [
  | inl same ↦
      set_here q (told parts n q) n part same ∙ is ∙ ap (part_at parts) (sym same)
      ∙ sym (ap (λ (t : Bool). cond t (part_at parts q) no_part) (less q (n + 1) (omega (arith, same))))
  | inr other ↦
      set_there q (told parts n q) n part other
      ∙ ap (λ (t : Bool). cond t (part_at parts q) no_part) (same_test other (below_or_not q n))
]
  where
    same_test : q ≢ n → (q < n) ⊎ (n ≤ q) → nat_lt q n ≡ nat_lt q (n + 1)
    same_test other (inl low) = less q n low ∙ sym (less q (n + 1) (omega (arith, low)))
    same_test other (inr high) = not_less q n high ∙ sym (not_less q (n + 1) (omega (arith, high, other)))

pub told_all : (parts : List PartFacts) (q : ℕ) → q < most_partitions → told parts most_partitions q ≡ part_at parts q
told_all parts q below = ap (λ (t : Bool). cond t (part_at parts q) no_part) (less q most_partitions below)
