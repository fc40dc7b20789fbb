use Rattle.std.proofs.Common.{◌≡◌, ◌⊎◌, inl, inr, ℕ, ◌%◌, ◌<◌, ◌≤◌, Bool, true, false, ◌&&◌, nat_eq, nat_lt, List, length, refl, sym, ◌∙◌, ap, arith}
use Rattle.std.proofs.lemmas.List.{get_or_past}
use Rattle.aps_model.specs.declared.merit.PartFacts.{PartFacts}
use Rattle.aps_model.specs.declared.shape.Free.{Free}
use Rattle.aps_model.specs.declared.shape.Free.TheVariants.{Priority, Ratio}
use Rattle.aps_model.specs.Budget.{no_part, part_at}
use Rattle.aps_model.specs.Limits.{last_partition, most_partitions}
use Rattle.aps_levels.specs.declared.bits.Bits64.{Bits64}
use Rattle.aps_levels.specs.Bits.{set_has}
use Rattle.aps_levels.specs.Levels.{level_count}
use Rattle.aps_ready.specs.declared.entrant.Entrant.{Entrant}
use Rattle.aps_ready.specs.declared.gates.Gates.{Gates}
use Rattle.aps_ready.specs.Gates.{is_open_first, is_open_second, open_first, AreGates}
use Rattle.aps_ready.specs.Firsts.{level_of, AreLeast}
use Rattle.aps_ready.specs.Likely.{AreLikelySecond}
use Rattle.aps_ready.specs.Group.{group_count}

-- the partitions of groups that are candidates exist

clash : (t : Bool) → t ≡ true → t ≡ false → ⊥
clash t p q = cc

below_or_not : (a b : ℕ) → (a < b) ⊎ (b ≤ a)
below_or_not a b = search arith

first : (a b : Bool) → (a && b) ≡ true → a ≡ true
first true b h = refl
first false b h = absurd cc

second : (a b : Bool) → (a && b) ≡ true → b ≡ true
second true b h = h
second false b h = absurd cc

nobody_open : (m : Bool) → is_open_first no_part m ≡ false
nobody_open true = refl
nobody_open false = refl

nobody_second : (m : Bool) → is_open_second no_part m ≡ false
nobody_second true = refl
nobody_second false = refl

known_by : (parts : List PartFacts) (p : ℕ) (test : PartFacts → Bool) → test no_part ≡ false → test (part_at parts p) ≡ true → p < length parts
known_by parts p test none h = elim (below_or_not p (length parts)) [
  | inl low ↦ low
  | inr past ↦ absurd (clash (test (part_at parts p)) h (ap test (get_or_past parts p no_part past) ∙ none))
]

pub open_known : (parts : List PartFacts) (g : ℕ) → open_first parts g ≡ true → g % most_partitions < length parts
open_known parts g h = known_by parts (g % most_partitions) (λ (q : PartFacts). is_open_first q (nat_lt last_partition g)) (nobody_open (nat_lt last_partition g)) h

pub first_known : (parts : List PartFacts) (firsts : List Entrant) (gates : Gates) (found : ℕ → Bool) → AreGates parts gates
    → AreLeast firsts (set_has gates.first) found → (g : ℕ) → g < group_count → found g ≡ true → g % most_partitions < length parts
first_known parts firsts gates found are least g below h =
    open_known parts g (sym (are.first g below)
    ∙ second (nat_eq (level_of firsts g) least.level) (set_has gates.first g) (sym (least.these g below) ∙ h))

-- the groups of class 0 that can have the greatest candidate are of that class
in_second : (free : Free) (firsts : List Entrant) (gate found : Bits64) → AreLikelySecond free firsts gate found
    → (g : ℕ) → g < group_count → set_has found g ≡ true → set_has gate g ≡ true
in_second Ratio firsts gate found likely g below h = first (set_has gate g) (nat_lt (level_of firsts g) level_count) (sym (likely g below) ∙ h)
in_second Priority firsts gate found (inl least) g below h =
    second (nat_eq (level_of firsts g) least.level) (set_has gate g) (sym (least.these g below) ∙ h)
in_second Priority firsts gate found (inr none) g below h = absurd (clash (set_has found g) h (none.1 g below))

pub second_known : (free : Free) (parts : List PartFacts) (firsts : List Entrant) (gates : Gates) (found : Bits64) → AreGates parts gates
    → AreLikelySecond free firsts gates.second found → (g : ℕ) → g < group_count → set_has found g ≡ true → g % most_partitions < length parts
second_known free parts firsts gates found are likely g below h =
    known_by parts (g % most_partitions) (λ (q : PartFacts). is_open_second q (nat_lt last_partition g)) (nobody_second (nat_lt last_partition g))
    (sym (are.second g below) ∙ in_second free firsts gates.second found likely g below h)
