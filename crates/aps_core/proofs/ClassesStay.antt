-- The classes of threads, where one partition stands otherwise.
use Rattle.std.proofs.Common.{◌≡◌, ◌∙◌, ℕ, ◌+◌, ◌<◌, ◌%◌, List, Bool, true, false, ◌&&◌, ◌||◌, nat_lt, cond, nat_eq, length, slice_set, ap}
use Rattle.aps_model.specs.declared.merit.PartFacts.{PartFacts}
use Rattle.aps_model.specs.Budget.{part_at}
use Rattle.aps_model.specs.Limits.{last_partition, most_partitions}
use Rattle.aps_levels.specs.Bits.{set_has}
use Rattle.aps_levels.specs.declared.bits.Bits64.{Bits64}
use Rattle.aps_ready.specs.Gates.{is_first}
use Rattle.aps_ready.specs.Group.{group_count}
use Rattle.aps_ready.proofs.GateLaws.{gate_set}
use Rattle.aps_core.specs.declared.classes.Classes.{Classes}
use Rattle.aps_core.specs.Classes.{AreClasses}
use Rattle.aps_core.proofs.GatesStay.{kept_in_place}

-- the groups of one partition set
pub class_set : (stands after : ℕ → PartFacts) (p : ℕ) (part : PartFacts) (old plain both : Bits64) → p < most_partitions
    → ((k : ℕ) → set_has plain k ≡ cond (nat_eq k p) (is_first part false) (set_has old k))
    → ((k : ℕ) → set_has both k ≡ cond (nat_eq k (p + most_partitions)) (is_first part true) (set_has plain k))
    → ((q : ℕ) → cond (nat_eq q p) part (stands q) ≡ after q)
    → ((g : ℕ) → g < group_count → set_has old g ≡ is_first (stands (g % most_partitions)) (nat_lt last_partition g))
    → (g : ℕ) → g < group_count → set_has both g ≡ is_first (after (g % most_partitions)) (nat_lt last_partition g)
class_set stands after p part old plain both small plain_is both_is same was g below =
    gate_set (λ (q : PartFacts) (critical : Bool). is_first q critical) stands p part old plain both small plain_is both_is was g below
    ∙ ap (λ (q : PartFacts). is_first q (nat_lt last_partition g)) (same (g % most_partitions))

first_alike : (critical funded funded' standing standing' : Bool) → funded ≡ funded' → standing ≡ standing' → (funded || (critical && standing)) ≡ (funded' || (critical && standing'))
first_alike critical funded funded' standing standing' f s = (λ i. f i || (critical && s i))

-- they stay where nothing changes that they go by
pub classes_stay : (parts : List PartFacts) (p : ℕ) (part : PartFacts) (classes : Classes) → p < length parts
    → (part_at parts p).funded ≡ part.funded → (part_at parts p).standing ≡ part.standing → AreClasses parts classes
    → AreClasses (slice_set parts p part) classes
classes_stay parts p part classes within funded standing are = λ g below.
    are g below
    ∙ kept_in_place (λ a. is_first a (nat_lt last_partition g)) parts p (g % most_partitions) part within
    (first_alike (nat_lt last_partition g) (part_at parts p).funded part.funded (part_at parts p).standing part.standing funded standing)
