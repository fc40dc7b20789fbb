use Rattle.std.specs.Prelude.{◌%◌, Bool, true, false, nat_eq, nat_lt, if◌then◌else◌, List}
use Rattle.aps_model.specs.declared.merit.PartFacts.{PartFacts}
use Rattle.aps_model.specs.Merit.{smaller}
use Rattle.aps_model.specs.Budget.{part_at}
use Rattle.aps_model.specs.Limits.{most_partitions}
use Rattle.aps_ready.specs.declared.entrant.Entrant.{Entrant}
use Rattle.aps_ready.specs.Entrant.{goes_before}

-- the first partition has used the smaller fraction
abbrev pub has_used_less : PartFacts → PartFacts → Bool
has_used_less a b = smaller a.used a.budget b.used b.budget

-- a thread of the first partition is ahead of one of the second: the smaller fraction, and where neither is smaller the
-- rest decides
abbrev pub ahead_by : PartFacts → PartFacts → Bool → Bool
ahead_by a b rest =
    if has_used_less a b then true
    else if has_used_less b a then false
    else rest

-- the order of candidates of one class, where they have one level too or free time goes by ratio
abbrev pub is_ahead : List PartFacts → Entrant → Entrant → Bool
is_ahead parts a b = ahead_by (part_at parts (a.group % most_partitions)) (part_at parts (b.group % most_partitions)) (goes_before a b)

-- the order of candidates of one class, where the level comes first
abbrev pub is_ahead_by_level : List PartFacts → Entrant → Entrant → Bool
is_ahead_by_level parts a b = if nat_eq a.level b.level then is_ahead parts a b else nat_lt a.level b.level
