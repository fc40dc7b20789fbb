-- The candidates of a partition, found in one pass over the threads.
use Rattle.std.specs.Prelude.{ℕ, List, map, Bool, nat_eq}
use Rattle.std.specs.List.{filter, list_any, range_with_len}
use Rattle.aps_model.specs.declared.merit.PartFacts.{PartFacts}
use Rattle.aps_model.specs.declared.merit.Contender.{Contender}
use Rattle.aps_model.specs.Pick.{candidates, contender_of, is_ready}
use Rattle.aps_model.specs.SchedulerState.{SchedulerState, thread_at}

-- the ready threads below a number
abbrev pub ready_below : SchedulerState → ℕ → List Contender
ready_below s n = filter (λ (c : Contender). is_ready (thread_at s c.thread).state) (map (contender_of s) (range_with_len 0 n))

-- one of these is a candidate of the partition
abbrev pub has_candidate : List PartFacts → ℕ → List Contender → Bool
has_candidate parts p cs = list_any (λ (c : Contender). nat_eq c.facts.partition p) (candidates parts cs)
