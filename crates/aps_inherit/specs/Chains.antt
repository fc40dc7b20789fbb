-- The chain of a thread: from it to its client, and so on to the one that serves nobody.
use Rattle.std.specs.Prelude.{ℕ, List, [], ◌∷◌, Bool, false, ◌&&◌, ◌||◌, nat_eq, if◌then◌else◌}
use Rattle.aps_model.specs.SchedulerState.{Triple}

-- the thread at which the chain ends
abbrev pub end_of_chain : List Triple → ℕ → ℕ
end_of_chain [] x = x
end_of_chain (t ∷ older) x = end_of_chain older (if nat_eq t.server x then t.client else x)

-- the chain passes a triple by the channel
abbrev pub passes : List Triple → ℕ → ℕ → Bool
passes [] c x = false
passes (t ∷ older) c x =
    nat_eq t.server x && nat_eq t.channel c || passes older c (if nat_eq t.server x then t.client else x)
