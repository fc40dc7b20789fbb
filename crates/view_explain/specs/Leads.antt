-- To whom a chain of servers and clients leads.
use Rattle.std.specs.Prelude.{ℕ, max, List, [], ◌∷◌, nat_eq, if◌then◌else◌, unwrap_or}
use Rattle.aps_model.specs.Inherit.{top_of}
use Rattle.aps_model.specs.SchedulerState.{Triple}
use Rattle.view_explain.specs.Ties.{Ties, tied_messages_at}

-- the greatest priority that waits at the channel, or 0
abbrev pub top_in : Ties → ℕ → ℕ
top_in ties c = unwrap_or (top_of (tied_messages_at ties c)) 0

-- the last client of the chain from thread x on, by these triples, and the greatest priority that waits along the chain, beside one
-- that is given
abbrev pub lead : Ties → List Triple → ℕ → ℕ → ℕ × ℕ
lead ties [] x priority = (x, priority)
lead ties (t ∷ older) x priority =
    lead ties older
    (if nat_eq t.server x then t.client else x)
    (if nat_eq t.server x then max priority (top_in ties t.channel) else priority)
