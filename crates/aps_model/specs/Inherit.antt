use Rattle.std.specs.Prelude.{◌≡◌, ◌≢◌, ℕ, max, List, [], ◌∷◌, map, nat_eq, if◌then◌else◌, Option, Some, None, unwrap_or, slice_index_or}
use Rattle.std.specs.Bool.{⊤}
use Rattle.std.specs.List.{fold}
use Rattle.aps_model.specs.declared.state.Facts.{Facts}
use Rattle.aps_model.specs.declared.state.ThreadNow.{ThreadNow}
use Rattle.aps_model.specs.SchedulerState.{SchedulerState, ChannelNow, Message, Triple, no_facts}

-- the greatest priority of these messages
abbrev pub top_of : List Message → Option ℕ
top_of messages = fold (λ best (m : Message). Some (max m.priority (unwrap_or best 0))) None messages

-- what inheritance goes by: each thread's own values, the triples with the newest first, and the
-- greatest priority that waits at each channel
pub record Inheritance : Type 0 where
  pub own : List Facts
  pub triples : List Triple
  pub tops : List (Option ℕ)

-- the greatest priority that waits at the channel, or 0
abbrev pub top_at : List (Option ℕ) → ℕ → ℕ
top_at tops c = unwrap_or (slice_index_or tops c None) 0

-- the values with a priority of at least so much
abbrev pub raised : ℕ → Facts → Facts
raised priority facts = record facts { priority = max facts.priority priority }

-- the values of x, raised so far, by these triples. A client that is itself a server began to serve
-- before, so the chain leads from newer triples to older ones.
abbrev pub follow : Inheritance → List Triple → ℕ → ℕ → Facts
follow i [] x priority = raised priority (slice_index_or i.own x no_facts)
follow i (t ∷ older) x priority =
    follow i older
    (if nat_eq t.server x then t.client else x)
    (if nat_eq t.server x then max priority (top_at i.tops t.channel) else priority)

-- a server has its client's partition and mark, and the greatest of its client's priority and of what waits
-- at the channel of its triple; any other thread has its own values
abbrev pub inherited : Inheritance → ℕ → Facts
inherited i x = follow i i.triples x 0

abbrev pub inheritance_of : SchedulerState → Inheritance
inheritance_of s = record {
  own = map (λ (t : ThreadNow). t.own) s.threads;
  triples = s.triples;
  tops = map (λ (c : ChannelNow). top_of c.messages) s.channels;
}

-- inheritance in words: the server's values are its client's, with the priority raised to the greatest that waits
-- at the channel
pub record HasClientsValues (top : ℕ) (server client : Facts) : Type 0 where
  pub partition : server.partition ≡ client.partition
  pub critical : server.critical ≡ client.critical
  pub priority : server.priority ≡ max client.priority top

-- the values that the thread is scheduled and billed by
abbrev pub facts_of : SchedulerState → ℕ → Facts
facts_of s x = inherited (inheritance_of s) x

-- the triple of which the thread is the server
abbrev pub triple_of : List Triple → ℕ → Option Triple
triple_of [] x = None
triple_of (t ∷ older) x = if nat_eq t.server x then Some t else triple_of older x

-- the client that the thread holds
abbrev pub client_of : List Triple → ℕ → Option ℕ
client_of [] x = None
client_of (t ∷ older) x = if nat_eq t.server x then Some t.client else client_of older x

-- the triples without that server's
abbrev pub without_server : List Triple → ℕ → List Triple
without_server [] x = []
without_server (t ∷ older) x = if nat_eq t.server x then older else t ∷ without_server older x

-- the thread is in no triple
abbrev pub IsFree : List Triple → ℕ → Type 0
IsFree [] x = ⊤
IsFree (t ∷ older) x = (x ≢ t.server) × (x ≢ t.client) × IsFree older x

-- each triple was made while its server was in no triple, and serves another thread
abbrev pub IsMade : List Triple → Type 0
IsMade [] = ⊤
IsMade (t ∷ older) = IsFree older t.server × (t.server ≢ t.client) × IsMade older
