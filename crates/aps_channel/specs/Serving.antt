-- Who serves whom, as contracts see it and as it is kept.
use Rattle.std.specs.Prelude.{◌≡◌, ℕ, ◌≤◌, List, [], length, map, reverse, is_some, slice_index_or, Option, Some, None}
use Rattle.aps_model.specs.Limits.{last_thread}
use Rattle.laws_runs.specs.Waits.{one_if, times}
use Rattle.aps_model.specs.SchedulerState.{Triple}
use Rattle.aps_channel.specs.Lines.{Lines, queue_line_at}
use Rattle.aps_channel.specs.declared.serving.Held.{Held}

-- the triples, the newest first, and how many threads there are
pub record Serving : Type 0 where
  pub triples : List Triple
  pub threads : ℕ

abbrev pub held_at : List (Option Held) → ℕ → Option Held
held_at held x = slice_index_or held x None

abbrev pub client_in : Option Held → ℕ
client_in None = 0
client_in (Some h) = h.client

abbrev pub channel_in : Option Held → ℕ
channel_in None = 0
channel_in (Some h) = h.channel

abbrev pub held_triple : List (Option Held) → ℕ → Triple
held_triple held x = record { server = x; client = client_in (held_at held x); channel = channel_in (held_at held x) }

-- the triples of these servers, of whom the one that began first comes first
abbrev pub triples_of : List (Option Held) → List ℕ → List Triple
triples_of held servers = map (held_triple held) (reverse servers)

-- the servers stand in one line, and those alone hold a client
pub record IsServing (servers : Lines) (held : List (Option Held)) : Type 0 where
  pub one : length servers.lines ≡ 1
  pub size : length held ≡ servers.numbers
  pub each : (x : ℕ) → times x (queue_line_at servers.lines 0) ≡ one_if (is_some (held_at held x))
  pub small : (x : ℕ) → client_in (held_at held x) ≤ last_thread
