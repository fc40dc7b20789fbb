-- Triples as the order of their servers and rows by server and by client.
use Rattle.std.specs.Prelude.{◌≡◌, ℕ, List, length, map, Option, None, unwrap_or, slice_index_or}
use Rattle.aps_model.specs.SchedulerState.{Triple}
use Rattle.aps_model.specs.Inherit.{triple_of}
use Rattle.aps_model.specs.Limits.{most_threads}
use Rattle.aps_inherit.specs.Serving.{AreChains, server_of, servers}

-- what is read where a thread serves nobody
abbrev pub no_triple : Triple
no_triple = record { server = 0; client = 0; channel = 0 }

-- the triples of these servers, in this order
abbrev pub tabled : List (Option Triple) → List ℕ → List Triple
tabled by_server order = map (λ x. unwrap_or (slice_index_or by_server x None) no_triple) order

-- the order and the rows stand for these triples
pub record IsTable (order : List ℕ) (by_server : List (Option Triple)) (by_client : List (Option ℕ)) (triples : List Triple) : Type 0 where
  pub ordered : order ≡ servers triples
  pub rows : (x : ℕ) → slice_index_or by_server x None ≡ triple_of triples x
  pub above : (x : ℕ) → slice_index_or by_client x None ≡ server_of triples x
  pub chains : AreChains triples
  pub rows_size : length by_server ≡ most_threads
  pub above_size : length by_client ≡ most_threads
