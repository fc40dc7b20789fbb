-- Who serves whom, read from the client.
use Rattle.std.specs.Prelude.{◌≡◌, ℕ, List, [], ◌∷◌, map, nat_eq, if◌then◌else◌, Option, Some, None}
use Rattle.std.specs.Bool.{⊤}
use Rattle.aps_model.specs.SchedulerState.{Triple}
use Rattle.aps_model.specs.Inherit.{IsMade}

-- the server of the thread
abbrev pub server_of : List Triple → ℕ → Option ℕ
server_of [] x = None
server_of (t ∷ older) x = if nat_eq t.client x then Some t.server else server_of older x

-- the servers, in order of the triples
abbrev pub servers : List Triple → List ℕ
servers triples = map (λ (t : Triple). t.server) triples

-- each client has one server
abbrev pub AreServedOnce : List Triple → Type 0
AreServedOnce [] = ⊤
AreServedOnce (t ∷ older) = (server_of older t.client ≡ None) × AreServedOnce older

-- what triples keep: they make chains. Each was made while its server was in no triple, and each client has one server.
pub record AreChains (triples : List Triple) : Type 0 where
  pub made : IsMade triples
  pub once : AreServedOnce triples
