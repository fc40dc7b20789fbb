-- Whose inherited values a triple can change.
use Rattle.std.specs.Prelude.{◌≡◌, ◌≢◌, ℕ, List, [], ◌∷◌}
use Rattle.std.specs.Bool.{⊤}
use Rattle.aps_model.specs.Inherit.{facts_of, without_server}
use Rattle.aps_model.specs.SchedulerState.{SchedulerState, Triple, with_triple}

-- the thread is the client of no triple
abbrev pub IsNobodysClient : List Triple → ℕ → Type 0
IsNobodysClient [] x = ⊤
IsNobodysClient (t ∷ older) x = (x ≢ t.client) × IsNobodysClient older x

-- where x serves anew, or serves no longer, the values of every other thread are the same
pub record ChangesOnlyServer (s : SchedulerState) (x : ℕ) : Type 0 where
  pub serves : (client channel y : ℕ) → y ≢ x → facts_of (with_triple s x client channel) y ≡ facts_of s y
  pub leaves : (y : ℕ) → y ≢ x → facts_of (record s { triples = without_server s.triples x }) y ≡ facts_of s y
