-- Entries in order of ticks.
use Rattle.std.specs.Prelude.{◌≡◌, ℕ, ◌*◌, ◌≤◌, List, All}
use Rattle.std.specs.List.Sorted.{IsNonDecreasingBy}
use Rattle.aps_model.specs.declared.entry.Entry.{Entry}
use Rattle.aps_model.specs.Due.{next_boundary}

-- no entry ends before an earlier one, and each ends by the first boundary after its beginning
pub record IsInOrder (tick : ℕ) (entries : List Entry) : Type 0 where
  pub rising : IsNonDecreasingBy (λ (e : Entry). e.to) entries
  pub within : All (λ (e : Entry). e.to ≤ next_boundary tick e.from) entries

-- a tick begins at this moment
abbrev pub IsBoundary : ℕ → ℕ → Type 0
IsBoundary tick moment = (k : ℕ) × (moment ≡ k * tick)
