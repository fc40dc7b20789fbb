-- What each partition's budget allows in a window.
use Rattle.std.specs.Prelude.{◌≡◌, ℕ, ◌<◌, List, length, slice_index}
use Rattle.aps_model.specs.Audit.{allowance}
use Rattle.aps_model.specs.History.{History}
use Rattle.aps_model.specs.Partition.{row_or_none}

-- of the first n partitions each has what its budget allows, by the rows and the shape that stand last
abbrev pub AreAllowedTo : ℕ → History → List ℕ → Type 0
AreAllowedTo n h allowed = (p : ℕ) → p < n → slice_index allowed p ≡ allowance h.shape (row_or_none h.rows p).budget

-- each partition has
abbrev pub AreAllowed : History → List ℕ → Type 0
AreAllowed h allowed = AreAllowedTo (length h.rows) h allowed
