-- What the worst amount of an audit is, in words.
use Rattle.std.specs.Prelude.{◌≡◌, ℕ, ◌<◌, ◌≤◌, ◌⊎◌, length, Option, Some, None}
use Rattle.aps_model.specs.declared.audit.Worst.{Worst}
use Rattle.aps_model.specs.History.{History}
use Rattle.laws_bounds.specs.Loaded.{IsLoaded}

-- the partition p in the window from tick a on stands before q in the window from b on: its window begins earlier, or
-- it is the lower one of the same window
abbrev pub IsEarlier : (a p b q : ℕ) → Type 0
IsEarlier a p b q = (a < b) ⊎ ((a ≡ b) × (p < q))

-- the amount is that of its window and partition, the greatest of all these, and greater than any that stands before
pub record IsWorst (amount : ℕ → ℕ → ℕ) (among : ℕ → ℕ → Type 0) (w : Worst) : Type 0 where
  pub place : among w.window w.partition
  pub attained : w.amount ≡ amount w.window w.partition
  pub greatest : (a p : ℕ) → among a p → amount a p ≤ w.amount
  pub first : (a p : ℕ) → among a p → IsEarlier a p w.window w.partition → amount a p < w.amount

-- the worst of these, if there is one at all
abbrev pub TellsWorst : (ℕ → ℕ → ℕ) → (ℕ → ℕ → Type 0) → Option Worst → Type 0
TellsWorst amount among None = (a p : ℕ) → among a p → ⊥
TellsWorst amount among (Some w) = IsWorst amount among w

-- a partition in a loaded window
abbrev pub IsAudited : History → ℕ → ℕ → Type 0
IsAudited h a p = IsLoaded h a × (p < length h.rows)
