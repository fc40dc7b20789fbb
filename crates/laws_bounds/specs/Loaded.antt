-- The loaded windows of a history, and what the laws of its audit rest on.
use Rattle.std.specs.Prelude.{◌≡◌, ℕ, ◌+◌, ◌<◌, length, nat_le, IsFalse}
use Rattle.std.specs.List.{Contains, list_any}
use Rattle.aps_model.specs.declared.command.Change.{Change}
use Rattle.aps_model.specs.Bound.{IsWithinBudget, IsWithinCritical}
use Rattle.aps_model.specs.History.{History}
use Rattle.aps_model.specs.Loaded.{finished_ticks, loaded_windows}
use Rattle.aps_model.specs.Usage.{critical_used}

-- the window from tick a on is loaded
abbrev pub IsLoaded : History → ℕ → Type 0
IsLoaded h a = Contains (loaded_windows h.shape h.entries h.changes) a

-- no change stands at the tick that isn't finished, or later
abbrev pub IsSettled : History → Type 0
IsSettled h = IsFalse (list_any (λ (change : Change). nat_le (finished_ticks h.shape h.entries) change.tick) h.changes)

-- by the rows and the shape that stand last, the window from tick a on keeps the bound and the critical bound
pub record KeepsLast (h : History) (a : ℕ) : Type 0 where
  pub budget : (p : ℕ) → p < length h.rows → IsWithinBudget h.shape h.rows h.entries a p
  pub critical : (p : ℕ) → p < length h.rows → IsWithinCritical h.shape h.rows h.entries a p

-- no critical time was spent in a loaded window
abbrev pub IsUncritical : History → Type 0
IsUncritical h = (a p : ℕ) → IsLoaded h a → p < length h.rows → critical_used h.shape.tick h.entries p a (a + h.shape.window) ≡ 0
