-- A window while an entry's interval is billed to it, tick by tick.
use Rattle.std.specs.Prelude.{◌≡◌, ℕ, ◌+◌, ◌<◌, min, List, nat_eq, ◌&&◌, if◌then◌else◌}
use Rattle.aps_model.specs.Limits.{longest_window}
use Rattle.aps_model.specs.declared.entry.Entry.{Entry}
use Rattle.aps_model.specs.Usage.{critical_used, overlap, used}
use Rattle.aps_window.specs.Bills.{Bill, bills_critical, bills_used}
use Rattle.aps_window.specs.StandsFor.{StandsFor}
use Rattle.aps_window.specs.Window.{Window}

-- beside the entries before it, the interval of the entry is billed to partition q in the ticks below k
pub record IsBilledTo (tick : ℕ) (window : Window) (h : List Entry) (e : Entry) (q k : ℕ) : Type 0 where
  pub bills : List Bill
  pub stands : StandsFor window bills
  pub used : (p a b : ℕ) → window.tick < a + longest_window
      → bills_used bills p a b ≡ used tick h p a b + (if nat_eq q p then overlap tick a (min b k) e.from e.to else 0)
  pub critical : (p a b : ℕ) → window.tick < a + longest_window
      → bills_critical bills p a b
      ≡ critical_used tick h p a b + (if nat_eq q p && e.critical then overlap tick a (min b k) e.from e.to else 0)
