-- How much a window keeps.
use Rattle.std.specs.Prelude.{◌≡◌, List, length}
use Rattle.std.specs.List.{All}
use Rattle.aps_window.specs.declared.slot.Slot.{Slot}
use Rattle.aps_window.specs.Window.{Window}
use Rattle.aps_model.specs.Limits.{longest_window, most_partitions}

-- 32 partitions of 400 slots each
pub record IsWholeWindow (window : Window) : Type 0 where
  pub count : length window.slots ≡ most_partitions
  pub full : All (λ (slots : List Slot). length slots ≡ longest_window) window.slots
