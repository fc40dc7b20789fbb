use Rattle.std.proofs.Common.{ℕ, ◌*◌, ◌<◌}
use Rattle.aps_levels.specs.Bits.{set_has}
use Rattle.aps_ready.specs.Table.{IsLevelFree}
use Rattle.aps_ready.proofs.table.Table.least.Given as goal

-- no group of the set is at a level of the quarters before
abbrev pub invariant-quarters : goal.invariant-quarters
invariant-quarters l = (k : ℕ) → k < 64 * l.q → IsLevelFree l.self-inside.at_level.items (set_has l.fn.set) k
