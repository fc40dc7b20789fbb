use Rattle.std.proofs.Common.{◌≡◌, ℕ, ◌<◌, true, length}
use Rattle.aps_levels.specs.Bits.{set_has}
use Rattle.aps_ready.specs.Leaders.{HasGroup, AreLeading}
use Rattle.aps_ready.proofs.Fewer.{size}
use Rattle.aps_ready.proofs.Leading.{seen_of}
use Rattle.aps_ready.proofs.leaders.least_used.Given as goal

-- the leaders of the groups whose partitions are no longer left
abbrev pub invariant-partitions : goal.invariant-partitions
invariant-partitions l = record {
  some : (p : ℕ) → set_has l.left p ≡ true → HasGroup (set_has l.fn.groups) p;
  known : (p : ℕ) → set_has l.left p ≡ true → p < length l.parts;
  are : AreLeading l.parts (seen_of (set_has l.fn.groups) (set_has l.left)) l.leaders;
}

abbrev pub decreases-partitions : goal.decreases-partitions
decreases-partitions l = size (set_has l.left) 64
