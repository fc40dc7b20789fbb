use Rattle.aps_levels.specs.Bits.{set_has}
use Rattle.aps_ready.proofs.Fewer.{size}
use Rattle.aps_ready.proofs.TableLaws.{IsSearched}
use Rattle.aps_ready.proofs.table.least_among.Given as goal

abbrev pub invariant-levels : goal.invariant-levels
invariant-levels l = IsSearched l.at_level l.fn.word l.left l.fn.set l.fn.from

abbrev pub decreases-levels : goal.decreases-levels
decreases-levels l = size (set_has l.left) 64
