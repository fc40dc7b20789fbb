-- "Who has work at all times is never long without any time." Windows have 11 ticks; B has 15 parts of 100, and work
-- throughout. For 19 ticks, 2 to 20, it gets nothing; two windows less a tick are 21.
use Rattle.std.proofs.Common.{◌≡◌, ◌*◌, refl}
use Rattle.aps_model.specs.After.{after}
use Rattle.aps_model.specs.Legal.{fixed_run}
use Rattle.aps_model.specs.Shape.{whole}
use Rattle.aps_model.specs.Usage.{used}
use Rattle.worked_proofs.proofs.Rows.LongWithoutTime.{scenario}
use Rattle.worked_numbers.proofs.Works.{AlwaysWorks, always_works}

allowance : 15 * whole scenario.shape ≡ 100 * 165000
allowance = refl

nothing : used 100000 (fixed_run scenario 1000) 2 2 21 ≡ 0
nothing = refl

always : AlwaysWorks scenario (fixed_run scenario 1000) 2 0 36
unfolding after
always = always_works scenario 2 0 36 (fixed_run scenario 1000) refl
