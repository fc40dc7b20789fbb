-- "In the long run its rate is its budget." System has 20 parts of 100 and work throughout, and 64 ticks are eight windows. It gets
-- 7,997,000 ns of them, where its rate would be 12,800,000: free time that A takes by priority isn't given back.
use Rattle.std.proofs.Common.{◌≡◌, ◌*◌, refl}
use Rattle.aps_model.specs.After.{after}
use Rattle.aps_model.specs.Legal.{fixed_run}
use Rattle.aps_model.specs.Shape.{whole}
use Rattle.aps_model.specs.Usage.{used}
use Rattle.worked_proofs.proofs.Rows.HalfItsShare.{scenario}
use Rattle.worked_numbers.proofs.Works.{AlwaysWorks, always_works}

allowance : 20 * (8 * whole scenario.shape) ≡ 100 * 12800000
allowance = refl

little : used 1000000 (fixed_run scenario 1000) 0 0 64 ≡ 7997000
little = refl

always : AlwaysWorks scenario (fixed_run scenario 1000) 0 0 64
unfolding after
always = always_works scenario 0 0 64 (fixed_run scenario 1000) refl
