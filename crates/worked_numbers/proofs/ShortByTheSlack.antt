-- Two partitions use the excess that they may have but for 4,000 ns each, and the third falls short by what both so took: of
-- the window of ticks 0 to 7 they use 5,000,000 ns each, where 3,008,000 are allowed and two ticks more; System falls short
-- by 3,984,000, where the others' slack is 4,000,000.
use Rattle.std.proofs.Common.{◌≡◌, ◌+◌, ◌*◌, refl}
use Rattle.aps_model.specs.Bound.{others_slack, slack}
use Rattle.aps_model.specs.Legal.{fixed_run}
use Rattle.aps_model.specs.Shape.{whole}
use Rattle.aps_model.specs.Usage.{used}
use Rattle.worked_proofs.proofs.Rows.ShortByTheSlack.{scenario}

allowances : (188 * whole scenario.shape ≡ 1000 * 3008000) × (624 * whole scenario.shape ≡ 1000 * 9984000)
allowances = (refl, refl)

beyond : (used 1000000 (fixed_run scenario 1000) 1 0 8 ≡ 3008000 + 1992000) × (slack scenario.shape scenario.partitions (fixed_run scenario 1000) 0 1 ≡ 2000000)
beyond = (refl, refl)

-- 9,984,000 less 6,000,000 are 3,984,000
short : (used 1000000 (fixed_run scenario 1000) 0 0 8 ≡ 6000000) × (others_slack scenario.shape scenario.partitions (fixed_run scenario 1000) 0 0 ≡ 4000000)
short = (refl, refl)
