-- "Who has a budget and work at all times gets some time in the long run." A has 12 parts of 100, which allow 96,000 ns of a window
-- of 8 ticks: less than a tick. System is in budget at each pick, for 7 ticks are less than its 704,000 ns. So A gets nothing
-- in 32 ticks, all of them steady, and falls short of its budget by all of it, where the other's slack is a tick. The law of
-- the supply promises it nothing: the other may have 804,000 of the 800,000 ns of a window.
use Rattle.std.proofs.Common.{◌≡◌, ◌+◌, ◌-◌, ◌*◌, [], refl, true}
use Rattle.aps_model.specs.After.{after}
use Rattle.aps_model.specs.Bound.{others_slack}
use Rattle.aps_model.specs.Legal.{fixed_run}
use Rattle.aps_model.specs.Loaded.{finished_ticks, is_steady}
use Rattle.aps_model.specs.Shape.{whole}
use Rattle.aps_model.specs.Usage.{used}
use Rattle.laws_bounds.specs.Excess.{others_leeway, others_margin}
use Rattle.laws_bounds.specs.FreeTime.{idle_time}
use Rattle.worked_proofs.proofs.Rows.LessThanATick.{scenario}
use Rattle.worked_numbers.proofs.Works.{AlwaysWorks, always_works}

steady : (finished_ticks scenario.shape (fixed_run scenario 1000) ≡ 32) × (is_steady 100000 (fixed_run scenario 1000) [] 0 32 ≡ true)
steady = (refl, refl)

allowances : (12 * whole scenario.shape ≡ 100 * 96000) × (88 * whole scenario.shape ≡ 100 * 704000)
allowances = (refl, refl)

nothing : used 100000 (fixed_run scenario 1000) 1 0 32 ≡ 0
nothing = refl

always : AlwaysWorks scenario (fixed_run scenario 1000) 1 0 32
unfolding after
always = always_works scenario 1 0 32 (fixed_run scenario 1000) refl

-- the lower lines of the window bound and of the own share, in any window: 96,000 of 100,000 ns
slack : others_slack scenario.shape scenario.partitions (fixed_run scenario 1000) 24 1 ≡ 100000
slack = refl

-- the lower line of the excess: the same, for nobody has free time and nobody stands idle
leeway : (others_leeway scenario scenario.shape scenario.partitions (fixed_run scenario 1000) 24 32 1 ≡ 100000)
    × (idle_time 100000 (fixed_run scenario 1000) 24 32 ≡ 0)
unfolding after
leeway = (refl, refl)

-- the supply: all time of 8 ticks, beside what the others may have
rest : (100 * (1 * ((32 - 24) * 100000)) ≡ 80000000)
    × ((100 - 12) * whole scenario.shape + 100 * others_margin scenario.shape scenario.partitions (fixed_run scenario 1000) 24 32 1 ≡ 80400000)
rest = (refl, refl)
