-- "The lower line of the excess holds from each moment on, without a leap." Two processors, and the window from 50,001 to 850,001 ns.
-- System may have 1,499,200 ns of it and gets nothing. A, by its two ticks and its free time, may have 250,001 ns beyond its budget,
-- and processors stand idle for 1,200,000: that is 1,450,001 ns, 49,199 too little, where a leap is 49,999. So with the leap the
-- lower line is used but for 800 of 1,500,000 ns.
use Rattle.std.proofs.Common.{◌≡◌, ◌+◌, ◌*◌, refl, false}
use Rattle.aps_model.specs.After.{after, state_after}
use Rattle.aps_model.specs.Legal.{fixed_run}
use Rattle.aps_model.specs.Loaded.{finished_ticks, has_change}
use Rattle.aps_model.specs.Shape.{whole}
use Rattle.laws_load.specs.AnyMoment.{idle_between, leap, others_leeway_between, used_between}
use Rattle.worked_proofs.proofs.Rows.WindowInsideATick.{scenario}

-- the ticks of the window, 0 to 8, are finished and have no change
finished : (finished_ticks scenario.shape (fixed_run scenario 1000) ≡ 9) × (has_change (state_after scenario (fixed_run scenario 1000)).changes 0 9 ≡ false)
unfolding after
finished = (refl, refl)

allowance : 937 * whole scenario.shape ≡ 1000 * 1499200
allowance = refl

nothing : used_between (fixed_run scenario 1000) 50001 850001 0 ≡ 0
nothing = refl

others : others_leeway_between scenario scenario.shape scenario.partitions (fixed_run scenario 1000) 50001 850001 0 ≡ 250001
unfolding after
others = refl

idle : idle_between (fixed_run scenario 1000) 50001 850001 ≡ 1200000
idle = refl

leaps : leap 2 100000 50001 ≡ 49999
leaps = refl

-- so the lower line is used but for 800 ns
line : 937 * whole scenario.shape + 1000 * 800
    ≡ 1000 * used_between (fixed_run scenario 1000) 50001 850001 0
    + 1000 * (others_leeway_between scenario scenario.shape scenario.partitions (fixed_run scenario 1000) 50001 850001 0
    + idle_between (fixed_run scenario 1000) 50001 850001 + leap 2 100000 50001)
unfolding after
line = refl
