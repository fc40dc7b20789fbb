-- "A thread that is the greatest when it is picked runs." At 100,000 ns `x`, of class 1 and with the greatest priority, is picked by
-- processor 0. At the same moment processor 1 bills what takes away its partition's standing, so that `x` is of class 0, and
-- processor 0 picks `s`: of the five entries that end at 100,000 or before the last takes `x` off again. It runs for no time.
use Rattle.std.proofs.Common.{◌≡◌, refl, take}
use Rattle.aps_model.specs.declared.state.State.TheVariants.{Ready, Running}
use Rattle.aps_model.specs.After.{after, state_after}
use Rattle.aps_model.specs.Legal.{fixed_run}
use Rattle.laws_runs.specs.Waits.{state_at}
use Rattle.laws_load.specs.Response.{class_now}
use Rattle.worked_proofs.proofs.Rows.ResponseLost.{scenario}

-- after its pick it runs on processor 0, in class 1
picked : (state_at (state_after scenario (take 3 (fixed_run scenario 1000))) 3 ≡ Running 0)
    × (class_now (state_after scenario (take 3 (fixed_run scenario 1000))) (take 3 (fixed_run scenario 1000)) 3 ≡ 1)
unfolding after
picked = (refl, refl)

-- after the other's bill it is of class 0
lost : class_now (state_after scenario (take 4 (fixed_run scenario 1000))) (take 4 (fixed_run scenario 1000)) 3 ≡ 0
unfolding after
lost = refl

-- and then it is ready again
waits : state_at (state_after scenario (take 5 (fixed_run scenario 1000))) 3 ≡ Ready
unfolding after
waits = refl
