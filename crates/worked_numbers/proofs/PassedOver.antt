-- "Nobody is passed over, also after an entry that makes no pick." At the horizon the last tick of `a` is billed, so that its
-- partition is out of budget and it is of class 0, while `s`, of class 1, is ready.
use Rattle.std.proofs.Common.{◌≡◌, refl}
use Rattle.aps_model.specs.declared.state.State.TheVariants.{Ready, Running}
use Rattle.aps_model.specs.After.{after, state_after}
use Rattle.aps_model.specs.Legal.{fixed_run}
use Rattle.laws_runs.specs.Waits.{state_at}
use Rattle.laws_load.specs.Response.{class_now}
use Rattle.worked_proofs.proofs.Rows.PassedOverAtTheHorizon.{scenario}

states : (state_at (state_after scenario (fixed_run scenario 1000)) 0 ≡ Ready) × (state_at (state_after scenario (fixed_run scenario 1000)) 1 ≡ Running 0)
unfolding after
states = (refl, refl)

classes : (class_now (state_after scenario (fixed_run scenario 1000)) (fixed_run scenario 1000) 0 ≡ 1)
    × (class_now (state_after scenario (fixed_run scenario 1000)) (fixed_run scenario 1000) 1 ≡ 0)
unfolding after
classes = (refl, refl)
