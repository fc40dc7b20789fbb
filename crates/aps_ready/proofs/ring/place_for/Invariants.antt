use Rattle.std.proofs.Common.{◌+◌, nat_lt, cond}
use Rattle.aps_model.specs.Limits.{most_threads}
use Rattle.aps_ready.specs.Entrant.{entrant_at}
use Rattle.aps_ready.proofs.Places.{IsBehind}
use Rattle.aps_ready.proofs.ring.place_for.Given as goal

-- whoever stands behind the place has a greater stamp
abbrev pub invariant-loop-place : goal.invariant-loop-place
invariant-loop-place l = IsBehind l.row l.after l.head l.stamp l.place

-- on the way to the head stamps fall
abbrev pub decreases-loop-place : goal.decreases-loop-place
decreases-loop-place l = cond (nat_lt l.place most_threads) ((entrant_at l.row l.place).stamp + 1) 0
