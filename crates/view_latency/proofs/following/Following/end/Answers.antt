use Rattle.std.proofs.Common.{subst, sym}
use Rattle.view_lives.specs.Life.{AreLives}
use Rattle.view_latency.proofs.following.Following.end.Goals as goal

pub returns : goal.returns
returns c = λ run beside. record { lives = subst (AreLives run.setup.scenario run.entries) (sym c.in_ok-into_lives.ensures) beside.lives; calls = beside.calls }
