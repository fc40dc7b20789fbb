use Rattle.std.proofs.Common.{◌≡◌, take}
use Rattle.laws_runs.specs.Moments.{moment}
use Rattle.view_replay.specs.Retraced.{front}
use Rattle.view_lives.specs.Life.{AreLives}
use Rattle.view_lives.proofs.retracing.lengthen_all.Given as goal

abbrev pub invariant-loop-e : goal.invariant-loop-e
invariant-loop-e l = record {
  core : l.core ≡ front l.fn.core.setup l.entries l.e-index;
  lives : AreLives l.fn.core.setup.scenario (take l.e-index l.entries) l.lives;
  moment : l.moment ≡ moment (take l.e-index l.entries);
}
