use Rattle.std.proofs.Common.{◌≡◌, ◌≤◌, take}
use Rattle.aps_model.specs.Limits.{last_moment}
use Rattle.laws_runs.specs.Moments.{moment}
use Rattle.aps_core.specs.Run.{state_of_run}
use Rattle.view_explain.specs.Ties.{ties_of}
use Rattle.view_explain.proofs.retracing.go_through.Given as goal

abbrev pub invariant-loop-e : goal.invariant-loop-e
invariant-loop-e l = record {
  core : l.core ≡ record l.fn.core { entries = take l.e-index l.entries };
  tied : l.ties ≡ ties_of (state_of_run l.core);
  last : l.last ≡ moment (take l.e-index l.entries);
  early : l.last ≤ last_moment;
}
