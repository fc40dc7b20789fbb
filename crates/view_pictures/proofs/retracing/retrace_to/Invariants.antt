use Rattle.std.proofs.Common.{◌≡◌, take}
use Rattle.view_pictures.proofs.UpTo.{IsSoFar}
use Rattle.view_pictures.proofs.retracing.retrace_to.Given as goal

abbrev pub invariant-loop-e : goal.invariant-loop-e
invariant-loop-e l = record {
  made : l.core ≡ record l.fn.core { entries = take l.e-index l.entries };
  so_far : IsSoFar l.moment l.entries l.e-index;
}
