use Rattle.std.proofs.Common.{arith}
use Rattle.std.proofs.lemmas.List.FromFn.{fill_by_all}
use Rattle.view_samples.proofs.sums.Sums.free_time.Goals as goal

pub returns : goal.returns
returns c = fill_by_all _ _ _ 0 c.loop-p.invariant.count (λ k h. c.loop-p.invariant.free k (omega arith))
