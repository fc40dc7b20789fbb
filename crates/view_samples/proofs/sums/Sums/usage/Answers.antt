use Rattle.std.proofs.Common.{arith}
use Rattle.std.proofs.lemmas.List.FromFn.{fill_by_all}
use Rattle.view_samples.proofs.sums.Sums.usage.Goals as goal

pub returns-clause-used : goal.returns-clause-used
returns-clause-used c = fill_by_all _ _ _ 0 c.loop-p.invariant.used_count (λ k h. c.loop-p.invariant.used k (omega arith))

pub returns-clause-critical : goal.returns-clause-critical
returns-clause-critical c = fill_by_all _ _ _ 0 c.loop-p.invariant.critical_count (λ k h. c.loop-p.invariant.critical k (omega arith))
