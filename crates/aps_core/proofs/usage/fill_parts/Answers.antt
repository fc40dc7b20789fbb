use Rattle.std.proofs.Common.{arith}
use Rattle.std.proofs.lemmas.List.FromFn.{fill_by_all}
use Rattle.aps_model.specs.Budget.{no_part}
use Rattle.aps_core.proofs.usage.fill_parts.Goals as goal

pub returns-clause-same : goal.returns-clause-same
returns-clause-same c = fill_by_all _ _ _ no_part (omega arith) (λ k h. c.loop-p.invariant.same k (omega arith))
