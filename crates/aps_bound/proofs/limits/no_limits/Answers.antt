use Rattle.std.proofs.Common.{refl}
use Rattle.aps_bound.proofs.Limiting.{no_limits_are}
use Rattle.aps_bound.proofs.limits.no_limits.Goals as goal

pub returns-clause-limits : goal.returns-clause-limits
returns-clause-limits c h audit = no_limits_are h audit _ refl
