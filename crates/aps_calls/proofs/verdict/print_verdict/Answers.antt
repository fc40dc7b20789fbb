use Rattle.std.proofs.Common.{◌∙◌}
use Rattle.aps_calls.proofs.Said.{made_as}
use Rattle.aps_calls.proofs.verdict.print_verdict.Goals as goal

pub returns-in-Ok : goal.returns-in-Ok
returns-in-Ok g c = made_as _ _ _ _ _ _ _ (c.as_bytes.ensures.value ∙ c.in-Ok.ensures) c.of_verdict.ensures c.print.ensures.prints
