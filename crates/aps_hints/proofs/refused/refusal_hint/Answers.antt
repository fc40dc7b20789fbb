use Rattle.aps_hints.proofs.Refusals.{hint_of_refusal}
use Rattle.aps_hints.proofs.refused.refusal_hint.Goals as goal

pub returns-in_ok-line-in-Some : goal.returns-in_ok-line-in-Some
returns-in_ok-line-in-Some c =
    hint_of_refusal _ _ _ c.in-Some.refused _ c.in_ok-refused.ensures c.in-Some.is c.in_ok-line-in-Some.ensures
