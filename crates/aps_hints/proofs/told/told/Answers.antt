use Rattle.std.proofs.Common.{inl, inr}
use Rattle.std.proofs.lemmas.Result.{IfOk-weaker}
use Rattle.aps_hints.specs.Hint.{IsHintOf}
use Rattle.aps_hints.proofs.told.told.Goals as goal

-- of a line with a place
pub returns-in-Some : goal.returns-in-Some
returns-in-Some c = IfOk-weaker _ _ (IsHintOf _ _) (λ line same. (_, _, inr (_, same))) c.told_at.ensures

-- of a line without one
pub returns-in-None : goal.returns-in-None
returns-in-None c = IfOk-weaker _ _ (IsHintOf _ _) (λ line same. (_, _, inl same)) c.told_of.ensures
