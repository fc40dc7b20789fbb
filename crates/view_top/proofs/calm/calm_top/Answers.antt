use Rattle.view_top.proofs.Dues.{calm_answer}
use Rattle.view_top.proofs.calm.calm_top.Goals as goal

pub returns : goal.returns
returns c = calm_answer _ _ _ _ _ _ _ _ c.top.ensures
