use Rattle.std.proofs.Common.{rules}
use Rattle.view_pictures.proofs.usage.panel_at.Goals as goal
use Rattle.view_pictures.proofs.usage.panel_at.Goals.{then-p-height, else-p-height}

pub returns : goal.returns
returns c =
    elim c.if-p-height.branch [
      | then-p-height w ↦ search rules
      | else-p-height w ↦ search rules
    ]
