use Rattle.std.proofs.Common.{◌∙◌, sym, ap}
use Rattle.aps_model.specs.Command.{perform}
use Rattle.aps_model.specs.Partition.{partition_named}
use Rattle.aps_ctl.proofs.Refused.{shape_kept}
use Rattle.aps_ctl.proofs.command.perform.Goals as goal

pub returns-in-Modify-clause-shape : goal.returns-in-Modify-clause-shape
returns-in-Modify-clause-shape c =
    let rows = c.args.tree.now.rows in
    let shape = c.args.shape.now in
    sym (ap (λ call. (perform call rows shape c.args.view.now).shape) c.in-Modify.is
    ∙ shape_kept rows shape c.in-Modify.budget c.in-Modify.critical c.in-Modify.max (partition_named rows c.in-Modify.partition))
