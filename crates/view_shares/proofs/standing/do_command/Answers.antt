use Rattle.std.proofs.Common.{◌∙◌, ap, sym}
use Rattle.aps_model.specs.declared.shape.Shape.{Shape}
use Rattle.view_shares.proofs.Commands.{commanded_parts}
use Rattle.view_shares.proofs.standing.do_command.Goals as goal

pub returns-clause-parts : goal.returns-clause-parts
returns-clause-parts c =
    c.perform-answer.ensures.parts ∙ c.requires ∙ sym (commanded_parts c.args.row.now.call c.args.tree.now.rows c.args.shape.now)
    ∙ sym (ap (λ (x : Shape). x.parts) c.perform-answer.ensures.shape)
