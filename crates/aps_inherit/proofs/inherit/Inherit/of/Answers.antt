use Rattle.std.proofs.Common.{◌∙◌, ap}
use Rattle.aps_model.specs.Inherit.{Inheritance, inherited}
use Rattle.aps_inherit.proofs.Values.{kept_inherited}
use Rattle.aps_inherit.proofs.inherit.Inherit.of.Goals as goal

pub returns : goal.returns
returns c =
    c.at.ensures
    ∙ kept_inherited c.self.inside.content c.self.inside.kept c.newest-chains.ensures.chains.made c.self.invariant c.args.x
    ∙ ap (λ (i : Inheritance). inherited i c.args.x) c.self.view_is
