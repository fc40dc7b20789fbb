use Rattle.std.proofs.Common.{ap}
use Rattle.aps_model.specs.Inherit.{Inheritance}
use Rattle.aps_inherit.proofs.Values.{right-first}
use Rattle.aps_inherit.proofs.inherit.Inherit.new.Goals as goal

pub invariant_of-result : goal.invariant_of-result
invariant_of-result c =
    right-first c.in_ok-content.content c.in_ok-kept.kept (ap (λ (i : Inheritance). i.triples) c.in_ok-content.ensures.same)
    c.in_ok-kept.ensures
