use Rattle.std.proofs.Common.{arith, subst, sym}
use Rattle.aps_core.specs.LastEnds.{AreEnds}
use Rattle.aps_core.proofs.LastEnds.{ends_more}
use Rattle.aps_core.proofs.ends.Ends.add.Goals as goal

pub returns : goal.returns
returns c = λ h ends.
    ends_more c.self.inside.row h c.args.e.now c.index.result c.self.invariant c.index.ensures.same (omega (arith, c.index.ensures.small))
    (subst (AreEnds h) (sym c.self.view_is) ends)
