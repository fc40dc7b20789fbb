use Rattle.std.proofs.Common.{length, ap, arith}
use Rattle.aps_scenario.proofs.Paths.{pushed}
use Rattle.aps_scenario.proofs.path.PathText.push.Goals as goal

pub invariant_of-self : goal.invariant_of-self
invariant_of-self c =
    pushed c.self.inside.bytes c.self.inside.len c.args.byte (omega arith) (omega (arith, c.requires, c.self.invariant.count, ap length c.self.view_is)) c.self.invariant
