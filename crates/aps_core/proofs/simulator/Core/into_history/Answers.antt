use Rattle.std.proofs.Common.{subst}
use Rattle.aps_core.specs.Core.{IsUnderWay}
use Rattle.aps_core.proofs.Recorded.{recorded_law}
use Rattle.aps_core.proofs.simulator.Core.into_history.Goals as goal

pub returns-clause-tiled : goal.returns-clause-tiled
returns-clause-tiled c = (recorded_law c.args.self (subst IsUnderWay c.self.view_is c.self.invariant.core.keeps)).tiled

pub returns-clause-billed : goal.returns-clause-billed
returns-clause-billed c = (recorded_law c.args.self (subst IsUnderWay c.self.view_is c.self.invariant.core.keeps)).billed

pub returns-clause-picks : goal.returns-clause-picks
returns-clause-picks c = (recorded_law c.args.self (subst IsUnderWay c.self.view_is c.self.invariant.core.keeps)).picks

pub returns-clause-bound : goal.returns-clause-bound
returns-clause-bound c = (recorded_law c.args.self (subst IsUnderWay c.self.view_is c.self.invariant.core.keeps)).bound

pub returns-clause-critical_bound : goal.returns-clause-critical_bound
returns-clause-critical_bound c = (recorded_law c.args.self (subst IsUnderWay c.self.view_is c.self.invariant.core.keeps)).critical_bound

pub returns-clause-cpus : goal.returns-clause-cpus
returns-clause-cpus c = (recorded_law c.args.self (subst IsUnderWay c.self.view_is c.self.invariant.core.keeps)).cpus
