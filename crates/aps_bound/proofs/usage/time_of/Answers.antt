use Rattle.aps_bound.proofs.Overlaps.{overlap_inside}
use Rattle.aps_bound.proofs.usage.time_of.Goals as goal

pub returns-clause-same : goal.returns-clause-same
returns-clause-same c = overlap_inside c.args._tick c.args._a c.args.e.now c.requires.inside
