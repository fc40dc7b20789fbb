use Rattle.aps_channel.proofs.Ranks.{apart_seen, first_below}
use Rattle.aps_channel.proofs.lines.Lines.first.Goals as goal

pub returns-clause-within : goal.returns-clause-within
returns-clause-within c =
    first_below c.self.inside.links.items c.self.inside.ends.items c.index.result.now c.args.line c.args.self.now c.self.invariant c.self.view_is c.requires c.index.ensures

pub returns-clause-apart : goal.returns-clause-apart
returns-clause-apart c = apart_seen c.self.inside.links.items c.self.inside.ends.items c.args.self.now c.self.invariant c.self.view_is
