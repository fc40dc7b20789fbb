use Rattle.std.proofs.Common.{◌++◌, ◌∷◌, [], slice_set}
use Rattle.aps_channel.specs.Lines.{queue_line_at, with_line}
use Rattle.aps_channel.proofs.Ranks.{AreSeen, last_has_link, number_below, seen_pushed}
use Rattle.aps_channel.proofs.lines.Lines.push_back.Goals as goal

pub link_behind-requires-clause-last : goal.link_behind-requires-clause-last
link_behind-requires-clause-last c =
    last_has_link c.self.inside.links.items c.self.inside.ends.items c.index-ends.result.now c.args.line c.args.self.now
    c.self.invariant c.self.view_is c.requires.line c.index-ends.ensures

pub link_behind-requires-clause-number : goal.link_behind-requires-clause-number
link_behind-requires-clause-number c =
    number_below c.self.inside.links.items c.self.inside.ends.items c.args.self.now c.args.number c.self.view_is c.requires.number

left : (c : goal.After-self-1) → AreSeen c.link_behind.new.links.items (slice_set c.self.inside.ends.items c.args.line c.with_last.result)
    (with_line c.args.self.now c.args.line (queue_line_at c.args.self.now.lines c.args.line ++ c.args.number ∷ []))
left c =
    seen_pushed c.self.inside.links.items c.link_behind.new.links.items c.self.inside.ends.items c.index-ends.result.now c.with_last.result c.args.line c.args.number c.args.self.now
    c.self.invariant c.self.view_is c.requires.line c.requires.number c.requires.free c.index-ends.ensures c.link_behind.ensures c.with_last.ensures

pub invariant_of-self : goal.invariant_of-self
invariant_of-self c = (left c).are

pub returns : goal.returns
returns c = (left c).same
