use Rattle.std.proofs.Common.{slice_set}
use Rattle.aps_channel.specs.Lines.{queue_line_at, with_line, without}
use Rattle.aps_channel.proofs.Ranks.{AreSeen, seen_removed, sides_have_links}
use Rattle.aps_channel.proofs.lines.Lines.remove.Goals as goal

pub close_gap-requires : goal.close_gap-requires
close_gap-requires c =
    let sides =
    sides_have_links c.self.inside.links.items c.self.inside.ends.items c.index-link.result.now c.args.line c.args.number c.args.self.now
    c.self.invariant c.self.view_is c.requires.line c.requires.there c.index-link.ensures in
    record { before = sides.before; after = sides.after }

left : (c : goal.After-self-1) → AreSeen c.close_gap.new.links.items (slice_set c.self.inside.ends.items c.args.line c.without.result)
    (with_line c.args.self.now c.args.line (without c.args.number (queue_line_at c.args.self.now.lines c.args.line)))
left c =
    seen_removed c.self.inside.links.items c.close_gap.new.links.items c.self.inside.ends.items c.index-ends.result.now c.without.result c.index-link.result.now c.args.line c.args.number c.args.self.now
    c.self.invariant c.self.view_is c.requires.line c.requires.there c.index-ends.ensures c.index-link.ensures c.close_gap.ensures c.without.ensures

pub invariant_of-self : goal.invariant_of-self
invariant_of-self c = (left c).are

pub returns : goal.returns
returns c = (left c).same
