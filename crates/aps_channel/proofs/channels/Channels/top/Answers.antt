use Rattle.std.proofs.Common.{sym, ap, ◌∙◌}
use Rattle.aps_model.specs.Inherit.{top_of}
use Rattle.aps_channel.proofs.Joined.{below_messages, calm_seen, messages_here}
use Rattle.aps_channel.proofs.channels.Channels.top.Goals as goal

pub top-requires : goal.top-requires
top-requires c =
    below_messages c.self.inside.waiting c.self.inside.receivers c.self.inside.serving c.args.self.now c.args.c c.self.invariant c.self.view_is c.requires

pub returns-clause-top : goal.returns-clause-top
returns-clause-top c =
    c.top.ensures ∙ ap top_of (sym (messages_here c.self.inside.waiting c.self.inside.receivers c.self.inside.serving c.args.self.now c.args.c c.self.invariant c.self.view_is))

pub returns-clause-calm : goal.returns-clause-calm
returns-clause-calm c =
    calm_seen c.self.inside.waiting c.self.inside.receivers c.self.inside.serving c.args.self.now c.self.invariant c.self.view_is
