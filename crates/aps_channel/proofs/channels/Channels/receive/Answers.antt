use Rattle.std.proofs.Common.{◌≡◌, Some, None, sym, ap, ◌∙◌, arith}
use Rattle.aps_model.specs.Inherit.{client_of}
use Rattle.aps_channel.specs.Channels.{after_receive}
use Rattle.aps_channel.proofs.Joined.{below_threads, calm_seen, triples_here}
use Rattle.aps_channel.proofs.channels.Channels.receive.Goals as goal

pub client_of-requires : goal.client_of-requires
client_of-requires c =
    omega (arith, below_threads c.self.inside.waiting c.self.inside.receivers c.self.inside.serving c.args.self.now c.args.by c.self.view_is c.requires.thread, c.self.invariant.servers)

pub returns-in-Some-clause-answer : goal.returns-in-Some-clause-answer
returns-in-Some-clause-answer c =
    sym (ap (λ o. (after_receive c.args.self.now c.args.c c.args.by o).answer) (ap (λ ts. client_of ts c.args.by) (triples_here c.self.inside.waiting c.self.inside.receivers c.self.inside.serving c.args.self.now c.self.view_is) ∙ sym c.in-Some.ensures))

pub returns-in-Some-clause-state : goal.returns-in-Some-clause-state
returns-in-Some-clause-state c =
    sym (ap (λ o. (after_receive c.args.self.now c.args.c c.args.by o).state) (ap (λ ts. client_of ts c.args.by) (triples_here c.self.inside.waiting c.self.inside.receivers c.self.inside.serving c.args.self.now c.self.view_is) ∙ sym c.in-Some.ensures))

pub returns-in-Some-clause-calm : goal.returns-in-Some-clause-calm
returns-in-Some-clause-calm c =
    calm_seen c.self.inside.waiting c.self.inside.receivers c.self.inside.serving c.args.self.now c.self.invariant c.self.view_is

pub take_message-requires-clause-free : goal.take_message-requires-clause-free
take_message-requires-clause-free c =
    ap (λ ts. client_of ts c.args.by) (triples_here c.self.inside.waiting c.self.inside.receivers c.self.inside.serving c.args.self.now c.self.view_is) ∙ sym c.in-None.ensures

pub returns-in-None-clause-answer : goal.returns-in-None-clause-answer
returns-in-None-clause-answer c =
    c.take_message.ensures.answer ∙ sym (ap (λ o. (after_receive c.args.self.now c.args.c c.args.by o).answer) (ap (λ ts. client_of ts c.args.by) (triples_here c.self.inside.waiting c.self.inside.receivers c.self.inside.serving c.args.self.now c.self.view_is) ∙ sym c.in-None.ensures))

pub returns-in-None-clause-state : goal.returns-in-None-clause-state
returns-in-None-clause-state c =
    c.take_message.ensures.state ∙ sym (ap (λ o. (after_receive c.args.self.now c.args.c c.args.by o).state) (ap (λ ts. client_of ts c.args.by) (triples_here c.self.inside.waiting c.self.inside.receivers c.self.inside.serving c.args.self.now c.self.view_is) ∙ sym c.in-None.ensures))
