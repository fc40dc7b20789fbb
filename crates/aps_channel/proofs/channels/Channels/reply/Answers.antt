use Rattle.std.proofs.Common.{◌≡◌, Some, None, IsSome, refl, subst, sym, ap, ◌∙◌, arith}
use Rattle.aps_model.specs.Inherit.{client_of}
use Rattle.aps_channel.specs.Channels.{after_reply}
use Rattle.aps_channel.proofs.Joined.{below_threads, calm_seen, replied_freed, triples_here}
use Rattle.aps_channel.proofs.channels.Channels.reply.Goals as goal

pub client_of-requires : goal.client_of-requires
client_of-requires c =
    omega (arith, below_threads c.self.inside.waiting c.self.inside.receivers c.self.inside.serving c.args.self.now c.args.by c.self.view_is c.requires.thread, c.self.invariant.servers)

pub end-requires-clause-thread : goal.end-requires-clause-thread
end-requires-clause-thread c =
    omega (arith, below_threads c.self.inside.waiting c.self.inside.receivers c.self.inside.serving c.args.self.now c.args.by c.self.view_is c.requires.thread, c.self.invariant.servers)

pub end-requires-clause-serves : goal.end-requires-clause-serves
end-requires-clause-serves c =
    subst IsSome c.in-Some.ensures refl

pub invariant_of-self : goal.invariant_of-self
invariant_of-self c =
    (replied_freed c.self.inside.waiting c.self.inside.receivers c.self.inside.serving c.end.new.self c.args.self.now c.args.by c.self.invariant c.self.view_is c.end.ensures).are

pub returns-in-None-clause-answer : goal.returns-in-None-clause-answer
returns-in-None-clause-answer c =
    sym (ap (λ o. (after_reply c.args.self.now c.args.by o).answer) (ap (λ ts. client_of ts c.args.by) (triples_here c.self.inside.waiting c.self.inside.receivers c.self.inside.serving c.args.self.now c.self.view_is) ∙ sym c.in-None.ensures))

pub returns-in-None-clause-state : goal.returns-in-None-clause-state
returns-in-None-clause-state c =
    sym (ap (λ o. (after_reply c.args.self.now c.args.by o).state) (ap (λ ts. client_of ts c.args.by) (triples_here c.self.inside.waiting c.self.inside.receivers c.self.inside.serving c.args.self.now c.self.view_is) ∙ sym c.in-None.ensures))

pub returns-in-None-clause-calm : goal.returns-in-None-clause-calm
returns-in-None-clause-calm c =
    calm_seen c.self.inside.waiting c.self.inside.receivers c.self.inside.serving c.args.self.now c.self.invariant c.self.view_is

pub returns-in-Some-clause-answer : goal.returns-in-Some-clause-answer
returns-in-Some-clause-answer c =
    sym (ap (λ o. (after_reply c.args.self.now c.args.by o).answer) (ap (λ ts. client_of ts c.args.by) (triples_here c.self.inside.waiting c.self.inside.receivers c.self.inside.serving c.args.self.now c.self.view_is) ∙ sym c.in-Some.ensures))

pub returns-in-Some-clause-state : goal.returns-in-Some-clause-state
returns-in-Some-clause-state c =
    (replied_freed c.self.inside.waiting c.self.inside.receivers c.self.inside.serving c.end.new.self c.args.self.now c.args.by c.self.invariant c.self.view_is c.end.ensures).same ∙ sym (ap (λ o. (after_reply c.args.self.now c.args.by o).state) (ap (λ ts. client_of ts c.args.by) (triples_here c.self.inside.waiting c.self.inside.receivers c.self.inside.serving c.args.self.now c.self.view_is) ∙ sym c.in-Some.ensures))

pub returns-in-Some-clause-calm : goal.returns-in-Some-clause-calm
returns-in-Some-clause-calm c =
    (replied_freed c.self.inside.waiting c.self.inside.receivers c.self.inside.serving c.end.new.self c.args.self.now c.args.by c.self.invariant c.self.view_is c.end.ensures).are.calm
