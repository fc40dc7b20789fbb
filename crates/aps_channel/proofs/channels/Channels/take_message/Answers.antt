use Rattle.std.proofs.Common.{◌≡◌, Some, None, sym, ap, ◌∙◌, arith}
use Rattle.aps_model.specs.Inherit.{client_of}
use Rattle.aps_channel.specs.Channels.{received_from}
use Rattle.aps_channel.proofs.Joined.{below_lines, below_messages, below_threads, free_receivers, received_blocked, received_got, triples_here}
use Rattle.aps_channel.proofs.channels.Channels.take_message.Goals as goal

pub take_first-requires : goal.take_first-requires
take_first-requires c =
    below_messages c.self.inside.waiting c.self.inside.receivers c.self.inside.serving c.args.self.now c.args.c c.self.invariant c.self.view_is c.requires.channel

pub push_back-requires-clause-line : goal.push_back-requires-clause-line
push_back-requires-clause-line c =
    below_lines c.self.inside.waiting c.self.inside.receivers c.self.inside.serving c.args.self.now c.args.c c.index-line.result c.self.invariant c.self.view_is c.index-line.ensures.same c.requires.channel

pub push_back-requires-clause-number : goal.push_back-requires-clause-number
push_back-requires-clause-number c =
    omega (arith, below_threads c.self.inside.waiting c.self.inside.receivers c.self.inside.serving c.args.self.now c.args.by c.self.view_is c.requires.thread, c.index-thread.ensures.same, c.self.invariant.threads)

pub push_back-requires-clause-free : goal.push_back-requires-clause-free
push_back-requires-clause-free c =
    free_receivers c.self.inside.waiting c.self.inside.receivers c.self.inside.serving c.args.self.now c.args.by c.index-thread.result c.self.invariant c.self.view_is c.index-thread.ensures.same c.requires.idle

pub invariant_of-self : goal.invariant_of-self
invariant_of-self c =
    (received_blocked c.self.inside.waiting c.take_first.new.self c.self.inside.receivers c.push_back.new.self c.self.inside.serving c.args.self.now c.args.c c.index-line.result c.args.by c.index-thread.result c.self.invariant c.self.view_is c.index-line.ensures.same c.index-thread.ensures.same c.requires.channel c.in-None.ensures.sender c.requires.free c.in-None.ensures.left c.push_back.ensures).0.are

pub begin-requires-clause-thread : goal.begin-requires-clause-thread
begin-requires-clause-thread c =
    omega (arith, below_threads c.self.inside.waiting c.self.inside.receivers c.self.inside.serving c.args.self.now c.args.by c.self.view_is c.requires.thread, c.self.invariant.servers)

pub begin-requires-clause-free : goal.begin-requires-clause-free
begin-requires-clause-free c =
    ap (λ ts. client_of ts c.args.by) (sym (triples_here c.self.inside.waiting c.self.inside.receivers c.self.inside.serving c.args.self.now c.self.view_is)) ∙ c.requires.free

pub invariant_of-self-in-Some : goal.invariant_of-self-in-Some
invariant_of-self-in-Some c =
    (received_got c.self.inside.waiting c.take_first.new.self c.self.inside.receivers c.self.inside.serving c.begin.new.self c.args.self.now c.args.c c.args.by c.in-Some.client c.self.invariant c.self.view_is c.requires.channel c.in-Some.ensures.sender c.requires.idle c.in-Some.ensures.left c.begin.ensures).0.are

pub returns-in-None-clause-answer : goal.returns-in-None-clause-answer
returns-in-None-clause-answer c =
    sym (ap (λ o. (received_from c.args.self.now c.args.c c.args.by o).answer) (received_blocked c.self.inside.waiting c.take_first.new.self c.self.inside.receivers c.push_back.new.self c.self.inside.serving c.args.self.now c.args.c c.index-line.result c.args.by c.index-thread.result c.self.invariant c.self.view_is c.index-line.ensures.same c.index-thread.ensures.same c.requires.channel c.in-None.ensures.sender c.requires.free c.in-None.ensures.left c.push_back.ensures).1)

pub returns-in-None-clause-state : goal.returns-in-None-clause-state
returns-in-None-clause-state c =
    (received_blocked c.self.inside.waiting c.take_first.new.self c.self.inside.receivers c.push_back.new.self c.self.inside.serving c.args.self.now c.args.c c.index-line.result c.args.by c.index-thread.result c.self.invariant c.self.view_is c.index-line.ensures.same c.index-thread.ensures.same c.requires.channel c.in-None.ensures.sender c.requires.free c.in-None.ensures.left c.push_back.ensures).0.same ∙ sym (ap (λ o. (received_from c.args.self.now c.args.c c.args.by o).state) (received_blocked c.self.inside.waiting c.take_first.new.self c.self.inside.receivers c.push_back.new.self c.self.inside.serving c.args.self.now c.args.c c.index-line.result c.args.by c.index-thread.result c.self.invariant c.self.view_is c.index-line.ensures.same c.index-thread.ensures.same c.requires.channel c.in-None.ensures.sender c.requires.free c.in-None.ensures.left c.push_back.ensures).1)

pub returns-in-None-clause-calm : goal.returns-in-None-clause-calm
returns-in-None-clause-calm c =
    (received_blocked c.self.inside.waiting c.take_first.new.self c.self.inside.receivers c.push_back.new.self c.self.inside.serving c.args.self.now c.args.c c.index-line.result c.args.by c.index-thread.result c.self.invariant c.self.view_is c.index-line.ensures.same c.index-thread.ensures.same c.requires.channel c.in-None.ensures.sender c.requires.free c.in-None.ensures.left c.push_back.ensures).0.are.calm

pub returns-in-Some-clause-answer : goal.returns-in-Some-clause-answer
returns-in-Some-clause-answer c =
    sym (ap (λ o. (received_from c.args.self.now c.args.c c.args.by o).answer) (received_got c.self.inside.waiting c.take_first.new.self c.self.inside.receivers c.self.inside.serving c.begin.new.self c.args.self.now c.args.c c.args.by c.in-Some.client c.self.invariant c.self.view_is c.requires.channel c.in-Some.ensures.sender c.requires.idle c.in-Some.ensures.left c.begin.ensures).1)

pub returns-in-Some-clause-state : goal.returns-in-Some-clause-state
returns-in-Some-clause-state c =
    (received_got c.self.inside.waiting c.take_first.new.self c.self.inside.receivers c.self.inside.serving c.begin.new.self c.args.self.now c.args.c c.args.by c.in-Some.client c.self.invariant c.self.view_is c.requires.channel c.in-Some.ensures.sender c.requires.idle c.in-Some.ensures.left c.begin.ensures).0.same ∙ sym (ap (λ o. (received_from c.args.self.now c.args.c c.args.by o).state) (received_got c.self.inside.waiting c.take_first.new.self c.self.inside.receivers c.self.inside.serving c.begin.new.self c.args.self.now c.args.c c.args.by c.in-Some.client c.self.invariant c.self.view_is c.requires.channel c.in-Some.ensures.sender c.requires.idle c.in-Some.ensures.left c.begin.ensures).1)

pub returns-in-Some-clause-calm : goal.returns-in-Some-clause-calm
returns-in-Some-clause-calm c =
    (received_got c.self.inside.waiting c.take_first.new.self c.self.inside.receivers c.self.inside.serving c.begin.new.self c.args.self.now c.args.c c.args.by c.in-Some.client c.self.invariant c.self.view_is c.requires.channel c.in-Some.ensures.sender c.requires.idle c.in-Some.ensures.left c.begin.ensures).0.are.calm
