use Rattle.std.proofs.Common.{◌≡◌, Some, None, sym, ap, ◌∙◌, arith}
use Rattle.aps_model.specs.Inherit.{client_of}
use Rattle.aps_channel.specs.Channels.{after_send}
use Rattle.aps_channel.proofs.Joined.{below_lines, below_messages, below_threads, free_messages, front_stands, receiver_unheld, sent_blocked, sent_delivered}
use Rattle.aps_channel.proofs.channels.Channels.send.Goals as goal

pub first-requires : goal.first-requires
first-requires c =
    below_lines c.self.inside.waiting c.self.inside.receivers c.self.inside.serving c.args.self.now c.args.c c.index-line.result c.self.invariant c.self.view_is c.index-line.ensures.same c.requires.channel

pub push-requires-clause-channel : goal.push-requires-clause-channel
push-requires-clause-channel c =
    below_messages c.self.inside.waiting c.self.inside.receivers c.self.inside.serving c.args.self.now c.args.c c.self.invariant c.self.view_is c.requires.channel

pub push-requires-clause-thread : goal.push-requires-clause-thread
push-requires-clause-thread c =
    below_threads c.self.inside.waiting c.self.inside.receivers c.self.inside.serving c.args.self.now c.args.from c.self.view_is c.requires.thread

pub push-requires-clause-free : goal.push-requires-clause-free
push-requires-clause-free c =
    free_messages c.self.inside.waiting c.self.inside.receivers c.self.inside.serving c.args.self.now c.args.from c.self.invariant c.self.view_is c.requires.idle

pub invariant_of-self : goal.invariant_of-self
invariant_of-self c =
    (sent_blocked c.self.inside.waiting c.push.new.self c.self.inside.receivers c.self.inside.serving c.args.self.now c.args.c c.index-line.result c.args.from c.args.priority c.self.invariant c.self.view_is c.index-line.ensures.same c.requires.channel c.in-None.ensures.same c.push.ensures).0.are

pub at-server-requires : goal.at-server-requires
at-server-requires c =
    omega (arith, c.in-Some.ensures.within, c.self.invariant.threads, c.self.invariant.few)

pub remove-requires-clause-line : goal.remove-requires-clause-line
remove-requires-clause-line c =
    below_lines c.self.inside.waiting c.self.inside.receivers c.self.inside.serving c.args.self.now c.args.c c.index-line.result c.self.invariant c.self.view_is c.index-line.ensures.same c.requires.channel

pub remove-requires-clause-there : goal.remove-requires-clause-there
remove-requires-clause-there c =
    front_stands c.self.inside.receivers c.index-line.result c.in-Some.first c.in-Some.ensures.same

pub begin-requires-clause-thread : goal.begin-requires-clause-thread
begin-requires-clause-thread c =
    omega (arith, c.at-server.ensures, c.in-Some.ensures.within, c.self.invariant.threads, c.self.invariant.servers)

pub begin-requires-clause-free : goal.begin-requires-clause-free
begin-requires-clause-free c =
    receiver_unheld c.self.inside.waiting c.self.inside.receivers c.self.inside.serving c.args.self.now c.args.c c.index-line.result c.in-Some.first c.at-server.result c.self.invariant c.self.view_is c.index-line.ensures.same c.at-server.ensures c.in-Some.ensures.same

pub invariant_of-self-in-Some : goal.invariant_of-self-in-Some
invariant_of-self-in-Some c =
    (sent_delivered c.self.inside.waiting c.self.inside.receivers c.remove.new.self c.self.inside.serving c.begin.new.self c.args.self.now c.args.c c.index-line.result c.args.from c.in-Some.first c.at-server.result c.self.invariant c.self.view_is c.index-line.ensures.same c.at-server.ensures c.requires.channel c.in-Some.ensures.same c.in-Some.ensures.apart c.remove.ensures c.begin.ensures).seen.are

pub returns-in-None-clause-answer : goal.returns-in-None-clause-answer
returns-in-None-clause-answer c =
    sym (ap (λ rs. (after_send c.args.self.now c.args.c c.args.from c.args.priority rs).answer) (sent_blocked c.self.inside.waiting c.push.new.self c.self.inside.receivers c.self.inside.serving c.args.self.now c.args.c c.index-line.result c.args.from c.args.priority c.self.invariant c.self.view_is c.index-line.ensures.same c.requires.channel c.in-None.ensures.same c.push.ensures).1)

pub returns-in-None-clause-state : goal.returns-in-None-clause-state
returns-in-None-clause-state c =
    (sent_blocked c.self.inside.waiting c.push.new.self c.self.inside.receivers c.self.inside.serving c.args.self.now c.args.c c.index-line.result c.args.from c.args.priority c.self.invariant c.self.view_is c.index-line.ensures.same c.requires.channel c.in-None.ensures.same c.push.ensures).0.same ∙ sym (ap (λ rs. (after_send c.args.self.now c.args.c c.args.from c.args.priority rs).state) (sent_blocked c.self.inside.waiting c.push.new.self c.self.inside.receivers c.self.inside.serving c.args.self.now c.args.c c.index-line.result c.args.from c.args.priority c.self.invariant c.self.view_is c.index-line.ensures.same c.requires.channel c.in-None.ensures.same c.push.ensures).1)

pub returns-in-None-clause-calm : goal.returns-in-None-clause-calm
returns-in-None-clause-calm c =
    (sent_blocked c.self.inside.waiting c.push.new.self c.self.inside.receivers c.self.inside.serving c.args.self.now c.args.c c.index-line.result c.args.from c.args.priority c.self.invariant c.self.view_is c.index-line.ensures.same c.requires.channel c.in-None.ensures.same c.push.ensures).0.are.calm

pub returns-in-Some-clause-answer : goal.returns-in-Some-clause-answer
returns-in-Some-clause-answer c =
    sym (ap (λ rs. (after_send c.args.self.now c.args.c c.args.from c.args.priority rs).answer) (sent_delivered c.self.inside.waiting c.self.inside.receivers c.remove.new.self c.self.inside.serving c.begin.new.self c.args.self.now c.args.c c.index-line.result c.args.from c.in-Some.first c.at-server.result c.self.invariant c.self.view_is c.index-line.ensures.same c.at-server.ensures c.requires.channel c.in-Some.ensures.same c.in-Some.ensures.apart c.remove.ensures c.begin.ensures).receivers)

pub returns-in-Some-clause-state : goal.returns-in-Some-clause-state
returns-in-Some-clause-state c =
    (sent_delivered c.self.inside.waiting c.self.inside.receivers c.remove.new.self c.self.inside.serving c.begin.new.self c.args.self.now c.args.c c.index-line.result c.args.from c.in-Some.first c.at-server.result c.self.invariant c.self.view_is c.index-line.ensures.same c.at-server.ensures c.requires.channel c.in-Some.ensures.same c.in-Some.ensures.apart c.remove.ensures c.begin.ensures).seen.same ∙ sym (ap (λ rs. (after_send c.args.self.now c.args.c c.args.from c.args.priority rs).state) (sent_delivered c.self.inside.waiting c.self.inside.receivers c.remove.new.self c.self.inside.serving c.begin.new.self c.args.self.now c.args.c c.index-line.result c.args.from c.in-Some.first c.at-server.result c.self.invariant c.self.view_is c.index-line.ensures.same c.at-server.ensures c.requires.channel c.in-Some.ensures.same c.in-Some.ensures.apart c.remove.ensures c.begin.ensures).receivers)

pub returns-in-Some-clause-calm : goal.returns-in-Some-clause-calm
returns-in-Some-clause-calm c =
    (sent_delivered c.self.inside.waiting c.self.inside.receivers c.remove.new.self c.self.inside.serving c.begin.new.self c.args.self.now c.args.c c.index-line.result c.args.from c.in-Some.first c.at-server.result c.self.invariant c.self.view_is c.index-line.ensures.same c.at-server.ensures c.requires.channel c.in-Some.ensures.same c.in-Some.ensures.apart c.remove.ensures c.begin.ensures).seen.are.calm
