use Rattle.std.proofs.Common.{◌≡◌, ◌<◌, ◌∙◌, List, length, ap, refl, subst, sym, None}
use Rattle.aps_model.specs.declared.state.Facts.{Facts}
use Rattle.aps_model.specs.Inherit.{Inheritance, IsFree, facts_of}
use Rattle.aps_model.specs.SchedulerState.{SchedulerState, Triple}
use Rattle.aps_channel.specs.Channels.{Channels, channel_in_place, after_send}
use Rattle.aps_inherit.specs.Serving.{server_of}
use Rattle.aps_core.specs.Conversation.{channels_of_state}
use Rattle.aps_core.specs.MachineView.{state_of_machine}
use Rattle.aps_core.specs.Room.{HasRoomForOperation}
use Rattle.aps_core.proofs.Conversing.{channels_are, delivered_to, sent_blocked, sent_delivered, tied_machine}
use Rattle.aps_core.proofs.machine.Machine.send_message.Goals as goal

pub serve-requires-clause-free : goal.serve-requires-clause-free
serve-requires-clause-free c =
    let s = state_of_machine c.self.inside in
    let are = channels_are s c.self.inside.channels refl refl c.self.invariant.waiters in
    let priority : c.facts_of-priority.result.priority ≡ (facts_of s c.args.x).priority = ap (λ (f : Facts). f.priority) c.facts_of-priority.ensures ∙ ap (λ (u : SchedulerState). (facts_of u c.args.x).priority) (sym c.self.view_is) in
    let answer =
    c.send-sent.ensures.answer
    ∙ ap (λ (h : Channels). (after_send h c.args.c c.args.x c.facts_of-priority.result.priority (channel_in_place h c.args.c).receivers).answer) are
    ∙ ap (λ n. (after_send (channels_of_state s) c.args.c c.args.x n (channel_in_place (channels_of_state s) c.args.c).receivers).answer) priority in
    let room = subst (λ (u : SchedulerState). HasRoomForOperation u c.args.x) (sym c.self.view_is) c.requires.room in
    let triples = ap (λ (i : Inheritance). i.triples) c.self.invariant.inherits in
    subst (λ (ts : List Triple). IsFree ts c.in-Delivered.server) (sym triples) (delivered_to s c.args.x c.args.c c.in-Delivered.server room (sym c.in-Delivered.is ∙ answer)).free

pub serve-requires-clause-alone : goal.serve-requires-clause-alone
serve-requires-clause-alone c =
    let s = state_of_machine c.self.inside in
    let are = channels_are s c.self.inside.channels refl refl c.self.invariant.waiters in
    let priority : c.facts_of-priority.result.priority ≡ (facts_of s c.args.x).priority = ap (λ (f : Facts). f.priority) c.facts_of-priority.ensures ∙ ap (λ (u : SchedulerState). (facts_of u c.args.x).priority) (sym c.self.view_is) in
    let answer =
    c.send-sent.ensures.answer
    ∙ ap (λ (h : Channels). (after_send h c.args.c c.args.x c.facts_of-priority.result.priority (channel_in_place h c.args.c).receivers).answer) are
    ∙ ap (λ n. (after_send (channels_of_state s) c.args.c c.args.x n (channel_in_place (channels_of_state s) c.args.c).receivers).answer) priority in
    let room = subst (λ (u : SchedulerState). HasRoomForOperation u c.args.x) (sym c.self.view_is) c.requires.room in
    let triples = ap (λ (i : Inheritance). i.triples) c.self.invariant.inherits in
    subst (λ (ts : List Triple). server_of ts c.args.x ≡ None) (sym triples) (delivered_to s c.args.x c.args.c c.in-Delivered.server room (sym c.in-Delivered.is ∙ answer)).alone

pub serve-requires-clause-other : goal.serve-requires-clause-other
serve-requires-clause-other c =
    let s = state_of_machine c.self.inside in
    let are = channels_are s c.self.inside.channels refl refl c.self.invariant.waiters in
    let priority : c.facts_of-priority.result.priority ≡ (facts_of s c.args.x).priority = ap (λ (f : Facts). f.priority) c.facts_of-priority.ensures ∙ ap (λ (u : SchedulerState). (facts_of u c.args.x).priority) (sym c.self.view_is) in
    let answer =
    c.send-sent.ensures.answer
    ∙ ap (λ (h : Channels). (after_send h c.args.c c.args.x c.facts_of-priority.result.priority (channel_in_place h c.args.c).receivers).answer) are
    ∙ ap (λ n. (after_send (channels_of_state s) c.args.c c.args.x n (channel_in_place (channels_of_state s) c.args.c).receivers).answer) priority in
    let room = subst (λ (u : SchedulerState). HasRoomForOperation u c.args.x) (sym c.self.view_is) c.requires.room in
    (delivered_to s c.args.x c.args.c c.in-Delivered.server room (sym c.in-Delivered.is ∙ answer)).other

pub invariant_of-self : goal.invariant_of-self
invariant_of-self c =
    let s = state_of_machine c.self.inside in
    let are = channels_are s c.self.inside.channels refl refl c.self.invariant.waiters in
    let priority : c.facts_of-priority.result.priority ≡ (facts_of s c.args.x).priority = ap (λ (f : Facts). f.priority) c.facts_of-priority.ensures ∙ ap (λ (u : SchedulerState). (facts_of u c.args.x).priority) (sym c.self.view_is) in
    let answer =
    c.send-sent.ensures.answer
    ∙ ap (λ (h : Channels). (after_send h c.args.c c.args.x c.facts_of-priority.result.priority (channel_in_place h c.args.c).receivers).answer) are
    ∙ ap (λ n. (after_send (channels_of_state s) c.args.c c.args.x n (channel_in_place (channels_of_state s) c.args.c).receivers).answer) priority in
    let leaves =
    c.send-sent.ensures.state
    ∙ ap (λ (h : Channels). (after_send h c.args.c c.args.x c.facts_of-priority.result.priority (channel_in_place h c.args.c).receivers).state) are
    ∙ ap (λ n. (after_send (channels_of_state s) c.args.c c.args.x n (channel_in_place (channels_of_state s) c.args.c).receivers).state) priority in
    tied_machine s c.self.inside.tasks _ _ _ _ _ _ _ c.self.invariant
    (sent_delivered s c.args.x c.args.c c.in-Delivered.server c.send-sent.new.self c.self.inside.inherit c.serve.new.self leaves (sym c.in-Delivered.is ∙ answer) c.self.invariant.inherits c.serve.ensures)

pub invariant_of-self-in-Blocked : goal.invariant_of-self-in-Blocked
invariant_of-self-in-Blocked c =
    let s = state_of_machine c.self.inside in
    let are = channels_are s c.self.inside.channels refl refl c.self.invariant.waiters in
    let priority : c.facts_of-priority.result.priority ≡ (facts_of s c.args.x).priority = ap (λ (f : Facts). f.priority) c.facts_of-priority.ensures ∙ ap (λ (u : SchedulerState). (facts_of u c.args.x).priority) (sym c.self.view_is) in
    let answer =
    c.send-sent.ensures.answer
    ∙ ap (λ (h : Channels). (after_send h c.args.c c.args.x c.facts_of-priority.result.priority (channel_in_place h c.args.c).receivers).answer) are
    ∙ ap (λ n. (after_send (channels_of_state s) c.args.c c.args.x n (channel_in_place (channels_of_state s) c.args.c).receivers).answer) priority in
    let leaves =
    c.send-sent.ensures.state
    ∙ ap (λ (h : Channels). (after_send h c.args.c c.args.x c.facts_of-priority.result.priority (channel_in_place h c.args.c).receivers).state) are
    ∙ ap (λ n. (after_send (channels_of_state s) c.args.c c.args.x n (channel_in_place (channels_of_state s) c.args.c).receivers).state) priority in
    let within = subst (λ (u : SchedulerState). c.args.c < length u.channels) (sym c.self.view_is) c.requires.channel in
    tied_machine s c.self.inside.tasks _ _ _ _ _ _ _ c.self.invariant
    (sent_blocked s c.args.x c.args.c c.send-sent.new.self c.self.inside.inherit c.raise.new.self c.top-top.result within leaves (sym c.in-Blocked.is ∙ answer) c.self.invariant.inherits
    c.top-top.ensures.top c.raise.ensures)
