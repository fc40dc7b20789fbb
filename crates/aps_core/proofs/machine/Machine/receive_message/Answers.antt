use Rattle.std.proofs.Common.{◌≡◌, ◌<◌, ◌∙◌, List, length, ap, refl, subst, sym, None}
use Rattle.aps_model.specs.Inherit.{Inheritance, IsFree, client_of}
use Rattle.aps_model.specs.SchedulerState.{SchedulerState, Triple}
use Rattle.aps_channel.specs.Channels.{Channels, after_receive}
use Rattle.aps_inherit.specs.Serving.{server_of}
use Rattle.aps_core.specs.MachineView.{state_of_machine}
use Rattle.aps_core.specs.Room.{HasRoomForOperation}
use Rattle.aps_core.proofs.Conversing.{channels_are, got_from, received_got, received_none, tied_machine}
use Rattle.aps_core.proofs.machine.Machine.receive_message.Goals as goal

pub serve-requires-clause-free : goal.serve-requires-clause-free
serve-requires-clause-free c =
    let s = state_of_machine c.self.inside in
    let are = channels_are s c.self.inside.channels refl refl c.self.invariant.waiters in
    let answer = c.receive-received.ensures.answer ∙ ap (λ (h : Channels). (after_receive h c.args.c c.args.x (client_of h.triples c.args.x)).answer) are in
    let room = subst (λ (u : SchedulerState). HasRoomForOperation u c.args.x) (sym c.self.view_is) c.requires.room in
    let triples = ap (λ (i : Inheritance). i.triples) c.raise.ensures ∙ ap (λ (i : Inheritance). i.triples) c.self.invariant.inherits in
    subst (λ (ts : List Triple). IsFree ts c.args.x) (sym triples) (got_from s c.args.x c.args.c c.in-Got.client room (sym c.in-Got.is ∙ answer)).free

pub serve-requires-clause-alone : goal.serve-requires-clause-alone
serve-requires-clause-alone c =
    let s = state_of_machine c.self.inside in
    let are = channels_are s c.self.inside.channels refl refl c.self.invariant.waiters in
    let answer = c.receive-received.ensures.answer ∙ ap (λ (h : Channels). (after_receive h c.args.c c.args.x (client_of h.triples c.args.x)).answer) are in
    let room = subst (λ (u : SchedulerState). HasRoomForOperation u c.args.x) (sym c.self.view_is) c.requires.room in
    let triples = ap (λ (i : Inheritance). i.triples) c.raise.ensures ∙ ap (λ (i : Inheritance). i.triples) c.self.invariant.inherits in
    subst (λ (ts : List Triple). server_of ts c.in-Got.client ≡ None) (sym triples) (got_from s c.args.x c.args.c c.in-Got.client room (sym c.in-Got.is ∙ answer)).alone

pub serve-requires-clause-other : goal.serve-requires-clause-other
serve-requires-clause-other c =
    let s = state_of_machine c.self.inside in
    let are = channels_are s c.self.inside.channels refl refl c.self.invariant.waiters in
    let answer = c.receive-received.ensures.answer ∙ ap (λ (h : Channels). (after_receive h c.args.c c.args.x (client_of h.triples c.args.x)).answer) are in
    let room = subst (λ (u : SchedulerState). HasRoomForOperation u c.args.x) (sym c.self.view_is) c.requires.room in
    (got_from s c.args.x c.args.c c.in-Got.client room (sym c.in-Got.is ∙ answer)).other

pub invariant_of-self : goal.invariant_of-self
invariant_of-self c =
    let s = state_of_machine c.self.inside in
    let are = channels_are s c.self.inside.channels refl refl c.self.invariant.waiters in
    let answer = c.receive-received.ensures.answer ∙ ap (λ (h : Channels). (after_receive h c.args.c c.args.x (client_of h.triples c.args.x)).answer) are in
    let leaves = c.receive-received.ensures.state ∙ ap (λ (h : Channels). (after_receive h c.args.c c.args.x (client_of h.triples c.args.x)).state) are in
    let within = subst (λ (u : SchedulerState). c.args.c < length u.channels) (sym c.self.view_is) c.requires.channel in
    tied_machine s c.self.inside.tasks _ _ _ _ _ _ _ c.self.invariant
    (received_got s c.args.x c.args.c c.in-Got.client c.receive-received.new.self c.self.inside.inherit c.raise.new.self c.serve.new.self c.top-left.result within leaves
    (sym c.in-Got.is ∙ answer) c.self.invariant.inherits c.top-left.ensures.top c.raise.ensures c.serve.ensures)

pub invariant_of-self-in_default : goal.invariant_of-self-in_default
invariant_of-self-in_default c =
    let s = state_of_machine c.self.inside in
    let are = channels_are s c.self.inside.channels refl refl c.self.invariant.waiters in
    let answer = c.receive-received.ensures.answer ∙ ap (λ (h : Channels). (after_receive h c.args.c c.args.x (client_of h.triples c.args.x)).answer) are in
    let leaves = c.receive-received.ensures.state ∙ ap (λ (h : Channels). (after_receive h c.args.c c.args.x (client_of h.triples c.args.x)).state) are in
    tied_machine s c.self.inside.tasks _ _ _ _ _ _ _ c.self.invariant
    (received_none s c.args.x c.args.c c.receive-received.new.self c.self.inside.inherit leaves (λ y e. c.in_default.not-Got y (answer ∙ e)) c.self.invariant.inherits)
