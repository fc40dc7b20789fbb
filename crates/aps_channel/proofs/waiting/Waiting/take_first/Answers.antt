use Rattle.std.proofs.Common.{Some, slice_set, sym, ap, ◌∙◌, subst}
use Rattle.aps_model.specs.Messages.{without_sender}
use Rattle.aps_channel.specs.Queues.{message_in}
use Rattle.aps_channel.specs.Waiting.{messages_at, with_messages}
use Rattle.aps_channel.proofs.Seen.{AreSeenQueues, first_stands, next_sender, no_sender, seen_less}
use Rattle.aps_channel.proofs.waiting.Waiting.take_first.Goals as goal

pub returns-in_err-level-clause-sender : goal.returns-in_err-level-clause-sender
returns-in_err-level-clause-sender c =
    c.from_residual.ensures
    ∙ sym (no_sender c.self.inside.arrivals c.self.inside.levels c.self.inside.in_use.items c.self.inside.records c.self.inside.threads c.args.self.now c.index-set.result.now c.args.c c.index-c.result
    c.self.invariant.queues c.self.view_is c.index-c.ensures.same c.requires c.index-set.ensures c.in_err-level.ensures.none)

pub remove-requires-clause-there : goal.remove-requires-clause-there
remove-requires-clause-there c =
    let least = c.in_ok-level.ensures.some in
    first_stands c.self.inside.arrivals c.self.inside.levels c.self.inside.in_use.items c.self.inside.records c.self.inside.threads c.args.self.now c.args.c c.index-c.result c.in_ok-level.level c.in_ok-key.key
    c.self.invariant.queues c.self.view_is c.index-c.ensures.same c.requires least.below c.in_ok-key.ensures.same

pub remove-message-requires : goal.remove-message-requires
remove-message-requires c =
    let least = c.in_ok-level.ensures.some in
    c.self.invariant.records.kept c.index-c.result c.in_ok-key.key
    (first_stands c.self.inside.arrivals c.self.inside.levels c.self.inside.in_use.items c.self.inside.records c.self.inside.threads c.args.self.now c.args.c c.index-c.result c.in_ok-level.level c.in_ok-key.key
    c.self.invariant.queues c.self.view_is c.index-c.ensures.same c.requires least.below c.in_ok-key.ensures.same)

left : (c : goal.After-remove-message) → AreSeenQueues c.remove.new.self c.remove-2.new.self (slice_set c.self.inside.in_use.items c.index-c.result c.kept_if.result)
    c.remove-message.new.self c.self.inside.threads
    (with_messages c.args.self.now c.args.c (without_sender c.remove-message.result.sender (messages_at c.args.self.now c.args.c)))
left c =
    subst (λ o. AreSeenQueues c.remove.new.self c.remove-2.new.self (slice_set c.self.inside.in_use.items c.index-c.result c.kept_if.result)
    c.remove-message.new.self c.self.inside.threads (with_messages c.args.self.now c.args.c (without_sender (message_in o).sender (messages_at c.args.self.now c.args.c)))) c.remove-message.ensures.value
    (seen_less c.self.inside.arrivals c.self.inside.levels c.remove.new.self c.remove-2.new.self c.self.inside.in_use.items c.self.inside.records c.remove-message.new.self c.self.inside.threads c.args.self.now
    c.index-set.result.now c.kept_if.result c.args.c c.index-c.result c.in_ok-level.level c.in_ok-key.key c.first-2.result c.is_some-is_left.result
    c.self.invariant c.self.view_is c.index-c.ensures.same c.requires c.index-set.ensures c.in_ok-level.ensures.some c.in_ok-key.ensures.same c.in_ok-key.ensures.apart
    c.remove.ensures c.remove-2.ensures c.first-2.ensures.same c.is_some-is_left.ensures c.kept_if.ensures.at_level c.kept_if.ensures.beside
    c.remove-message.ensures.updates c.remove-message.ensures.capacity)

pub invariant_of-self : goal.invariant_of-self
invariant_of-self c = (left c).are

pub returns-clause-sender : goal.returns-clause-sender
returns-clause-sender c =
    ap (λ o. Some (message_in o).sender) (sym c.remove-message.ensures.value)
    ∙ sym (next_sender c.self.inside.arrivals c.self.inside.levels c.self.inside.in_use.items c.self.inside.records c.self.inside.threads c.args.self.now c.index-set.result.now c.args.c c.index-c.result
    c.in_ok-level.level c.in_ok-key.key c.self.invariant.queues c.self.view_is c.index-c.ensures.same c.requires c.index-set.ensures c.in_ok-level.ensures.some c.in_ok-key.ensures.same)

pub returns-clause-left : goal.returns-clause-left
returns-clause-left c = (left c).same
