use Rattle.std.proofs.Common.{◌++◌, ◌∷◌, [], ◌≤◌, slice_set, arith}
use Rattle.aps_model.specs.Limits.{greatest_priority}
use Rattle.aps_channel.specs.Waiting.{messages_at, with_messages}
use Rattle.aps_channel.proofs.Queues.{free_of_levels}
use Rattle.aps_channel.proofs.Records.{free_key, room_for}
use Rattle.aps_channel.proofs.Seen.{AreSeenQueues, seen_more, thread_below, unsent_seen}
use Rattle.aps_channel.proofs.waiting.Waiting.push.Goals as goal

pub insert_reserved-key-requires : goal.insert_reserved-key-requires
insert_reserved-key-requires c =
    room_for c.self.inside.arrivals c.self.inside.records c.self.inside.threads c.args.sender c.self.invariant.records
    (thread_below c.self.inside.arrivals c.self.inside.records c.self.inside.threads c.args.self.now c.args.sender c.self.view_is c.requires.thread)
    (unsent_seen c.self.inside.arrivals c.self.inside.records c.self.inside.threads c.args.self.now c.args.sender c.self.invariant.records c.self.view_is c.requires.free)

pub push_back-requires-clause-free : goal.push_back-requires-clause-free
push_back-requires-clause-free c =
    free_key c.self.inside.arrivals c.self.inside.records c.self.inside.threads c.insert_reserved-key.result c.self.invariant.records c.insert_reserved-key.ensures.was_vacant

pub push_back-requires-2-clause-free : goal.push_back-requires-2-clause-free
push_back-requires-2-clause-free c =
    free_of_levels c.self.inside.arrivals c.self.inside.levels c.self.inside.in_use.items c.self.inside.records c.insert_reserved-key.result c.self.invariant.queues
    (free_key c.self.inside.arrivals c.self.inside.records c.self.inside.threads c.insert_reserved-key.result c.self.invariant.records c.insert_reserved-key.ensures.was_vacant)

left : (c : goal.After-self-1) → AreSeenQueues c.push_back.new.self c.push_back-2.new.self (slice_set c.self.inside.in_use.items c.index-c.result c.with.result)
    c.insert_reserved-key.new.self c.self.inside.threads
    (with_messages c.args.self.now c.args.c (messages_at c.args.self.now c.args.c ++ (record { sender = c.args.sender; priority = c.args.priority }) ∷ []))
left c =
    let fits : c.args.priority ≤ greatest_priority = omega (arith, c.ranges.priority.fits) in
    seen_more c.self.inside.arrivals c.self.inside.levels c.push_back.new.self c.push_back-2.new.self c.self.inside.in_use.items c.self.inside.records c.insert_reserved-key.new.self
    c.index-set.result.now c.with.result c.args.c c.index-c.result c.insert_reserved-key.result c.self.inside.threads (record { sender = c.args.sender; priority = c.args.priority }) c.args.self.now
    c.self.invariant c.self.view_is c.index-c.ensures.same c.requires.channel c.requires.thread fits c.requires.free
    c.insert_reserved-key.ensures.was_vacant c.insert_reserved-key.ensures.updates c.insert_reserved-key.ensures.capacity
    c.index-set.ensures c.with.ensures c.push_back.ensures c.push_back-2.ensures

pub invariant_of-self : goal.invariant_of-self
invariant_of-self c = (left c).are

pub returns : goal.returns
returns c = (left c).same
