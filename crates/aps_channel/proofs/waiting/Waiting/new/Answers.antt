use Rattle.std.proofs.Common.{ℕ, [], replicate, ap, ◌∙◌}
use Rattle.aps_channel.specs.Waiting.{Waiting}
use Rattle.aps_channel.proofs.Seen.{AreSeenQueues, seen_at_opening}
use Rattle.aps_channel.proofs.waiting.Waiting.new.Goals as goal

made : (c : goal.In_ok-in_use) → AreSeenQueues c.in_ok-arrivals.arrivals c.in_ok-levels.levels c.in_ok-in_use.in_use.items c.in_ok-records.records c.min-threads.result
    (record { messages = replicate c.args.channels []; threads = c.min-threads.result })
made c =
    seen_at_opening c.in_ok-arrivals.arrivals c.in_ok-levels.levels c.in_ok-in_use.in_use.items c.in_ok-records.records c.none.result
    c.args.channels c.min-threads.result c.in_ok-keys.keys
    c.in_ok-arrivals.ensures c.in_ok-levels.ensures
    (c.in_ok-in_use.ensures.items_if_clones_equal (λ y h. h)) c.in_ok-records.ensures.empty c.in_ok-records.ensures.capacity (c.in_ok-keys.ensures.same ∙ c.capacity.ensures.value)
    c.in_ok-keys.ensures.few c.none.ensures

pub invariant_of-result : goal.invariant_of-result
invariant_of-result c = (made c).are

pub returns : goal.returns
returns c = (made c).same ∙ ap (λ (n : ℕ). let w : Waiting = record { messages = replicate c.args.channels []; threads = n } in w) c.min-threads.ensures
