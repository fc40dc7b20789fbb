use Rattle.std.proofs.Common.{◌≡◌, ℕ, [], ap, ◌∙◌, subst, sym}
use Rattle.aps_channel.specs.Serving.{Serving}
use Rattle.aps_channel.proofs.Served.{AreServed, served_at_opening}
use Rattle.aps_channel.proofs.serving.Serving.new.Goals as goal

made : (c : goal.In_ok-held) → AreServed c.in_ok-servers.servers c.in_ok-held.held.items (record { triples = []; threads = c.min-threads.result })
made c = served_at_opening c.in_ok-servers.servers c.in_ok-held.held.items c.min-threads.result c.in_ok-servers.ensures c.in_ok-held.ensures

pub invariant_of-result : goal.invariant_of-result
invariant_of-result c = (made c).are

pub returns : goal.returns
returns c = (made c).same ∙ ap (λ (n : ℕ). let s : Serving = record { triples = []; threads = n } in s) c.min-threads.ensures
