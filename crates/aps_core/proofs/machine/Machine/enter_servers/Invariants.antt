use Rattle.std.proofs.Common.{◌≡◌, ◌≢◌, ◌⊎◌, ℕ, None, true, length}
use Rattle.aps_inherit.specs.Order.{IsThere, has, rest_of}
use Rattle.aps_inherit.specs.Serving.{AreChains, servers}
use Rattle.aps_model.specs.Inherit.{client_of}
use Rattle.aps_core.specs.Seats.{IsRight, IsSeated}
use Rattle.aps_core.proofs.machine.Machine.enter_servers.Given as goal

abbrev pub invariant-loop-next : goal.invariant-loop-next
invariant-loop-next l = record {
  chains : AreChains l.self.triples;
  there : IsThere (servers l.self.triples) l.next;
  own : (x : ℕ) → client_of l.self.triples x ≢ None → (has (rest_of (servers l.self.triples) l.next) x ≡ true) ⊎ IsRight l.self l.ready x;
  seated : (y : ℕ) → IsSeated l.self l.ready y;
  right : (y : ℕ) → IsRight l.self l.initial.ready y → IsRight l.self l.ready y;
  count : length l.ready ≡ length l.initial.ready;
}

abbrev pub decreases-loop-next : goal.decreases-loop-next
decreases-loop-next l = length (rest_of (servers l.self.triples) l.next)
