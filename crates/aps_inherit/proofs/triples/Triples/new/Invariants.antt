use Rattle.std.proofs.Common.{◌≡◌, None, replicate}
use Rattle.aps_inherit.proofs.triples.Triples.new.Given as goal

abbrev pub invariant-loop : goal.invariant-loop
invariant-loop l = record {
  by_server : l.by_server.items ≡ replicate l.counter None;
  by_client : l.by_client.items ≡ replicate l.counter None;
}
