use Rattle.std.proofs.Common.{◌≡◌, ◌≤◌, ◌-◌, ◌++◌, take, drop, length}
use Rattle.aps_model.specs.Inherit.{without_server}
use Rattle.view_explain.proofs.ties.Ties.remove_triple.Given as goal

abbrev pub invariant-loop-place : goal.invariant-loop-place
invariant-loop-place l = record {
  within : l.place ≤ length l.self-inside.triples.items;
  same : without_server l.self-inside.triples.items l.server ≡ take l.place l.self-inside.triples.items ++ without_server (drop l.place l.self-inside.triples.items) l.server;
}

abbrev pub decreases-loop-place : goal.decreases-loop-place
decreases-loop-place l = length l.self-inside.triples.items - l.place
