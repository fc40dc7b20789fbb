use Rattle.std.proofs.Common.{◌≡◌, drop}
use Rattle.view_explain.specs.Ties.{newest_server}
use Rattle.view_explain.proofs.ties.Ties.newest_server.Given as goal

abbrev pub invariant-loop-i : goal.invariant-loop-i
invariant-loop-i l = newest_server l.self-inside.triples.items l.c ≡ newest_server (drop l.i l.self-inside.triples.items) l.c
