use Rattle.std.proofs.Common.{◌≡◌}
use Rattle.view_explain.specs.Chain.{HasKnownThreads, chain_from}
use Rattle.view_explain.proofs.chain.explained.Given as goal

abbrev pub invariant-loop : goal.invariant-loop
invariant-loop l = record {
  same : l.chain ≡ chain_from l.scene l.fn.x l.counter;
  known : HasKnownThreads l.scene l.chain;
}
