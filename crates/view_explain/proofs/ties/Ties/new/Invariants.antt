use Rattle.std.proofs.Common.{◌≡◌, [], replicate}
use Rattle.view_explain.proofs.ties.Ties.new.Given as goal

abbrev pub invariant-loop : goal.invariant-loop
invariant-loop l = l.queues.items ≡ replicate l.counter []
