use Rattle.std.proofs.Common.{◌≡◌, take}
use Rattle.aps_model.proofs.scenario.copy_threads.Given as goal

-- the copies so far are the first threads
abbrev pub invariant-loop-thread : goal.invariant-loop-thread
invariant-loop-thread l = l.copies.items ≡ take l.thread-index l.threads
