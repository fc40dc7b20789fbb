use Rattle.std.proofs.Common.{◌≡◌, ℕ, ◌<◌, ◌≤◌, get_or, true}
use Rattle.aps_core.specs.Run.{state_of_run}
use Rattle.view_lives.specs.Doing.{doing_of}
use Rattle.view_lives.specs.Growing.{keeps_on, nothing_aside}
use Rattle.view_lives.proofs.growing.next_other.Given as goal

abbrev pub invariant-loop-x : goal.invariant-loop-x
invariant-loop-x l = (k : ℕ) → l.start ≤ k → k < l.x → keeps_on l.until l.from (get_or l.aside.items k nothing_aside) (doing_of (state_of_run l.core) k) ≡ true
