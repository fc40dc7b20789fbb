use Rattle.std.proofs.Common.{◌≡◌, ℕ, ◌<◌, length}
use Rattle.aps_ready.specs.Lists.{link}
use Rattle.aps_ready.proofs.lists.Lists.new.Given as goal

-- each node is linked to itself
abbrev pub invariant-forth : goal.invariant-forth
invariant-forth l = record { size : length l.after.items ≡ l.node; own : (k : ℕ) → k < l.node → link l.after.items k ≡ k }

abbrev pub invariant-back : goal.invariant-back
invariant-back l = record { size : length l.before.items ≡ l.node; own : (k : ℕ) → k < l.node → link l.before.items k ≡ k }
