use Rattle.std.proofs.Common.{◌≡◌, ◌*◌}
use Rattle.aps_timer.specs.Sleepers.{due_below}
use Rattle.aps_timer.proofs.asleep.Asleep.gather.Given as goal

abbrev pub invariant-loop-word : goal.invariant-loop-word
invariant-loop-word l = l.due ≡ due_below l.self l.now (64 * l.word)
