use Rattle.std.proofs.Common.{◌≡◌, ◌++◌, take}
use Rattle.view_marks.specs.Alteration.{by_changes}
use Rattle.view_marks.proofs.alteration.add_cancels.Given as goal

abbrev pub invariant-loop-change : goal.invariant-loop-change
invariant-loop-change l = l.alterations.items ≡ l.initial.alterations.items ++ by_changes l.moment (take l.change-index l.changes)
