use Rattle.std.proofs.Common.{◌≡◌, take}
use Rattle.std.specs.List.{fold}
use Rattle.view_marks.specs.Starved.{without_at_start, starved_with_entry}
use Rattle.view_marks.proofs.starved.all_starved.Given as goal

abbrev pub invariant-loop-e : goal.invariant-loop-e
invariant-loop-e l = l.without ≡ fold starved_with_entry without_at_start (take l.e-index l.entries)
