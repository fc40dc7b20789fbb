use Rattle.std.proofs.Common.{◌≡◌, ◌≤◌, nat_eq, take, length}
use Rattle.std.specs.List.{list_any}
use Rattle.aps_model.specs.declared.entry.Entry.{Entry}
use Rattle.aps_core.proofs.due.is_met.Given as goal

abbrev pub invariant-loop-left : goal.invariant-loop-left
invariant-loop-left l = record {
  within : l.left ≤ length l.entries;
  same : list_any (λ (e : Entry). nat_eq e.to l.moment) l.entries ≡ list_any (λ (e : Entry). nat_eq e.to l.moment) (take l.left l.entries);
}

abbrev pub decreases-loop-left : goal.decreases-loop-left
decreases-loop-left l = l.left
