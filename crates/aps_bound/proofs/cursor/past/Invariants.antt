use Rattle.std.proofs.Common.{◌-◌, ◌≤◌, length, take, All}
use Rattle.aps_model.specs.declared.entry.Entry.{Entry}
use Rattle.aps_bound.proofs.cursor.past.Given as goal

abbrev pub invariant-loop-next : goal.invariant-loop-next
invariant-loop-next l = record {
  further : l.from ≤ l.next;
  within : l.next ≤ length l.entries;
  past : All (λ (e : Entry). e.to ≤ l.moment) (take l.next l.entries);
}

abbrev pub decreases-loop-next : goal.decreases-loop-next
decreases-loop-next l = length l.entries - l.next
