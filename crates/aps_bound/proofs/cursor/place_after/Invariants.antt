use Rattle.std.proofs.Common.{◌-◌, ◌<◌, ◌≤◌, length, take, All, get_or}
use Rattle.aps_model.specs.declared.entry.Entry.{Entry}
use Rattle.aps_bound.proofs.cursor.place_after.Given as goal

-- the place is none before the one and none after the other
abbrev pub invariant-loop-low : goal.invariant-loop-low
invariant-loop-low l = record {
  order : l.low ≤ l.high;
  within : l.high ≤ length l.entries;
  past : All (λ (e : Entry). e.to ≤ l.moment) (take l.low l.entries);
  next : (d : Entry) → l.high < length l.entries → l.moment < (get_or l.entries l.high d).to;
}

abbrev pub decreases-loop-low : goal.decreases-loop-low
decreases-loop-low l = l.high - l.low
