-- What the last lines of a summary tell of the bounds: the laws of the audit, at the history of a run.
use Rattle.std.proofs.Common.{ℕ, ◌+◌, ◌-◌, List, length}
use Rattle.aps_model.specs.declared.entry.Entry.{Entry}
use Rattle.aps_model.specs.declared.entry.Order.{Order}
use Rattle.aps_model.specs.Audit.{critical_over_from, over_from, short_from}
use Rattle.aps_model.specs.History.{History, Rooms}
use Rattle.aps_model.specs.Legal.{IsLegal}
use Rattle.aps_model.specs.Loaded.{finished_ticks, loaded_tick}
use Rattle.aps_model.specs.Recorded.{recorded}
use Rattle.aps_model.specs.Scenario.{Scenario}
use Rattle.aps_model.specs.Valid.{IsScenario}
use Rattle.laws_bounds.proofs.Audited.{critical_small, over_small}
use Rattle.laws_bounds.proofs.Worst.{worst_told}
use Rattle.aps_top.specs.PrintedBound.{TellsWorstWindows, HasSmallExcess}

pub worst_windows : (h : History) → TellsWorstWindows h
worst_windows h = record {
  over = worst_told (over_from h) first count (length h.rows);
  short = worst_told (short_from h) first count (length h.rows);
  critical = worst_told (critical_over_from h) first count (length h.rows);
}
  where
    first : ℕ
    first = loaded_tick h.shape h.entries h.changes

    count : ℕ
    count = finished_ticks h.shape h.entries + 1 - (first + h.shape.window)

pub small_excess : (scenario : Scenario) (order : Order) (h : List Entry) (limit : ℕ) (rooms : Rooms) → IsScenario scenario → IsLegal scenario order h
    → HasSmallExcess (recorded scenario limit rooms h)
small_excess scenario order h limit rooms valid legal = record {
  critical = critical_small scenario order h limit rooms valid legal;
  over = over_small scenario order h limit rooms valid legal;
}
