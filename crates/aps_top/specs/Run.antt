-- The history of a run.
use Rattle.std.specs.Prelude.{◌≡◌, ℕ, Some}
use Rattle.aps_model.specs.declared.entry.End.{End}
use Rattle.aps_model.specs.declared.entry.Order.{Order}
use Rattle.aps_model.specs.declared.entry.Order.TheVariants.{Fixed}
use Rattle.aps_model.specs.History.{History}
use Rattle.aps_model.specs.Legal.{IsLegal, fixed_run}
use Rattle.aps_model.specs.Recorded.{recorded}
use Rattle.aps_model.specs.Tiled.{IsTiled, IsBilledAsInherited}
use Rattle.aps_model.specs.Bound.{KeepsWindowBound, KeepsCriticalBound}
use Rattle.laws_runs.specs.Choices.{EachPickIsGreatest}
use Rattle.laws_runs.specs.Runs.{EndsNoSooner}
use Rattle.laws_bounds.specs.Excess.{KeepsExcess}
use Rattle.laws_load.specs.OwnShare.{KeepsOwnShare}
use Rattle.laws_load.specs.Passing.{NeverPassesOver}
use Rattle.aps_top.specs.PrintedBound.{TellsWorstWindows, HasSmallExcess}

-- the history of a run of its scenario in this order, which ended so, or else by this many entries
pub record IsRun (order : Order) (limit : ℕ) (end : End) (h : History) : Type 0 where
  -- in fixed order there is one such run
  pub fixed : order ≡ Fixed → h.entries ≡ fixed_run h.scenario limit
  -- its replies, changes, rows, shape and end are those that its entries leave
  pub kept : h ≡ recorded h.scenario limit h.room h.entries
  pub ended : h.end ≡ Some end
  pub no_sooner : EndsNoSooner h.scenario limit h.entries
  -- each entry is the step of a processor that had the turn
  pub legal : IsLegal h.scenario order h.entries
  -- each nanosecond of a processor lies in one entry, and is billed to the partition that its thread inherited
  pub tiled : IsTiled h.scenario.shape.tick h.entries
  pub billed : IsBilledAsInherited h.scenario h.entries
  -- each pick is of the greatest candidate
  pub picks : EachPickIsGreatest h.scenario h.entries
  -- while each budgeted partition has candidates, a window's usage keeps to the budget, but for one tick of each
  -- processor and critical time; and critical time to the critical budget, but for one tick of each processor
  pub bound : KeepsWindowBound h.scenario h.entries
  pub critical_bound : KeepsCriticalBound h.scenario h.entries
  -- what the summary prints of them are the greatest amounts, each with its window and partition, and those that the bounds
  -- allow where no change stands at the end
  pub worst : TellsWorstWindows h
  pub small : HasSmallExcess h
  -- whoever has work: in ticks without a change, at most as many as a window has, a partition goes beyond its budget only
  -- by free time, critical time and less than one tick of each processor, and falls short only by what the others so took
  -- and by idle time
  pub excess : KeepsExcess h.scenario h.entries
  -- a partition that has work whenever it is in budget gets its own share
  pub own_share : KeepsOwnShare h.scenario h.entries
  -- whenever time passes no processor is idle beside a candidate, and none runs a thread below one
  pub moments : NeverPassesOver h.scenario h.entries
