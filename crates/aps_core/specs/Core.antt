use Rattle.std.specs.Prelude.{◌≡◌, ◌≤◌, length}
use Rattle.aps_model.specs.History.{History}
use Rattle.aps_model.specs.Legal.{IsLegal}
use Rattle.aps_model.specs.Limits.{most_entries}
use Rattle.aps_model.specs.SchedulerState.{SchedulerState}
use Rattle.aps_model.specs.Valid.{IsScenario}
use Rattle.laws_runs.specs.Runs.{EndsNoSooner}
use Rattle.aps_core.specs.declared.scheduler.Scheduler.{Scheduler}
use Rattle.aps_core.specs.Run.{Run, Setup, history_of_run, state_of_run}
use Rattle.aps_core.specs.Scheduler.{IsSchedulerAfter}

-- what a core can be set up with
pub record IsSetup (setup : Setup) : Type 0 where
  pub valid : IsScenario setup.scenario
  pub some : 1 ≤ setup.limit
  pub few : setup.limit ≤ most_entries

-- what each run under way keeps
pub record IsUnderWay (run : Run) : Type 0 where
  pub setup : IsSetup run.setup
  pub legal : IsLegal run.setup.scenario run.setup.order run.entries
  pub no_sooner : EndsNoSooner run.setup.scenario run.setup.limit run.entries
  pub fits : length run.entries ≤ run.setup.limit

-- what the run and the parts that stand for it have to do with each other
pub record StandsForRun (run : Run) (kept : History) (state : SchedulerState) : Type 0 where
  pub keeps : IsUnderWay run
  pub recorded : kept ≡ history_of_run run
  pub machine : state ≡ state_of_run run

-- what each core keeps: its parts stand for its run, and its scheduler stands after the entries
pub record IsCoreWith (run : Run) (kept : History) (s : Scheduler) : Type 0 where
  pub core : StandsForRun run kept s.machine
  pub after : IsSchedulerAfter run.setup.scenario run.entries s
