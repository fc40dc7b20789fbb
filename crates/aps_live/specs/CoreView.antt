use Rattle.std.specs.Prelude.{◌≤◌, vec_capacity}
use Rattle.aps_live.specs.declared.live_core.LiveCore.TheInside.{Inside}
use Rattle.aps_live.specs.Core.{IsCore, pairs}
use Rattle.aps_live.specs.LiveRun.{LiveRun}

-- the run that the fields stand for
abbrev pub run_of : Inside → LiveRun
run_of core = record {
  setup = record { scenario = core.scenario; limit = core.limit };
  steps = pairs core.entries.items core.events.items;
}

-- the parts stand for the run, and there is room for all its steps
abbrev pub keeps : Inside → Type 0
keeps core =
    IsCore (run_of core) core.machine core.window core.ends.items core.latest core.parts.items core.entries.items core.events.items
    × (core.limit ≤ vec_capacity core.entries)
    × (core.limit ≤ vec_capacity core.events)
