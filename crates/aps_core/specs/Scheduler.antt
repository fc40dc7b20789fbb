-- What stands in a scheduler from step to step.
use Rattle.std.specs.Prelude.{◌≡◌, ℕ, ◌/◌, ◌≤◌, List, length}
use Rattle.aps_model.specs.declared.entry.Entry.{Entry}
use Rattle.aps_model.specs.Limits.{last_moment, most_commands, most_ticks}
use Rattle.aps_model.specs.Scenario.{Scenario}
use Rattle.aps_model.specs.TickWork.{tick_work}
use Rattle.aps_model.specs.Valid.{IsScenario}
use Rattle.laws_runs.specs.Moments.{moment}
use Rattle.aps_core.specs.declared.scheduler.Scheduler.{Scheduler}
use Rattle.aps_core.specs.Counts.{Counts, parts_in}
use Rattle.aps_core.specs.LastEnds.{AreEnds}
use Rattle.aps_core.specs.NextDues.{AreDues, AreSpare}
use Rattle.aps_core.specs.Pending.{IsPending}
use Rattle.aps_core.specs.Posts.{ArePosts}
use Rattle.aps_core.specs.Rising.{IsRising}
use Rattle.aps_core.specs.Room.{HasRoomToWake, changes_of_a_run, last_place, stamps_before}
use Rattle.aps_core.specs.Seats.{seats_of}
use Rattle.aps_core.specs.Sleepers.{sleepers_of}

-- what stands beside the machine goes by its state and these entries: the commands are still to come whose ticks no entry has
-- begun, in the queues are the ready threads and in the timer the sleeping ones, what each processor runs is kept, the ends and
-- the dues that it keeps are those of the entries, its window has counted these up to the tick of the last one's end, and its
-- partitions stand by their rows and that window
pub record IsSchedulerAfter (scenario : Scenario) (h : List Entry) (s : Scheduler) : Type 0 where
  pub pending : IsPending scenario s.machine.shape.tick h s.ctl
  pub seats : s.ready ≡ seats_of s.machine
  pub timed : s.timer ≡ sleepers_of s.machine
  pub lasts : AreEnds h s.ends
  pub counts : Counts s.machine.shape h (moment h / s.machine.shape.tick) s.window
  pub nexts : AreDues s.machine h s.dues
  pub spare : AreSpare s.machine s.dues
  pub posted : ArePosts s.machine s.posts
  pub stands : s.standing ≡ parts_in s.machine.shape s.machine.rows s.window

-- what the work of this tick rests on, at this moment, which lies in it: the commands to come, the window and the timer go by the
-- entries before, and what the commands and the wakes add has room
pub record CanBeginTick (scenario : Scenario) (h : List Entry) (now tick : ℕ) (s : Scheduler) : Type 0 where
  pub at_hand : tick ≡ now / s.machine.shape.tick
  pub few : tick ≤ most_ticks
  pub valid : IsScenario scenario
  pub pending : IsPending scenario s.machine.shape.tick h s.ctl
  pub rising : IsRising h
  pub counts : Counts s.machine.shape h (now / s.machine.shape.tick) s.window
  pub early : now ≤ last_moment
  pub room : HasRoomToWake last_place stamps_before s.machine
  pub timed : s.timer ≡ sleepers_of s.machine
  pub replies : length (tick_work scenario s.machine h now).replies ≤ most_commands
  pub changes : length (tick_work scenario s.machine h now).changes ≤ changes_of_a_run

-- the work of a tick changes the machine, the window, the timer, those who woke and the commands to come, and nothing else
abbrev pub IsTickOf : Scheduler → Scheduler → Type 0
IsTickOf s t = t ≡ record s { machine = t.machine; window = t.window; timer = t.timer; woken = t.woken; ctl = t.ctl }
