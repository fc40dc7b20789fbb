-- What stands between two live steps, beside the entries.
use Rattle.std.specs.Prelude.{ℕ, ◌+◌, ◌^◌, List, length, map, replicate, slice_index_or, slice_set, Option, None}
use Rattle.std.specs.List.{range_with_len}
use Rattle.aps_model.specs.declared.scenario.ThreadRow.{ThreadRow}
use Rattle.aps_model.specs.declared.state.Facts.{Facts}
use Rattle.aps_model.specs.declared.state.Pick.{Pick}
use Rattle.aps_model.specs.Scenario.{Scenario, thread_row}
use Rattle.aps_model.specs.SchedulerState.{no_facts}
use Rattle.aps_live.specs.declared.thread.LiveThread.{LiveThread}
use Rattle.aps_live.specs.declared.thread.Doing.{Doing}
use Rattle.aps_live.specs.declared.thread.Doing.TheVariants.{Waiting}

-- each thread, the next stamp, and who runs on each processor, with the partition and the mark that the pick fixed
pub record LiveState : Type 0 where
  pub threads : List LiveThread
  pub stamps : ℕ
  pub cpus : List (Option Pick)

-- what is read where there is no such thread
abbrev pub no_live_thread : LiveThread
no_live_thread = record { contender = record { thread = 0; facts = no_facts; stamp = 0 }; doing = Waiting }

abbrev pub live_thread_at : LiveState → ℕ → LiveThread
live_thread_at s x = slice_index_or s.threads x no_live_thread

abbrev pub live_cpu_at : LiveState → ℕ → Option Pick
live_cpu_at s c = slice_index_or s.cpus c None

abbrev pub with_live_thread : LiveState → ℕ → LiveThread → LiveState
with_live_thread s x thread = record s { threads = slice_set s.threads x thread }

abbrev pub with_doing : LiveState → ℕ → Doing → LiveState
with_doing s x doing = with_live_thread s x (record (live_thread_at s x) { doing = doing })

abbrev pub with_live_cpu : LiveState → ℕ → Option Pick → LiveState
with_live_cpu s c running = record s { cpus = slice_set s.cpus c running }

-- the values of a thread are always its own ones
abbrev pub own_facts : ThreadRow → Facts
own_facts row = record { partition = row.partition; priority = row.priority; critical = row.critical }

-- a thread at the start: it waits, with a stamp behind all that are given
abbrev pub live_start : Scenario → ℕ → LiveThread
live_start scenario x = record {
  contender = record { thread = x; facts = own_facts (thread_row scenario x); stamp = 2 ^ 63 + x };
  doing = Waiting;
}

abbrev pub live_opening : Scenario → LiveState
live_opening scenario = record {
  threads = map (live_start scenario) (range_with_len 0 (length scenario.threads));
  stamps = 0;
  cpus = replicate scenario.shape.cpus None;
}
