use Rattle.aps_model.specs.SchedulerState.{SchedulerState}
use Rattle.aps_core.specs.declared.machine.Machine.TheInside.{Inside}
use Rattle.aps_core.specs.Threads.{threads_of}

-- the scheduler state that the fields stand for
abbrev pub state_of_machine : Inside → SchedulerState
state_of_machine m = record {
  rows = m.tree.rows;
  shape = m.shape;
  threads = threads_of m.tasks.tasks m.inherit.own;
  stamps = m.tasks.stamps;
  channels = m.channels.channels;
  triples = m.channels.triples;
  cpus = m.cpus.items;
  replies = m.replies.items;
  changes = m.changes.items;
}
