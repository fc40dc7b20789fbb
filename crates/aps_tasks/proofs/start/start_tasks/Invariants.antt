use Rattle.std.proofs.Common.{◌≡◌, ◌≤◌, ◌++◌, drop, length, map}
use Rattle.aps_model.specs.Opening.{start_stamps, start_threads}
use Rattle.aps_tasks.specs.Start.{task_of}
use Rattle.aps_tasks.proofs.start.start_tasks.Given as goal

abbrev pub invariant-loop-row : goal.invariant-loop-row
invariant-loop-row l = record {
  count : length l.tasks.items ≡ l.row-index;
  few : l.next ≤ l.row-index;
  tasks : l.tasks.items ++ map task_of (start_threads l.scenario.shape l.row-index l.next (drop l.row-index l.rows))
      ≡ map task_of (start_threads l.scenario.shape 0 0 l.rows);
  stamps : start_stamps l.next (drop l.row-index l.rows) ≡ start_stamps 0 l.rows;
}
