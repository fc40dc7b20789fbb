use Rattle.std.specs.Prelude.{◌≡◌, ℕ, ◌≤◌, length}
use Rattle.aps_model.specs.Inherit.{Inheritance, inheritance_of}
use Rattle.aps_model.specs.Limits.{most_commands, most_threads}
use Rattle.aps_model.specs.SchedulerState.{SchedulerState}
use Rattle.aps_model.specs.Shape.{IsShape}
use Rattle.aps_core.specs.Room.{changes_of_a_run}

-- what each machine keeps: its numbers have their ranges, its channels are those of its threads, the values that it keeps
-- beside each thread go by its state, its tree counts in the parts of the shape, and there is room for all replies and
-- changes of a run
pub record IsCoreMachine (s : SchedulerState) (channel_threads : ℕ) (inherit : Inheritance)
    (tree_parts reply_space change_space : ℕ) : Type 0 where
  pub shape : IsShape s.shape
  pub few_threads : length s.threads ≤ most_threads
  pub cpus : length s.cpus ≡ s.shape.cpus
  pub waiters : channel_threads ≡ length s.threads
  pub inherits : inherit ≡ inheritance_of s
  pub parts : tree_parts ≡ s.shape.parts
  pub reply_room : most_commands ≤ reply_space
  pub change_room : changes_of_a_run ≤ change_space
