use Rattle.std.specs.Prelude.{◌≡◌, length}
use Rattle.aps_model.specs.SchedulerState.{SchedulerState}

-- what no operation, no wake and no pick changes
pub record KeepsFrame (s t : SchedulerState) : Type 0 where
  pub rows : t.rows ≡ s.rows
  pub shape : t.shape ≡ s.shape
  pub threads : length t.threads ≡ length s.threads
  pub cpus : length t.cpus ≡ length s.cpus
  pub replies : t.replies ≡ s.replies
  pub changes : t.changes ≡ s.changes
