-- What every list of calls keeps.
use Rattle.std.specs.Prelude.{◌≡◌, ℕ, ◌+◌, ◌<◌, ◌≤◌, ◌^◌, ◌⊎◌, List, length, All, slice_index_or, Option, None, ⊤}
use Rattle.aps_model.specs.Limits.{last_moment, most_operations}
use Rattle.aps_model.specs.declared.program.Op.{Op}
use Rattle.aps_model.specs.declared.program.Op.TheVariants.{Forever, Sleep}
use Rattle.aps_model.specs.Shape.{IsShape}
use Rattle.aps_tasks.specs.declared.plan.Plan.{Plan}
use Rattle.aps_tasks.specs.declared.task.Task.{Task}
use Rattle.aps_tasks.specs.Tasks.{Tasks, no_task, op_of, task_at}

-- if the operation is a sleep, its moment fits
abbrev pub IsShort : Op → Type 0
IsShort (Sleep ns) = ns ≤ last_moment
IsShort op = ⊤

pub record IsPlan (plan : Plan) : Type 0 where
  pub few : length plan.program ≤ most_operations
  pub short : All IsShort plan.program

-- nothing is told of what is left exactly where the operation never ends
pub record IsLeft (op : Op) (left : Option ℕ) : Type 0 where
  pub forever : left ≡ None → op ≡ Forever
  pub none : op ≡ Forever → left ≡ None

-- stamps differ; each was given, or is that of a thread which has slept from the start
pub record AreStamped (tasks : List Task) (stamps : ℕ) : Type 0 where
  pub few : stamps ≤ 2 ^ 63
  pub given : (x : ℕ) → x < length tasks
      → ((slice_index_or tasks x no_task).stamp < stamps) ⊎ ((slice_index_or tasks x no_task).stamp ≡ 2 ^ 63 + x)
  pub distinct : (x y : ℕ) → x < length tasks → y < length tasks
      → (slice_index_or tasks x no_task).stamp ≡ (slice_index_or tasks y no_task).stamp → x ≡ y

pub record IsTasks (t : Tasks) : Type 0 where
  pub shape : IsShape t.shape
  pub each : length t.tasks ≡ length t.plans
  pub plans : All IsPlan t.plans
  pub left : (x : ℕ) → x < length t.tasks → IsLeft (op_of t x) (task_at t x).left
  pub stamps : AreStamped t.tasks t.stamps
