-- The threads at the start of a scenario are as the type keeps them.
use Rattle.std.proofs.Common.{◌≡◌, ℕ, zero, suc, ◌+◌, ◌<◌, List, [], ◌∷◌, length, map, get_or, refl, sym, ◌∙◌, ap, subst, arith}
use Rattle.std.proofs.lemmas.List.{length-map}
use Rattle.std.proofs.Math.ListN.{get_or-map}
use Rattle.aps_model.specs.declared.program.Op.{Op}
use Rattle.aps_model.specs.declared.program.Op.TheVariants.{Exit}
use Rattle.aps_model.specs.declared.scenario.ThreadRow.{ThreadRow}
use Rattle.aps_model.specs.declared.shape.Shape.{Shape}
use Rattle.aps_model.specs.Opening.{first_op, first_state, stamp_after, start_threads}
use Rattle.aps_model.specs.Operation.{duration}
use Rattle.aps_model.specs.Scenario.{Scenario, no_thread_row}
use Rattle.aps_model.specs.Valid.{IsScenario}
use Rattle.aps_tasks.specs.declared.plan.Plan.{Plan}
use Rattle.aps_tasks.specs.declared.task.Task.{Task}
use Rattle.aps_tasks.specs.Kept.{IsLeft, IsTasks}
use Rattle.aps_tasks.specs.Start.{plan_of, start_table, start_tasks, task_of}
use Rattle.aps_tasks.specs.Table.{Table}
use Rattle.aps_tasks.specs.Tasks.{Tasks, no_task, planned_op, op_of, task_at}
use Rattle.aps_tasks.proofs.Lasting.{duration_left}
use Rattle.aps_tasks.proofs.Short.{plans_short}
use Rattle.aps_tasks.proofs.Stamps.{stamps_at_start}

started_length : (shape : Shape) (number next : ℕ) (rows : List ThreadRow) → length (map task_of (start_threads shape number next rows)) ≡ length rows
started_length shape number next [] = refl
started_length shape number next (row ∷ rows) = ap suc (started_length shape (number + 1) (stamp_after (first_state row) next) rows)

-- a thread begins at the first place, with all of its operation left
record IsFirst (shape : Shape) (row : ThreadRow) (task : Task) : Type 0 where
  place : task.place ≡ 0
  left : task.left ≡ duration shape (first_op row)

each_first : (shape : Shape) (number next : ℕ) (rows : List ThreadRow) (x : ℕ) → x < length rows
    → IsFirst shape (get_or rows x no_thread_row) (get_or (map task_of (start_threads shape number next rows)) x no_task)
each_first shape number next [] x within = absurd (omega (arith, within))
each_first shape number next (row ∷ rows) zero within = record { place = refl; left = refl }
each_first shape number next (row ∷ rows) (suc x) within =
    each_first shape (number + 1) (stamp_after (first_state row) next) rows x (omega (arith, within))

left_at_start : (s : Scenario) (x : ℕ) → x < length s.threads → IsLeft (op_of (start_tasks s) x) (task_at (start_tasks s) x).left
left_at_start s x within =
    let first = each_first s.shape 0 0 s.threads x within in
    let row = get_or s.threads x no_thread_row in
    let op : first_op row ≡ op_of (start_tasks s) x =
    ap (λ (p : List Op). get_or p 0 Exit) (sym (ap (λ p. p.program) (get_or-map plan_of s.threads x no_thread_row)))
    ∙ ap (planned_op (start_tasks s) x) (sym first.place) in
    subst (λ (o : Op). IsLeft o (task_at (start_tasks s) x).left) op
    (subst (IsLeft (first_op row)) (sym first.left) (duration_left s.shape (first_op row)))

pub kept_at_start : (s : Scenario) → IsScenario s → IsTasks (start_tasks s)
kept_at_start s valid =
    let all = started_length s.shape 0 0 s.threads in
    record {
      shape = valid.shape;
      each = all ∙ sym (length-map s.threads plan_of);
      plans = plans_short s valid;
      left = λ x within. left_at_start s x (omega (arith, within, all));
      stamps = stamps_at_start s.shape s.threads valid.few_threads;
    }

-- the same of what the code makes of the parts of a scenario
pub kept_by_parts : (s : Scenario) (shape : Shape) (plans : List Plan) (table : Table) → IsScenario s
    → shape ≡ s.shape → plans ≡ map plan_of s.threads → table ≡ start_table s
    → let t : Tasks = record { shape = shape; plans = plans; tasks = table.tasks; stamps = table.stamps } in IsTasks t
kept_by_parts s shape plans table valid e1 e2 e3 = rw (e1, e2, e3) (kept_at_start s valid)
