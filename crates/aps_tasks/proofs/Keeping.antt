-- Tasks stay as they are kept where the table beside the plans has another task for a thread: by each call of the table.
use Rattle.std.proofs.Common.{◌≡◌, ◌⊎◌, inl, inr, ℕ, ◌+◌, ◌<◌, ◌^◌, List, length, set, get_or, refl, sym, ◌∙◌, ap, subst, Bool, true, false, cond, Option, Some, None, arith, length-set, get_or-set_same, get_or-set_other}
use Rattle.std.proofs.lemmas.Bool.{cases_eq}
use Rattle.aps_model.specs.declared.scenario.Policy.{Policy}
use Rattle.aps_model.specs.declared.state.State.{State}
use Rattle.aps_model.specs.declared.state.State.TheVariants.{Ready, Running, Sleeping, Sending, Receiving, Replying, Gone}
use Rattle.aps_model.specs.Operation.{is_slice_over}
use Rattle.aps_tasks.specs.declared.task.Task.{Task}
use Rattle.aps_tasks.specs.Calls.{left_after}
use Rattle.aps_tasks.specs.Kept.{AreStamped, IsLeft, IsTasks}
use Rattle.aps_tasks.specs.Table.{Table, put_back, put_given, put_state}
use Rattle.aps_tasks.specs.Tasks.{Tasks, no_task, planned_op, task_at}

-- the tasks of this table beside the same plans
abbrev pub with_table : Tasks → Table → Tasks
with_table t u = record t { tasks = u.tasks; stamps = u.stamps }

abbrev pub table_of : Tasks → Table
table_of t = record { tasks = t.tasks; stamps = t.stamps }

-- ---- one task is another

-- what holds of the new one at its place, and of each other one, holds of each
each_set : (P : ℕ → Task → Type 0) (tasks : List Task) (x : ℕ) (task : Task) → (x < length tasks → P x task)
    → ((y : ℕ) → y < length tasks → P y (get_or tasks y no_task)) → (y : ℕ) → y < length (set tasks x task) → P y (get_or (set tasks x task) y no_task)
each_set P tasks x task here there y within =
    let inside : y < length tasks = omega (arith, within, length-set tasks x task) in
    elim (cases_eq y x) [
      | inl same ↦
          let at : x < length tasks = omega (arith, inside, same) in
          subst (λ z. P z (get_or (set tasks x task) z no_task)) (sym same) (subst (P x) (sym (get_or-set_same tasks x task no_task at)) (here at))
      | inr other ↦ subst (P y) (sym (get_or-set_other tasks x y task no_task other)) (there y inside)
    ]

left_set : (t : Tasks) (x : ℕ) (task : Task) → IsTasks t → (x < length t.tasks → IsLeft (planned_op t x task.place) task.left)
    → (y : ℕ) → y < length (set t.tasks x task) → IsLeft (planned_op t y (get_or (set t.tasks x task) y no_task).place) (get_or (set t.tasks x task) y no_task).left
left_set t x task keeps here = each_set (λ y u. IsLeft (planned_op t y u.place) u.left) t.tasks x task here keeps.left

-- the same stamps as before
stamps_same : (tasks : List Task) (x : ℕ) (task : Task) (stamps : ℕ) → AreStamped tasks stamps → task.stamp ≡ (get_or tasks x no_task).stamp → AreStamped (set tasks x task) stamps
stamps_same tasks x task stamps are same = record {
  few = are.few;
  given = each_set (λ y u. (u.stamp < stamps) ⊎ (u.stamp ≡ 2 ^ 63 + y)) tasks x task (λ at. subst (λ n. (n < stamps) ⊎ (n ≡ 2 ^ 63 + x)) (sym same) (are.given x at)) are.given;
  distinct = λ y z below within e.
      are.distinct y z (omega (arith, below, length-set tasks x task)) (omega (arith, within, length-set tasks x task)) (sym (kept y below) ∙ e ∙ kept z within);
}
  where
    kept : (y : ℕ) → y < length (set tasks x task) → (get_or (set tasks x task) y no_task).stamp ≡ (get_or tasks y no_task).stamp
    kept = each_set (λ y u. u.stamp ≡ (get_or tasks y no_task).stamp) tasks x task (λ at. same) (λ y within. refl)

-- one more stamp is given
stamps_more : (tasks : List Task) (x : ℕ) (task : Task) (stamps : ℕ) → AreStamped tasks stamps → stamps < 2 ^ 63 → task.stamp ≡ stamps → AreStamped (set tasks x task) (stamps + 1)
stamps_more tasks x task stamps are few is = record {
  few = omega (arith, few);
  given = each_set (λ y u. (u.stamp < stamps + 1) ⊎ (u.stamp ≡ 2 ^ 63 + y)) tasks x task (λ at. inl (omega (arith, is))) (λ y within. later y (are.given y within));
  distinct = distinct;
}
  where
    later : (y : ℕ) → ((get_or tasks y no_task).stamp < stamps) ⊎ ((get_or tasks y no_task).stamp ≡ 2 ^ 63 + y)
        → ((get_or tasks y no_task).stamp < stamps + 1) ⊎ ((get_or tasks y no_task).stamp ≡ 2 ^ 63 + y)
    later y (inl given) = inl (omega (arith, given))
    later y (inr sleeps) = inr sleeps

    -- no other thread has that stamp
    fresh : (y : ℕ) → ((get_or tasks y no_task).stamp < stamps) ⊎ ((get_or tasks y no_task).stamp ≡ 2 ^ 63 + y) → (get_or tasks y no_task).stamp ≡ stamps → ⊥
    fresh y (inl given) e = omega (arith, given, e)
    fresh y (inr sleeps) e = omega (arith, sleeps, e, few)

    at_own : (y : ℕ) → y ≡ x → y < length (set tasks x task) → (get_or (set tasks x task) y no_task).stamp ≡ stamps
    at_own y same within =
        ap (λ z. (get_or (set tasks x task) z no_task).stamp) same
        ∙ ap (λ (u : Task). u.stamp) (get_or-set_same tasks x task no_task (omega (arith, within, length-set tasks x task, same))) ∙ is

    at_other : (y : ℕ) → (y ≡ x → ⊥) → (get_or (set tasks x task) y no_task).stamp ≡ (get_or tasks y no_task).stamp
    at_other y other = ap (λ (u : Task). u.stamp) (get_or-set_other tasks x y task no_task other)

    inside : (y : ℕ) → y < length (set tasks x task) → y < length tasks
    inside y within = omega (arith, within, length-set tasks x task)

    distinct : (y z : ℕ) → y < length (set tasks x task) → z < length (set tasks x task)
        → (get_or (set tasks x task) y no_task).stamp ≡ (get_or (set tasks x task) z no_task).stamp → y ≡ z
    distinct y z below within e = elim (cases_eq y x) [
      | inl one ↦ elim (cases_eq z x) [
        | inl same ↦ one ∙ sym same
        | inr other ↦ absurd (fresh z (are.given z (inside z within)) (sym (at_other z other) ∙ sym e ∙ at_own y one below))
      ]
      | inr apart ↦ elim (cases_eq z x) [
        | inl same ↦ absurd (fresh y (are.given y (inside y below)) (sym (at_other y apart) ∙ e ∙ at_own z same within))
        | inr other ↦ are.distinct y z (inside y below) (inside z within) (sym (at_other y apart) ∙ e ∙ at_other z other)
      ]
    ]

-- ---- what a call makes

-- another task with the same stamp
pub kept_task : (t : Tasks) (u : Table) (x : ℕ) (task : Task) → IsTasks t → u ≡ record (table_of t) { tasks = set t.tasks x task } → task.stamp ≡ (task_at t x).stamp
    → (x < length t.tasks → IsLeft (planned_op t x task.place) task.left) → IsTasks (with_table t u)
kept_task t u x task keeps leaves same left = subst (λ v. IsTasks (with_table t v)) (sym leaves) (record {
  shape = keeps.shape;
  each = length-set t.tasks x task ∙ keeps.each;
  plans = keeps.plans;
  left = left_set t x task keeps left;
  stamps = stamps_same t.tasks x task t.stamps keeps.stamps same;
})

-- another task with the next stamp, at the same place
pub kept_stamped : (t : Tasks) (u : Table) (x : ℕ) (state : State) → IsTasks t → t.stamps < 2 ^ 63
    → u ≡ record (table_of t) { tasks = set t.tasks x (record (task_at t x) { state = state; stamp = t.stamps; since = 0 }); stamps = t.stamps + 1 } → IsTasks (with_table t u)
kept_stamped t u x state keeps few leaves =
    let task : Task = record (task_at t x) { state = state; stamp = t.stamps; since = 0 } in
    subst (λ v. IsTasks (with_table t v)) (sym leaves) (record {
      shape = keeps.shape;
      each = length-set t.tasks x task ∙ keeps.each;
      plans = keeps.plans;
      left = left_set t x task keeps (keeps.left x);
      stamps = stamps_more t.tasks x task t.stamps keeps.stamps few refl;
    })

-- less is left of an operation, but something where it ends
pub left_less : (t : Tasks) (x ns : ℕ) → IsTasks t → x < length t.tasks → IsLeft (planned_op t x (task_at t x).place) (left_after (task_at t x).left ns)
left_less t x ns keeps within = by (task_at t x).left (keeps.left x within)
  where
    clash : (most : ℕ) → Some most ≡ None → ⊥
    clash most e = cc

    by : (left : Option ℕ) → IsLeft (planned_op t x (task_at t x).place) left → IsLeft (planned_op t x (task_at t x).place) (left_after left ns)
    by None is = is
    by (Some most) is = record { forever = λ e. absurd cc; none = λ e. absurd (clash most (is.none e)) }

-- a thread that runs is given back
pub kept_given : (t : Tasks) (u : Table) (x : ℕ) (policy : Policy) → IsTasks t → t.stamps < 2 ^ 63 → u ≡ put_given (table_of t) x t.shape policy (task_at t x).state → IsTasks (with_table t u)
kept_given t u x policy keeps few leaves = by (task_at t x).state leaves
  where
    by_slice : (over : Bool) → u ≡ cond over (put_back (table_of t) x) (put_state (table_of t) x Ready) → IsTasks (with_table t u)
    by_slice true leaves = kept_stamped t u x Ready keeps few leaves
    by_slice false leaves = kept_task t u x (record (task_at t x) { state = Ready }) keeps leaves refl (keeps.left x)

    as_before : u ≡ table_of t → IsTasks (with_table t u)
    as_before leaves = subst (λ v. IsTasks (with_table t v)) (sym leaves) keeps

    by : (state : State) → u ≡ put_given (table_of t) x t.shape policy state → IsTasks (with_table t u)
    by Ready leaves = as_before leaves
    by (Running c) leaves = by_slice (is_slice_over t.shape policy (task_at t x).since) leaves
    by (Sleeping until) leaves = as_before leaves
    by (Sending c) leaves = as_before leaves
    by (Receiving c) leaves = as_before leaves
    by (Replying y) leaves = as_before leaves
    by Gone leaves = as_before leaves
