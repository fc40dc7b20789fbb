-- The calls on tasks that are tied to a scheduler state.
use Rattle.std.proofs.Common.{◌≡◌, ℕ, ◌+◌, ◌-◌, ◌*◌, Bool, true, false, cond, nat_le, List, set, get_or, refl, sym, ◌∙◌, ap, subst, Some}
use Rattle.std.specs.Option.{option_map}
use Rattle.std.proofs.lemmas.List.{map-set}
use Rattle.std.proofs.Math.ListN.{get_or-map}
use Rattle.aps_model.specs.declared.program.Op.{Op}
use Rattle.aps_model.specs.declared.program.Op.TheVariants.{Run, Forever, Sleep, Yield, Send, Receive, Reply, Join, Priority, CriticalOn, CriticalOff, Repeat, Exit}
use Rattle.aps_model.specs.declared.scenario.Policy.{Policy}
use Rattle.aps_model.specs.declared.scenario.Policy.TheVariants.{Fifo, Rr}
use Rattle.aps_model.specs.declared.shape.Shape.{Shape}
use Rattle.aps_model.specs.declared.state.Pick.{Pick}
use Rattle.aps_model.specs.declared.state.State.{State}
use Rattle.aps_model.specs.declared.state.State.TheVariants.{Ready, Running, Sleeping, Sending, Receiving, Replying, Gone}
use Rattle.aps_model.specs.declared.state.ThreadNow.{ThreadNow}
use Rattle.aps_model.specs.Bill.{spend}
use Rattle.aps_model.specs.Opening.{opening}
use Rattle.aps_model.specs.Operation.{duration, enter, is_slice_over, place_after, state_in, with_stamped}
use Rattle.aps_model.specs.Scenario.{Scenario, no_thread_row, op_at, thread_row}
use Rattle.aps_model.specs.SchedulerState.{SchedulerState, no_thread, thread_at, with_state, with_thread}
use Rattle.aps_model.specs.Step.{enter_next, give_back}
use Rattle.aps_tasks.specs.declared.plan.Plan.{Plan}
use Rattle.aps_tasks.specs.declared.task.Task.{Task}
use Rattle.aps_tasks.specs.Calls.{operation_advanced, entered, given_back, made_ready, restamped, time_passed}
use Rattle.aps_tasks.specs.Start.{plan_of, start_tasks, task_of}
use Rattle.aps_tasks.specs.Tasks.{Tasks, op_of, plan_at, task_at, with_task}
use Rattle.aps_tasks.specs.Tasks.{planned_op as op_in, tasks_with_stamped as with_task_stamped, tasks_with_state as with_task_state}
use Rattle.aps_tasks.specs.Tied.{AreTasksTied}

pub tied_opening : (scenario : Scenario) → AreTasksTied scenario (opening scenario) (start_tasks scenario)
tied_opening scenario = record { plans = refl; tick = refl; call = refl; tasks = refl; stamps = refl }

pub tied_task : (scenario : Scenario) (s : SchedulerState) (t : Tasks) (x : ℕ) → AreTasksTied scenario s t → task_at t x ≡ task_of (thread_at s x)
tied_task scenario s t x tied =
    ap (λ (tasks : List Task). get_or tasks x (task_of no_thread)) tied.tasks ∙ get_or-map task_of s.threads x no_thread

tied_plan : (scenario : Scenario) (s : SchedulerState) (t : Tasks) (x : ℕ) → AreTasksTied scenario s t → plan_at t x ≡ plan_of (thread_row scenario x)
tied_plan scenario s t x tied =
    ap (λ (plans : List Plan). get_or plans x (plan_of no_thread_row)) tied.plans ∙ get_or-map plan_of scenario.threads x no_thread_row

op_same : (scenario : Scenario) (s : SchedulerState) (t : Tasks) (x place : ℕ) → AreTasksTied scenario s t → op_in t x place ≡ op_at scenario x place
op_same scenario s t x place tied = ap (λ (p : Plan). get_or p.program place Exit) (tied_plan scenario s t x tied)

pub tied_op : (scenario : Scenario) (s : SchedulerState) (t : Tasks) (x : ℕ) → AreTasksTied scenario s t → op_of t x ≡ op_at scenario x (thread_at s x).place
tied_op scenario s t x tied =
    ap (λ (task : Task). op_in t x task.place) (tied_task scenario s t x tied) ∙ op_same scenario s t x (thread_at s x).place tied

-- one thread is another one
tied_thread : (scenario : Scenario) (s : SchedulerState) (t : Tasks) (x : ℕ) (thread : ThreadNow) (task : Task) → AreTasksTied scenario s t → task ≡ task_of thread
    → AreTasksTied scenario (with_thread s x thread) (with_task t x task)
tied_thread scenario s t x thread task tied same = record {
  plans = tied.plans;
  tick = tied.tick;
  call = tied.call;
  tasks = (λ j. set (tied.tasks j) x (same j)) ∙ sym (map-set task_of s.threads x thread);
  stamps = tied.stamps;
}

-- with the next stamp
tied_stamped : (scenario : Scenario) (s : SchedulerState) (t : Tasks) (x : ℕ) (thread : ThreadNow) (task : Task) → AreTasksTied scenario s t → task ≡ task_of thread
    → AreTasksTied scenario (with_stamped s x thread) (with_task_stamped t x task)
tied_stamped scenario s t x thread task tied same = record {
  plans = tied.plans;
  tick = tied.tick;
  call = tied.call;
  tasks =
      (λ j. set (tied.tasks j) x (record (same j) { stamp = tied.stamps j; since = 0 }))
      ∙ sym (map-set task_of s.threads x (record thread { stamp = s.stamps; since = 0 }));
  stamps = ap (λ n. n + 1) tied.stamps;
}

pub tied_state : (scenario : Scenario) (s : SchedulerState) (t : Tasks) (x : ℕ) (state : State) → AreTasksTied scenario s t
    → AreTasksTied scenario (with_state s x state) (with_task_state t x state)
tied_state scenario s t x state tied =
    tied_thread scenario s t x (record (thread_at s x) { state = state }) (record (task_at t x) { state = state }) tied
    (ap (λ (task : Task). record task { state = state }) (tied_task scenario s t x tied))

pub tied_restamp : (scenario : Scenario) (s : SchedulerState) (t : Tasks) (x : ℕ) → AreTasksTied scenario s t
    → AreTasksTied scenario (with_stamped s x (thread_at s x)) (restamped t x)
tied_restamp scenario s t x tied = tied_stamped scenario s t x (thread_at s x) (task_at t x) tied (tied_task scenario s t x tied)

pub tied_spend : (scenario : Scenario) (s : SchedulerState) (t : Tasks) (ns : ℕ) (pick : Pick) → AreTasksTied scenario s t
    → AreTasksTied scenario (spend s ns (Some pick)) (time_passed t pick.thread ns)
tied_spend scenario s t ns pick tied =
    let x = pick.thread in
    let thread = thread_at s x in
    let task = task_at t x in
    tied_thread scenario s t x
    (record thread { left = option_map (λ left. left - ns) thread.left; since = thread.since + ns })
    (record task { left = option_map (λ left. left - ns) task.left; since = task.since + ns }) tied
    (ap (λ (task : Task). record task { left = option_map (λ left. left - ns) task.left; since = task.since + ns }) (tied_task scenario s t x tied))

slice_same : (a b : Shape) (policy : Policy) (since : ℕ) → a.tick ≡ b.tick → is_slice_over a policy since ≡ is_slice_over b policy since
slice_same a b Fifo since tick = refl
slice_same a b Rr since tick = ap (λ n. nat_le (4 * n) since) tick

pub tied_give_back : (scenario : Scenario) (s : SchedulerState) (t : Tasks) (x : ℕ) → AreTasksTied scenario s t
    → AreTasksTied scenario (give_back scenario s x (thread_at s x).state) (given_back t x (task_at t x).state)
tied_give_back scenario s t x tied =
    subst (λ (state : State). AreTasksTied scenario (give_back scenario s x (thread_at s x).state) (given_back t x state))
    (sym (ap (λ (task : Task). task.state) (tied_task scenario s t x tied)))
    (by (thread_at s x).state)
  where
    over : is_slice_over t.shape (plan_at t x).policy (task_at t x).since ≡ is_slice_over s.shape (thread_row scenario x).policy (thread_at s x).since
    over =
        (λ j. is_slice_over t.shape (tied_plan scenario s t x tied j).policy (tied_task scenario s t x tied j).since)
        ∙ slice_same t.shape s.shape (thread_row scenario x).policy (thread_at s x).since tied.tick

    ready : Bool → SchedulerState
    ready b = cond b (with_stamped s x (record (thread_at s x) { state = Ready })) (with_state s x Ready)

    by_slice : (b : Bool) → AreTasksTied scenario (cond b (with_stamped s x (record (thread_at s x) { state = Ready })) (with_state s x Ready)) (cond b (made_ready t x) (with_task_state t x Ready))
    by_slice true =
        tied_stamped scenario s t x (record (thread_at s x) { state = Ready }) (record (task_at t x) { state = Ready }) tied
        (ap (λ (task : Task). record task { state = Ready }) (tied_task scenario s t x tied))
    by_slice false = tied_state scenario s t x Ready tied

    by : (state : State) → AreTasksTied scenario (give_back scenario s x state) (given_back t x state)
    by Ready = tied
    by (Running c) =
        subst (λ (b : Bool). AreTasksTied scenario (give_back scenario s x (Running c)) (cond b (made_ready t x) (with_task_state t x Ready))) (sym over)
        (by_slice (is_slice_over s.shape (thread_row scenario x).policy (thread_at s x).since))
    by (Sleeping until) = tied
    by (Sending c) = tied
    by (Receiving c) = tied
    by (Replying y) = tied
    by Gone = tied

duration_same : (a b : Shape) (op : Op) → a.call_ns ≡ b.call_ns → duration a op ≡ duration b op
duration_same a b (Run ns) call = refl
duration_same a b Forever call = refl
duration_same a b (Sleep ns) call = refl
duration_same a b Yield call = ap (λ n. Some n) call
duration_same a b (Send c) call = ap (λ n. Some n) call
duration_same a b (Receive c) call = ap (λ n. Some n) call
duration_same a b Reply call = ap (λ n. Some n) call
duration_same a b (Join name) call = ap (λ n. Some n) call
duration_same a b (Priority n) call = ap (λ n. Some n) call
duration_same a b CriticalOn call = ap (λ n. Some n) call
duration_same a b CriticalOff call = ap (λ n. Some n) call
duration_same a b Repeat call = ap (λ n. Some n) call
duration_same a b Exit call = ap (λ n. Some n) call

-- a thread enters the operation at a place, and stays in its state where that is no sleep
entered_same : (scenario : Scenario) (s : SchedulerState) (t : Tasks) (x place now : ℕ) → AreTasksTied scenario s t
    → entered t x place now ≡ task_of (enter scenario s.shape x place now (thread_at s x).state (thread_at s x))
entered_same scenario s t x place now tied =
    let op = op_same scenario s t x place tied in
    let task = tied_task scenario s t x tied in
    let left : duration t.shape (op_in t x place) ≡ duration s.shape (op_at scenario x place) =
    ap (duration t.shape) op ∙ duration_same t.shape s.shape (op_at scenario x place) tied.call in
    λ j. record (task j) { place = place; left = left j; state = state_in (op j) now (task j).state }

pub tied_enter : (scenario : Scenario) (s : SchedulerState) (t : Tasks) (x now c : ℕ) → AreTasksTied scenario s t → (thread_at s x).state ≡ Running c
    → AreTasksTied scenario (enter_next scenario s x now (op_at scenario x (thread_at s x).place) (Running c)) (operation_advanced t x now)
tied_enter scenario s t x now c tied running =
    let op = tied_op scenario s t x tied in
    let task = tied_task scenario s t x tied in
    let place : place_after (op_of t x) (task_at t x).place ≡ place_after (op_at scenario x (thread_at s x).place) (thread_at s x).place =
    λ j. place_after (op j) (task j).place in
    let next = place_after (op_at scenario x (thread_at s x).place) (thread_at s x).place in
    tied_thread scenario s t x (enter scenario s.shape x next now (Running c) (thread_at s x)) (entered t x (place_after (op_of t x) (task_at t x).place) now) tied
    (ap (λ n. entered t x n now) place
    ∙ entered_same scenario s t x next now tied
    ∙ ap (λ (state : State). task_of (enter scenario s.shape x next now state (thread_at s x))) running)
