-- What a call on the tasks, or on the own values, makes of the state and of the machine.
use Rattle.std.proofs.Common.{◌≡◌, ℕ, ◌+◌, ◌-◌, List, length, set, get_or, refl, sym, ◌∙◌, ap, Bool, true, false, cond, Some, arith, inl, inr, length-set}
use Rattle.std.specs.Option.{option_map}
use Rattle.std.proofs.lemmas.Bool.{cases_lt}
use Rattle.std.proofs.lemmas.List.{length-map, set-set, set_past}
use Rattle.aps_model.specs.declared.program.Op.{Op}
use Rattle.aps_model.specs.declared.scenario.Policy.{Policy}
use Rattle.aps_model.specs.declared.shape.Shape.{Shape}
use Rattle.aps_model.specs.declared.state.Facts.{Facts}
use Rattle.aps_model.specs.declared.state.Pick.{Pick}
use Rattle.aps_model.specs.declared.state.State.{State}
use Rattle.aps_model.specs.declared.state.State.TheVariants.{Ready, Running, Sleeping, Sending, Receiving, Replying, Gone}
use Rattle.aps_model.specs.declared.state.ThreadNow.{ThreadNow}
use Rattle.aps_model.specs.Bill.{spend}
use Rattle.aps_model.specs.Inherit.{Inheritance, inheritance_of}
use Rattle.aps_model.specs.Operation.{enter, go_on, is_slice_over, place_after, state_in, with_ready, with_stamped}
use Rattle.aps_model.specs.Scenario.{Scenario, op_at, thread_row}
use Rattle.aps_model.specs.SchedulerState.{SchedulerState, no_thread, thread_at, with_own as put_own, with_state, with_thread}
use Rattle.aps_model.specs.Step.{enter_next, give_back}
use Rattle.laws_runs.proofs.ThreadFacts.{set_same}
use Rattle.aps_inherit.specs.Own.{own_of, with_own_values}
use Rattle.aps_tasks.specs.declared.task.Task.{Task}
use Rattle.aps_tasks.specs.Table.{Table, entering, put_back, put_entered, put_given, put_on, put_ready, put_spent, put_stamped, put_state, put_task, task_in}
use Rattle.aps_core.specs.Machine.{IsCoreMachine}
use Rattle.aps_core.specs.Threads.{thread_of, threads_of}
use Rattle.aps_core.proofs.Threads.{own_put, owns_read, task_put, task_read, threads_count, with_tasks}

-- ---- the state

-- the thread's task changes, and the thread with it
pub written : (s : SchedulerState) (t u : Table) (own : List Facts) (x : ℕ) (f : Task → Task) (g : ThreadNow → ThreadNow) → ((a : Task) (o : Facts) → thread_of (f a) o ≡ g (thread_of a o))
    → u ≡ put_task t x (f (task_in t x)) → with_tasks s u own ≡ with_thread (with_tasks s t own) x (g (thread_at (with_tasks s t own) x))
written s t u own x f g same leaves =
    ap (λ (v : Table). with_tasks s v own) leaves
    ∙ ap (λ (threads : List ThreadNow). record s { threads = threads; stamps = t.stamps }) (task_put t.tasks own x f g same)

-- the same with the next stamp
pub stamped : (s : SchedulerState) (t u : Table) (own : List Facts) (x : ℕ) (f : Task → Task) (g : ThreadNow → ThreadNow) → ((a : Task) (o : Facts) → thread_of (f a) o ≡ g (thread_of a o))
    → u ≡ put_stamped t x (f (task_in t x)) → with_tasks s u own ≡ with_stamped (with_tasks s t own) x (g (thread_at (with_tasks s t own) x))
stamped s t u own x f g same leaves =
    ap (λ (v : Table). with_tasks s v own) leaves
    ∙ ap (λ (threads : List ThreadNow). record s { threads = threads; stamps = t.stamps + 1 })
    (task_put t.tasks own x (λ a. record (f a) { stamp = t.stamps; since = 0 }) (λ b. record (g b) { stamp = t.stamps; since = 0 })
    (λ a o. ap (λ (b : ThreadNow). record b { stamp = t.stamps; since = 0 }) (same a o)))

pub gone_on : (scenario : Scenario) (s : SchedulerState) (t u : Table) (own : List Facts) (x place now : ℕ) (op : Op) → place ≡ (thread_at (with_tasks s t own) x).place + 1
    → op ≡ op_at scenario x place → u ≡ put_on t x s.shape place op now → with_tasks s u own ≡ go_on scenario (with_tasks s t own) x now
gone_on scenario s t u own x place now op behind there leaves =
    ap (λ (v : Table). with_tasks s v own) (leaves ∙ ap (λ o. put_on t x s.shape place o now) there ∙ ap (λ p. put_on t x s.shape p (op_at scenario x p) now) behind)
    ∙ by (state_in (op_at scenario x next) now Ready)
  where
    z : SchedulerState
    z = with_tasks s t own

    next : ℕ
    next = (thread_at z x).place + 1

    f : Task → Task
    f = entering s.shape next (op_at scenario x next) now Ready

    g : ThreadNow → ThreadNow
    g = enter scenario s.shape x next now Ready

    still : with_tasks s (put_task t x (f (task_in t x))) own ≡ with_thread z x (g (thread_at z x))
    still = written s t _ own x f g (λ a o. refl) refl

    by : (st : State) → with_tasks s (put_ready t x (f (task_in t x)) st) own ≡ with_ready z x (g (thread_at z x)) st
    by Ready = stamped s t _ own x f g (λ a o. refl) refl
    by (Running c) = still
    by (Sleeping until) = still
    by (Sending c) = still
    by (Receiving c) = still
    by (Replying y) = still
    by Gone = still

pub entered : (scenario : Scenario) (s : SchedulerState) (t u : Table) (own : List Facts) (x place now c : ℕ) (op next : Op) → (thread_at (with_tasks s t own) x).state ≡ Running c
    → place ≡ place_after op (thread_at (with_tasks s t own) x).place → next ≡ op_at scenario x place → u ≡ put_entered t x s.shape place next now
    → with_tasks s u own ≡ enter_next scenario (with_tasks s t own) x now op (thread_at (with_tasks s t own) x).state
entered scenario s t u own x place now c op next running behind there leaves =
    let z = with_tasks s t own in
    let p = place_after op (thread_at z x).place in
    written s t u own x (λ a. entering s.shape p (op_at scenario x p) now a.state a) (λ b. enter scenario s.shape x p now b.state b) (λ a o. refl)
    (leaves ∙ ap (λ o. put_entered t x s.shape place o now) there ∙ ap (λ n. put_entered t x s.shape n (op_at scenario x n) now) behind)
    ∙ ap (λ (st : State). with_thread z x (enter scenario s.shape x p now st (thread_at z x))) running
    ∙ sym (ap (enter_next scenario z x now op) running)

pub given : (scenario : Scenario) (s : SchedulerState) (t u : Table) (own : List Facts) (x : ℕ) (policy : Policy) → policy ≡ (thread_row scenario x).policy
    → u ≡ put_given t x s.shape policy (task_in t x).state → with_tasks s u own ≡ give_back scenario (with_tasks s t own) x (thread_at (with_tasks s t own) x).state
given scenario s t u own x policy is leaves =
    ap (λ (v : Table). with_tasks s v own)
    (leaves ∙ ap (λ p. put_given t x s.shape p (task_in t x).state) is ∙ ap (λ (a : Task). put_given t x s.shape (thread_row scenario x).policy a.state) (task_read t.tasks own x))
    ∙ by (thread_at z x).state
  where
    z : SchedulerState
    z = with_tasks s t own

    by_slice : (over : Bool) → with_tasks s (cond over (put_back t x) (put_state t x Ready)) own
        ≡ cond over (with_stamped z x (record (thread_at z x) { state = Ready })) (with_state z x Ready)
    by_slice true = stamped s t _ own x (λ a. record a { state = Ready }) (λ b. record b { state = Ready }) (λ a o. refl) refl
    by_slice false = written s t _ own x (λ a. record a { state = Ready }) (λ b. record b { state = Ready }) (λ a o. refl) refl

    by : (st : State) → with_tasks s (put_given t x s.shape (thread_row scenario x).policy st) own ≡ give_back scenario z x st
    by Ready = refl
    by (Running c) =
        ap (λ (a : Task). with_tasks s (cond (is_slice_over s.shape (thread_row scenario x).policy a.since) (put_back t x) (put_state t x Ready)) own) (task_read t.tasks own x)
        ∙ by_slice (is_slice_over s.shape (thread_row scenario x).policy (thread_at z x).since)
    by (Sleeping until) = refl
    by (Sending c) = refl
    by (Receiving c) = refl
    by (Replying y) = refl
    by Gone = refl

pub spent : (s : SchedulerState) (t u : Table) (own : List Facts) (ns : ℕ) (pick : Pick) → u ≡ put_spent t pick.thread ns
    → with_tasks s u own ≡ spend (with_tasks s t own) ns (Some pick)
spent s t u own ns pick leaves =
    written s t u own pick.thread (λ a. record a { left = option_map (λ most. most - ns) a.left; since = a.since + ns })
    (λ b. record b { left = option_map (λ left. left - ns) b.left; since = b.since + ns }) (λ a o. refl) leaves

-- the thread has other own values
pub told : (s : SchedulerState) (t : Table) (i j : Inheritance) (x : ℕ) (h : Facts → Facts) → length i.own ≡ length t.tasks → j ≡ with_own_values i x (h (own_of i x))
    → with_tasks s t j.own ≡ put_own (with_tasks s t i.own) x (h (thread_at (with_tasks s t i.own) x).own)
told s t i j x h each leaves =
    ap (λ (k : Inheritance). with_tasks s t k.own) leaves
    ∙ ap (λ (threads : List ThreadNow). record s { threads = threads; stamps = t.stamps }) (own_put t.tasks i.own x h each)

-- own values first and then the stamp make the same of a thread as both at once
pub stamped_again : (s : SchedulerState) (x : ℕ) (own : Facts) → with_stamped (put_own s x own) x (thread_at (put_own s x own) x) ≡ with_stamped s x (record (thread_at s x) { own = own })
stamped_again s x own =
    let t : ThreadNow = record (thread_at s x) { own = own } in
    let stamped : ThreadNow → ThreadNow = λ u. record u { stamp = s.stamps; since = 0 } in
    ap (λ (all : List ThreadNow). record s { threads = all; stamps = s.stamps + 1 })
    (set-set s.threads x t (stamped (get_or (set s.threads x t) x no_thread))
    ∙ elim (cases_lt x (length s.threads)) [
      | inl lt ↦ ap (λ (u : ThreadNow). set s.threads x (stamped u)) (set_same s.threads x t lt)
      | inr past ↦ set_past s.threads x _ past ∙ sym (set_past s.threads x _ past)
    ])

-- ---- the machine

-- there are as many own values as tasks
pub one_each : (s : SchedulerState) (t : Table) (own : List Facts) (n : ℕ) (i : Inheritance) (parts replies changes : ℕ) → IsCoreMachine (with_tasks s t own) n i parts replies changes
    → length i.own ≡ length t.tasks
one_each s t own n i parts replies changes m =
    ap (λ (k : Inheritance). length k.own) m.inherits ∙ length-map (threads_of t.tasks own) (λ (u : ThreadNow). u.own) ∙ threads_count t.tasks own

-- it stays one with other tasks, of as many threads, and other own values; it goes by them
pub refilled : (s : SchedulerState) (t u : Table) (own : List Facts) (n : ℕ) (i j : Inheritance) (parts replies changes : ℕ) → IsCoreMachine (with_tasks s t own) n i parts replies changes
    → length u.tasks ≡ length t.tasks → length j.own ≡ length t.tasks → j ≡ record i { own = j.own } → IsCoreMachine (with_tasks s u j.own) n j parts replies changes
refilled s t u own n i j parts replies changes m count each other = record {
  shape = m.shape;
  few_threads = omega (arith, m.few_threads, threads_count t.tasks own, threads_count u.tasks j.own, count);
  cpus = m.cpus;
  waiters = m.waiters ∙ threads_count t.tasks own ∙ sym count ∙ sym (threads_count u.tasks j.own);
  inherits =
      other ∙ ap (λ (k : Inheritance). record k { own = j.own }) m.inherits
      ∙ ap (λ (all : List Facts). record (inheritance_of s) { own = all }) (owns_read u.tasks j.own (each ∙ sym count));
  parts = m.parts;
  reply_room = m.reply_room;
  change_room = m.change_room;
}

-- with other tasks alone
pub tasked_machine : (s : SchedulerState) (t u : Table) (n : ℕ) (i : Inheritance) (parts replies changes : ℕ) → IsCoreMachine (with_tasks s t i.own) n i parts replies changes
    → length u.tasks ≡ length t.tasks → IsCoreMachine (with_tasks s u i.own) n i parts replies changes
tasked_machine s t u n i parts replies changes m count = refilled s t u i.own n i i parts replies changes m count (one_each s t i.own n i parts replies changes m) refl

-- where a thread has other own values alone
pub told_machine : (s : SchedulerState) (t : Table) (n : ℕ) (i j : Inheritance) (x : ℕ) (facts : Facts) (parts replies changes : ℕ) → IsCoreMachine (with_tasks s t i.own) n i parts replies changes
    → j ≡ with_own_values i x facts → IsCoreMachine (with_tasks s t j.own) n j parts replies changes
told_machine s t n i j x facts parts replies changes m leaves =
    let own : j.own ≡ set i.own x facts = ap (λ (k : Inheritance). k.own) leaves in
    refilled s t t i.own n i j parts replies changes m refl
    (ap length own ∙ length-set i.own x facts ∙ one_each s t i.own n i parts replies changes m)
    (leaves ∙ ap (λ (all : List Facts). record i { own = all }) (sym own))

-- no call adds a thread
pub ready_count : (t : Table) (x : ℕ) (a : Task) (st : State) → length (put_ready t x a st).tasks ≡ length t.tasks
ready_count t x a Ready = length-set t.tasks x (record a { stamp = t.stamps; since = 0 })
ready_count t x a (Running c) = length-set t.tasks x a
ready_count t x a (Sleeping until) = length-set t.tasks x a
ready_count t x a (Sending c) = length-set t.tasks x a
ready_count t x a (Receiving c) = length-set t.tasks x a
ready_count t x a (Replying y) = length-set t.tasks x a
ready_count t x a Gone = length-set t.tasks x a

pub given_count : (t : Table) (x : ℕ) (shape : Shape) (policy : Policy) (st : State) → length (put_given t x shape policy st).tasks ≡ length t.tasks
given_count t x shape policy Ready = refl
given_count t x shape policy (Running c) = by_slice (is_slice_over shape policy (task_in t x).since)
  where
    by_slice : (over : Bool) → length (cond over (put_back t x) (put_state t x Ready)).tasks ≡ length t.tasks
    by_slice true = length-set t.tasks x (record (task_in t x) { state = Ready; stamp = t.stamps; since = 0 })
    by_slice false = length-set t.tasks x (record (task_in t x) { state = Ready })
given_count t x shape policy (Sleeping until) = refl
given_count t x shape policy (Sending c) = refl
given_count t x shape policy (Receiving c) = refl
given_count t x shape policy (Replying y) = refl
given_count t x shape policy Gone = refl
