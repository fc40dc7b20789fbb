-- Threads that are kept in two lists: what is read of them, and what a write in one of the lists makes of them.
use Rattle.std.proofs.Common.{◌≡◌, ℕ, zero, suc, List, [], ◌∷◌, length, map, set, get_or, refl, ap, arith}
use Rattle.aps_model.specs.declared.state.Facts.{Facts}
use Rattle.aps_model.specs.declared.state.ThreadNow.{ThreadNow}
use Rattle.aps_model.specs.SchedulerState.{SchedulerState, no_facts, no_thread}
use Rattle.aps_tasks.specs.declared.task.Task.{Task}
use Rattle.aps_tasks.specs.Start.{task_of}
use Rattle.aps_tasks.specs.Table.{Table}
use Rattle.aps_tasks.specs.Tasks.{no_task}
use Rattle.aps_core.specs.Threads.{thread_of, threads_of}

-- the state with these as its threads
abbrev pub with_tasks : SchedulerState → Table → List Facts → SchedulerState
with_tasks s t own = record s { threads = threads_of t.tasks own; stamps = t.stamps }

pub threads_count : (tasks : List Task) (own : List Facts) → length (threads_of tasks own) ≡ length tasks
threads_count [] own = refl
threads_count (t ∷ tasks) [] = ap suc (threads_count tasks [])
threads_count (t ∷ tasks) (f ∷ own) = ap suc (threads_count tasks own)

pub task_read : (tasks : List Task) (own : List Facts) (x : ℕ) → get_or tasks x no_task ≡ task_of (get_or (threads_of tasks own) x no_thread)
task_read [] own x = refl
task_read (t ∷ tasks) [] zero = refl
task_read (t ∷ tasks) [] (suc x) = task_read tasks [] x
task_read (t ∷ tasks) (f ∷ own) zero = refl
task_read (t ∷ tasks) (f ∷ own) (suc x) = task_read tasks own x

pub own_read : (tasks : List Task) (own : List Facts) (x : ℕ) → length own ≡ length tasks → get_or own x no_facts ≡ (get_or (threads_of tasks own) x no_thread).own
own_read [] [] x same = refl
own_read [] (f ∷ own) x same = absurd (omega (arith, same))
own_read (t ∷ tasks) [] x same = absurd (omega (arith, same))
own_read (t ∷ tasks) (f ∷ own) zero same = refl
own_read (t ∷ tasks) (f ∷ own) (suc x) same = own_read tasks own x (omega (arith, same))

pub owns_read : (tasks : List Task) (own : List Facts) → length own ≡ length tasks → own ≡ map (λ (t : ThreadNow). t.own) (threads_of tasks own)
owns_read [] [] same = refl
owns_read [] (f ∷ own) same = absurd (omega (arith, same))
owns_read (t ∷ tasks) [] same = absurd (omega (arith, same))
owns_read (t ∷ tasks) (f ∷ own) same = ap (λ (all : List Facts). f ∷ all) (owns_read tasks own (omega (arith, same)))

-- threads that were taken apart
pub threads_joined : (threads : List ThreadNow) → threads_of (map task_of threads) (map (λ (t : ThreadNow). t.own) threads) ≡ threads
threads_joined [] = refl
threads_joined (t ∷ threads) = ap (λ (all : List ThreadNow). t ∷ all) (threads_joined threads)

-- a task changes, and the thread with it
pub task_put : (tasks : List Task) (own : List Facts) (x : ℕ) (f : Task → Task) (g : ThreadNow → ThreadNow) → ((a : Task) (o : Facts) → thread_of (f a) o ≡ g (thread_of a o))
    → threads_of (set tasks x (f (get_or tasks x no_task))) own ≡ set (threads_of tasks own) x (g (get_or (threads_of tasks own) x no_thread))
task_put [] own x f g same = refl
task_put (t ∷ tasks) [] zero f g same = ap (λ (u : ThreadNow). u ∷ threads_of tasks []) (same t no_facts)
task_put (t ∷ tasks) [] (suc x) f g same = ap (λ (all : List ThreadNow). thread_of t no_facts ∷ all) (task_put tasks [] x f g same)
task_put (t ∷ tasks) (o ∷ own) zero f g same = ap (λ (u : ThreadNow). u ∷ threads_of tasks own) (same t o)
task_put (t ∷ tasks) (o ∷ own) (suc x) f g same = ap (λ (all : List ThreadNow). thread_of t o ∷ all) (task_put tasks own x f g same)

-- own values change
pub own_put : (tasks : List Task) (own : List Facts) (x : ℕ) (h : Facts → Facts) → length own ≡ length tasks
    → threads_of tasks (set own x (h (get_or own x no_facts)))
    ≡ set (threads_of tasks own) x (record (get_or (threads_of tasks own) x no_thread) { own = h (get_or (threads_of tasks own) x no_thread).own })
own_put [] own x h same = refl
own_put (t ∷ tasks) [] x h same = absurd (omega (arith, same))
own_put (t ∷ tasks) (f ∷ own) zero h same = refl
own_put (t ∷ tasks) (f ∷ own) (suc x) h same = ap (λ (all : List ThreadNow). thread_of t f ∷ all) (own_put tasks own x h (omega (arith, same)))
