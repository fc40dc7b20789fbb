-- The stamps at the start of a scenario differ.
use Rattle.std.proofs.Common.{◌≡◌, ◌⊎◌, inl, inr, ℕ, zero, suc, ◌+◌, ◌<◌, ◌≤◌, ◌^◌, List, [], ◌∷◌, length, map, get_or, refl, sym, ap, arith}
use Rattle.aps_model.specs.declared.scenario.ThreadRow.{ThreadRow}
use Rattle.aps_model.specs.declared.shape.Shape.{Shape}
use Rattle.aps_model.specs.declared.state.State.{State}
use Rattle.aps_model.specs.declared.state.State.TheVariants.{Ready, Running, Sleeping, Sending, Receiving, Replying, Gone}
use Rattle.aps_model.specs.Limits.{most_threads}
use Rattle.aps_model.specs.Opening.{first_stamp, first_state, stamp_after, start_stamps, start_threads, started}
use Rattle.aps_tasks.specs.declared.task.Task.{Task}
use Rattle.aps_tasks.specs.Kept.{AreStamped}
use Rattle.aps_tasks.specs.Start.{task_of}
use Rattle.aps_tasks.specs.Tasks.{no_task}

abbrev stamp_in : List Task → ℕ → ℕ
stamp_in tasks i = (get_or tasks i no_task).stamp

-- these threads follow on so many others, and have the stamps from next on, or those of sleepers
record AreStarted (number next : ℕ) (tasks : List Task) (stamps : ℕ) : Type 0 where
  rising : next ≤ stamps
  few : stamps ≤ next + length tasks
  each : (i : ℕ) → i < length tasks → ((next ≤ stamp_in tasks i) × (stamp_in tasks i < stamps)) ⊎ (stamp_in tasks i ≡ 2 ^ 63 + (number + i))
  distinct : (i j : ℕ) → i < length tasks → j < length tasks → stamp_in tasks i ≡ stamp_in tasks j → i ≡ j

-- a thread has the next stamp, or that of a sleeper
abbrev HasFirst : ℕ → ℕ → ℕ → ℕ → Type 0
HasFirst stamp number next after = ((stamp ≡ next) × (after ≡ next + 1)) ⊎ ((stamp ≡ 2 ^ 63 + number) × (after ≡ next))

has_first : (state : State) (number next : ℕ) → HasFirst (first_stamp state next (2 ^ 63 + number)) number next (stamp_after state next)
has_first Ready number next = inl (refl, refl)
has_first (Running c) number next = inr (refl, refl)
has_first (Sleeping until) number next = inr (refl, refl)
has_first (Sending c) number next = inr (refl, refl)
has_first (Receiving c) number next = inr (refl, refl)
has_first (Replying x) number next = inr (refl, refl)
has_first Gone number next = inr (refl, refl)

-- the first differs from all later ones
apart : (first other number next after stamps j : ℕ) → HasFirst first number next after → after ≤ stamps → stamps ≤ 2 ^ 63
    → ((after ≤ other) × (other < stamps)) ⊎ (other ≡ 2 ^ 63 + (number + 1 + j)) → first ≡ other → ⊥
apart first other number next after stamps j (inl a) rising few (inl b) same = omega (arith, a.0, a.1, rising, few, b.0, b.1, same)
apart first other number next after stamps j (inl a) rising few (inr b) same = omega (arith, a.0, a.1, rising, few, b, same)
apart first other number next after stamps j (inr a) rising few (inl b) same = omega (arith, a.0, a.1, rising, few, b.0, b.1, same)
apart first other number next after stamps j (inr a) rising few (inr b) same = omega (arith, a.0, a.1, rising, few, b, same)

-- one thread before others
one_more : (first : Task) (tasks : List Task) (number next after stamps : ℕ) → HasFirst first.stamp number next after → stamps ≤ 2 ^ 63
    → AreStarted (number + 1) after tasks stamps → AreStarted number next (first ∷ tasks) stamps
one_more first tasks number next after stamps has few rest = record {
  rising = rising has;
  few = small has;
  each = each has;
  distinct = distinct;
}
  where
    rising : HasFirst first.stamp number next after → next ≤ stamps
    rising (inl a) = omega (arith, a.1, rest.rising)
    rising (inr a) = omega (arith, a.1, rest.rising)

    small : HasFirst first.stamp number next after → stamps ≤ next + length (first ∷ tasks)
    small (inl a) = omega (arith, a.1, rest.few)
    small (inr a) = omega (arith, a.1, rest.few)

    later : HasFirst first.stamp number next after → (i : ℕ)
        → ((after ≤ stamp_in tasks i) × (stamp_in tasks i < stamps)) ⊎ (stamp_in tasks i ≡ 2 ^ 63 + (number + 1 + i))
        → ((next ≤ stamp_in tasks i) × (stamp_in tasks i < stamps)) ⊎ (stamp_in tasks i ≡ 2 ^ 63 + (number + suc i))
    later (inl a) i (inl b) = inl (omega (arith, a.1, b.0), b.1)
    later (inr a) i (inl b) = inl (omega (arith, a.1, b.0), b.1)
    later a i (inr b) = inr (omega (arith, b))

    each : HasFirst first.stamp number next after → (i : ℕ) → i < length (first ∷ tasks)
        → ((next ≤ stamp_in (first ∷ tasks) i) × (stamp_in (first ∷ tasks) i < stamps)) ⊎ (stamp_in (first ∷ tasks) i ≡ 2 ^ 63 + (number + i))
    each (inl a) zero within = inl (omega (arith, a.0), omega (arith, a.0, a.1, rest.rising))
    each (inr a) zero within = inr (omega (arith, a.0))
    each a (suc i) within = later a i (rest.each i (omega (arith, within)))

    distinct : (i j : ℕ) → i < length (first ∷ tasks) → j < length (first ∷ tasks)
        → stamp_in (first ∷ tasks) i ≡ stamp_in (first ∷ tasks) j → i ≡ j
    distinct zero zero below inside same = refl
    distinct zero (suc j) below inside same =
        absurd (apart first.stamp (stamp_in tasks j) number next after stamps j has rest.rising few (rest.each j (omega (arith, inside))) same)
    distinct (suc i) zero below inside same =
        absurd (apart first.stamp (stamp_in tasks i) number next after stamps i has rest.rising few (rest.each i (omega (arith, below))) (sym same))
    distinct (suc i) (suc j) below inside same =
        ap suc (rest.distinct i j (omega (arith, below)) (omega (arith, inside)) same)

stamps_few : (next : ℕ) (rows : List ThreadRow) → start_stamps next rows ≤ next + length rows
stamps_few next [] = omega arith
stamps_few next (row ∷ rows) = by (has_first (first_state row) 0 next) (stamps_few (stamp_after (first_state row) next) rows)
  where
    by : HasFirst (first_stamp (first_state row) next (2 ^ 63 + 0)) 0 next (stamp_after (first_state row) next)
        → start_stamps (stamp_after (first_state row) next) rows ≤ stamp_after (first_state row) next + length rows
        → start_stamps (stamp_after (first_state row) next) rows ≤ next + length (row ∷ rows)
    by (inl a) more = omega (arith, a.1, more)
    by (inr a) more = omega (arith, a.1, more)

all_started : (shape : Shape) (number next : ℕ) (rows : List ThreadRow) → start_stamps next rows ≤ 2 ^ 63
    → AreStarted number next (map task_of (start_threads shape number next rows)) (start_stamps next rows)
all_started shape number next [] few = record {
  rising = omega arith;
  few = omega arith;
  each = λ i within. absurd (omega (arith, within));
  distinct = λ i j within. absurd (omega (arith, within));
}
all_started shape number next (row ∷ rows) few =
    let after = stamp_after (first_state row) next in
    one_more (task_of (started shape number next row)) (map task_of (start_threads shape (number + 1) after rows)) number next after
    (start_stamps after rows) (has_first (first_state row) number next) few (all_started shape (number + 1) after rows few)

-- those of all threads of a scenario
pub stamps_at_start : (shape : Shape) (rows : List ThreadRow) → length rows ≤ most_threads
    → AreStamped (map task_of (start_threads shape 0 0 rows)) (start_stamps 0 rows)
stamps_at_start shape rows few =
    let small : start_stamps 0 rows ≤ 2 ^ 63 = omega (arith, few, stamps_few 0 rows) in
    let all = all_started shape 0 0 rows small in
    record {
      few = small;
      given = λ x within. by x (all.each x within);
      distinct = all.distinct;
    }
  where
    by : (x : ℕ) → ((0 ≤ stamp_in (map task_of (start_threads shape 0 0 rows)) x) × (stamp_in (map task_of (start_threads shape 0 0 rows)) x < start_stamps 0 rows))
        ⊎ (stamp_in (map task_of (start_threads shape 0 0 rows)) x ≡ 2 ^ 63 + (0 + x))
        → (stamp_in (map task_of (start_threads shape 0 0 rows)) x < start_stamps 0 rows) ⊎ (stamp_in (map task_of (start_threads shape 0 0 rows)) x ≡ 2 ^ 63 + x)
    by x (inl a) = inl a.1
    by x (inr a) = inr (omega (arith, a))
