-- The sleepers: a row with a place for each thread, which has the moment until which it sleeps.
use Rattle.std.specs.Prelude.{◌≡◌, ◌≢◌, ℕ, ◌%◌, ◌≤◌, nat_le, true, if◌then◌else◌, List, [], ◌∷◌, length, slice_index_or, slice_set, map, Option, Some, None}
use Rattle.std.specs.List.{fold, filter_map, range_with_len}
use Rattle.aps_model.specs.TickWork.{insert_sleeper, is_earlier}

-- thread x sleeps until this moment
abbrev pub SleepsUntil : List (Option ℕ) → ℕ → ℕ → Type 0
SleepsUntil row x until = slice_index_or row x None ≡ Some until

-- who sleeps until a moment of whole ms sleeps until this one or an earlier one
abbrev pub IsNoted : List (Option ℕ) → ℕ → Type 0
IsNoted row whole = (x until : ℕ) → SleepsUntil row x until → until % 1000000 ≡ 0 → until ≤ whole

-- thread x sleeps until a moment that has come, and before every other sleeper by moment, then by number
pub record IsFirstDue (row : List (Option ℕ)) (now x : ℕ) : Type 0 where
  pub until : ℕ
  pub asleep : SleepsUntil row x until
  pub due : until ≤ now
  pub first : (y other : ℕ) → y ≢ x → SleepsUntil row y other → is_earlier (until, x) (other, y) ≡ true

-- the moment and the number of a thread, if its moment has come
abbrev pub due_by : ℕ → ℕ → Option ℕ → Option (ℕ × ℕ)
due_by now x None = None
due_by now x (Some until) = if nat_le until now then Some (until, x) else None

-- the sleepers whose moment has come, in order of moment, then of number
abbrev pub all_due : List (Option ℕ) → ℕ → List (ℕ × ℕ)
all_due row now =
    fold (λ sleepers sleeper. insert_sleeper sleeper sleepers) []
    (filter_map (λ x. due_by now x (slice_index_or row x None)) (range_with_len 0 (length row)))

-- the first of them
abbrev pub next_due : List (ℕ × ℕ) → Option ℕ
next_due [] = None
next_due (sleeper ∷ sleepers) = Some sleeper.1

-- the others
abbrev pub later_due : List (ℕ × ℕ) → List (ℕ × ℕ)
later_due [] = []
later_due (sleeper ∷ sleepers) = sleepers

-- the row without this sleeper, if there is one
abbrev pub sleepers_without : List (Option ℕ) → Option ℕ → List (Option ℕ)
sleepers_without row None = row
sleepers_without row (Some x) = slice_set row x None

-- the sleepers among the threads below n whose moment has come, in that order
abbrev pub due_below : List (Option ℕ) → ℕ → ℕ → List (ℕ × ℕ)
due_below row now n =
    fold (λ sleepers sleeper. insert_sleeper sleeper sleepers) []
    (filter_map (λ x. due_by now x (slice_index_or row x None)) (range_with_len 0 n))

-- the numbers of sleepers
abbrev pub numbers_of : List (ℕ × ℕ) → List ℕ
numbers_of sleepers = map (λ (sleeper : ℕ × ℕ). sleeper.1) sleepers

-- the row without these sleepers
abbrev pub without_all : List (Option ℕ) → List (ℕ × ℕ) → List (Option ℕ)
without_all row sleepers = fold (λ row (sleeper : ℕ × ℕ). slice_set row sleeper.1 None) row sleepers
