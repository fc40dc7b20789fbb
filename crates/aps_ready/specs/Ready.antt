use Rattle.std.specs.Prelude.{◌≡◌, ◌≢◌, ℕ, ◌-◌, ◌%◌, ◌<◌, ◌≤◌, nat_lt, nat_eq, if◌then◌else◌, List, [], ◌∷◌, length, slice_set, Option, Some, None}
use Rattle.aps_model.specs.declared.state.Facts.{Facts}
use Rattle.aps_model.specs.declared.merit.Contender.{Contender}
use Rattle.aps_model.specs.Limits.{greatest_priority, last_partition, last_thread, most_partitions}
use Rattle.aps_ready.specs.declared.entrant.Entrant.{Entrant}
use Rattle.aps_ready.specs.Entrant.{entrant_at, vacant}
use Rattle.aps_ready.specs.Group.{group_count}

-- those who are in, in order of their numbers
abbrev pub members : List (Option Contender) → List Contender
members [] = []
members (None ∷ row) = members row
members (Some c ∷ row) = c ∷ members row

-- the row with this one out, if there is one
abbrev pub contenders_without : Option Contender → List (Option Contender) → List (Option Contender)
contenders_without None row = row
contenders_without (Some c) row = slice_set row c.thread None

-- no one who is in has the stamp
abbrev pub IsStampFree : ℕ → Option Contender → Type 0
IsStampFree stamp None = Unit {0}
IsStampFree stamp (Some c) = c.stamp ≢ stamp

abbrev pub with_facts : Facts → Contender → Contender
with_facts facts c = record { thread = c.thread; facts = facts; stamp = c.stamp }

-- the values of an entrant, and the thread that it stands for
abbrev pub entrant_facts : Entrant → Facts
entrant_facts e =
    record { partition = e.group % most_partitions; priority = greatest_priority - e.level; critical = nat_lt last_partition e.group }

abbrev pub entrant_contender : Entrant → Contender
entrant_contender e = record { thread = e.thread; facts = entrant_facts e; stamp = e.stamp }

-- who is in there, if anybody is
abbrev pub entrant_seat : Entrant → Option Contender
entrant_seat e = if nat_lt e.group group_count then Some (entrant_contender e) else None

-- who is in and of a group
abbrev pub entrant_in : ℕ → Entrant → Entrant
entrant_in g e = if nat_eq e.group g then e else vacant

-- only threads with a number of the machine's are in, however many places there are
abbrev pub HasThreads : List Entrant → Type 0
HasThreads row = (x : ℕ) → (entrant_at row x).group < group_count → x ≤ last_thread

-- stamps differ, and whoever is in is in its own place
pub record IsQueued (row : List Entrant) : Type 0 where
  pub levels : (x : ℕ) → x < length row → (entrant_at row x).group < group_count → (entrant_at row x).level ≤ greatest_priority
  pub threads : (x : ℕ) → x < length row → (entrant_at row x).group < group_count → (entrant_at row x).thread ≡ x
  pub stamps : (x y : ℕ) → x < length row → y < length row
      → (entrant_at row x).group < group_count → (entrant_at row y).group < group_count
      → (entrant_at row x).stamp ≡ (entrant_at row y).stamp → x ≡ y
