-- Sleepers in buckets by their moment, and in one further list.
use Rattle.std.specs.Prelude.{◌≡◌, ◌⊎◌, ℕ, ◌+◌, ◌/◌, ◌%◌, ◌<◌, ◌≤◌, nat_eq, true, false, List, slice_index_or, Option, Some, None}
use Rattle.aps_model.specs.Limits.{last_thread}
use Rattle.aps_levels.specs.declared.bits.Bits64.{Bits64}
use Rattle.aps_timer.specs.Lines.{stands_in}
use Rattle.aps_timer.specs.Sleepers.{SleepsUntil}

-- the bucket of a moment: 1,000,000 ns each
abbrev pub bucket_of : ℕ → ℕ
bucket_of until = until / 1000000

-- how many buckets there are
abbrev pub bucket_count : ℕ
bucket_count = 1024

-- the line of the further list, behind those of the buckets
abbrev pub further_line : ℕ
further_line = 1024

-- how many words all lines have, the further one included
abbrev pub words_in_all : ℕ
words_in_all = 16400

-- a thread that sleeps until this moment stands in its bucket, one of the 1,024 that begin with the bucket of `begin`, and in
-- no other line; nobody in the buckets wakes before `begin`
pub record IsNear (lines : List Bits64) (begin x until : ℕ) : Type 0 where
  pub from : begin ≤ until
  pub before : bucket_of until < bucket_of begin + bucket_count
  pub stands : (line : ℕ) → stands_in lines line x ≡ nat_eq line (bucket_of until % bucket_count)

-- it stands in the further list, of which nobody wakes before this moment, and in no bucket
pub record IsFurther (lines : List Bits64) (further x until : ℕ) : Type 0 where
  pub from : further ≤ until
  pub stands : (line : ℕ) → stands_in lines line x ≡ nat_eq line further_line

-- where a thread stands that sleeps until this moment; if it doesn't sleep, nowhere
abbrev pub IsSleeperPlaced : List Bits64 → ℕ → ℕ → ℕ → Option ℕ → Type 0
IsSleeperPlaced lines begin further x None = (line : ℕ) → stands_in lines line x ≡ false
IsSleeperPlaced lines begin further x (Some until) = IsNear lines begin x until ⊎ IsFurther lines further x until

-- each thread of the row stands where it is looked for
pub record AreKept (row : List (Option ℕ)) (lines : List Bits64) (begin further : ℕ) : Type 0 where
  pub few : (x until : ℕ) → SleepsUntil row x until → x ≤ last_thread
  pub each : (x : ℕ) → x ≤ last_thread → IsSleeperPlaced lines begin further x (slice_index_or row x None)

-- whoever stands in the line of a bucket sleeps until a moment of one of the buckets from this one on
abbrev pub AreNear : List (Option ℕ) → List Bits64 → ℕ → Type 0
AreNear row lines begin = (line x : ℕ) → line < bucket_count → x ≤ last_thread → stands_in lines line x ≡ true
    → (until : ℕ) × SleepsUntil row x until × IsNear lines begin x until
