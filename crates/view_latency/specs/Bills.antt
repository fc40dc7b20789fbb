-- What each thread ran on the bill of each partition.
use Rattle.std.specs.Prelude.{◌≡◌, ℕ, ◌+◌, ◌<◌, ◌^◌, List, length, replicate, slice_index, slice_index_or, ◌&&◌, if◌then◌else◌}
use Rattle.std.specs.List.{sum_by}
use Rattle.aps_model.specs.Limits.{most_partitions, most_threads}
use Rattle.aps_model.specs.declared.entry.Entry.{Entry}
use Rattle.aps_model.specs.declared.usage.Usage.{Usage}
use Rattle.aps_model.specs.Report.{length_of}
use Rattle.aps_model.specs.Sums.{IsAtMost}
use Rattle.aps_model.specs.Usage.{names}

-- what the thread ran in this entry on the partition's bill
abbrev pub billed_in_entry : ℕ → ℕ → Entry → ℕ
billed_in_entry x p e = if names e.ran x && names e.billed p then length_of e else 0

-- and what of that was critical
abbrev pub critical_in_entry : ℕ → ℕ → Entry → ℕ
critical_in_entry x p e = if names e.ran x && (names e.billed p && e.critical) then length_of e else 0

-- the same of all entries
abbrev pub billed_time : List Entry → ℕ → ℕ → ℕ
billed_time h x p = sum_by (billed_in_entry x p) h

abbrev pub critical_thread_time : List Entry → ℕ → ℕ → ℕ
critical_thread_time h x p = sum_by (critical_in_entry x p) h

-- ---- of all threads

abbrev pub no_bills : Usage
no_bills = record { used = replicate most_partitions 0; critical = replicate most_partitions 0 }

-- what thread x ran on the bill of partition p
abbrev pub bill_at : List Usage → ℕ → ℕ → ℕ
bill_at bills x p = slice_index (slice_index_or bills x no_bills).used p

-- and what of that was critical
abbrev pub critical_on_bill : List Usage → ℕ → ℕ → ℕ
critical_on_bill bills x p = slice_index (slice_index_or bills x no_bills).critical p

-- these are the bills of all threads, and have a place for each number
pub record AreBills (h : List Entry) (bills : List Usage) : Type 0 where
  pub count : length bills ≡ most_threads
  pub each : (x p : ℕ) → x < most_threads → p < most_partitions → bill_at bills x p ≡ billed_time h x p
  pub critical : (x p : ℕ) → x < most_threads → p < most_partitions → critical_on_bill bills x p ≡ critical_thread_time h x p

-- the entry's time was added to its thread's bill
pub record AreBilled (before : List Usage) (e : Entry) (after : List Usage) : Type 0 where
  pub count : length after ≡ length before
  pub each : (x p : ℕ) → x < most_threads → p < most_partitions → bill_at after x p ≡ bill_at before x p + billed_in_entry x p e
  pub critical : (x p : ℕ) → x < most_threads → p < most_partitions
      → critical_on_bill after x p ≡ critical_on_bill before x p + critical_in_entry x p e
  pub small : (most x : ℕ) → x < most_threads → IsAtMost most (slice_index_or before x no_bills)
      → IsAtMost (most + length_of e) (slice_index_or after x no_bills)

-- the time of one entry more can be added to each
pub record BillsHaveRoom (bills : List Usage) : Type 0 where
  pub count : length bills ≡ most_threads
  pub each : (x : ℕ) → x < most_threads → IsAtMost (2 ^ 63) (slice_index_or bills x no_bills)
