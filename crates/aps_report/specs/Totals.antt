use Rattle.std.specs.Prelude.{◌≡◌, ℕ, ◌+◌, ◌<◌, ◌^◌, List, length, replicate, slice_index, slice_set, if◌then◌else◌, Option, Some, None}
use Rattle.aps_model.specs.Limits.{most_partitions, most_threads}
use Rattle.aps_model.specs.declared.entry.Entry.{Entry}
use Rattle.aps_model.specs.Report.{length_of, total_billed, total_critical, total_ran, total_idle}

-- how many nanoseconds were billed to each partition, how many of these as critical, how many each thread ran,
-- and in how many nobody ran
pub record Sums : Type 0 where
  pub billed : List ℕ
  pub critical : List ℕ
  pub ran : List ℕ
  pub idle : ℕ

-- there is a place for each partition and each thread
pub record HavePlaces (sums : Sums) : Type 0 where
  pub billed : length sums.billed ≡ most_partitions
  pub critical : length sums.critical ≡ most_partitions
  pub ran : length sums.ran ≡ most_threads

abbrev pub no_sums : Sums
no_sums = record { billed = replicate most_partitions 0; critical = replicate most_partitions 0; ran = replicate most_threads 0; idle = 0 }

-- the numbers with so much added at a place, where there is one
abbrev pub added : List ℕ → Option ℕ → ℕ → List ℕ
added xs None n = xs
added xs (Some place) n = slice_set xs place (slice_index xs place + n)

-- so much where there is nobody
abbrev pub unless_some : Option ℕ → ℕ → ℕ
unless_some None n = n
unless_some (Some x) n = 0

-- the sums with one more entry
abbrev pub sums_with : Sums → Entry → Sums
sums_with sums e = record {
  billed = added sums.billed e.billed (length_of e);
  critical = added sums.critical e.billed (if e.critical then length_of e else 0);
  ran = added sums.ran e.ran (length_of e);
  idle = sums.idle + unless_some e.ran (length_of e);
}

-- the time of one more entry can be added to each
pub record HaveRoom (sums : Sums) : Type 0 where
  pub billed : (p : ℕ) → p < most_partitions → slice_index sums.billed p < 2 ^ 127
  pub critical : (p : ℕ) → p < most_partitions → slice_index sums.critical p < 2 ^ 127
  pub ran : (x : ℕ) → x < most_threads → slice_index sums.ran x < 2 ^ 127
  pub idle : sums.idle < 2 ^ 127

-- these are the sums over the entries
pub record AreSums (h : List Entry) (sums : Sums) : Type 0 where
  pub billed : (p : ℕ) → p < most_partitions → slice_index sums.billed p ≡ total_billed h p
  pub critical : (p : ℕ) → p < most_partitions → slice_index sums.critical p ≡ total_critical h p
  pub ran : (x : ℕ) → x < most_threads → slice_index sums.ran x ≡ total_ran h x
  pub idle : sums.idle ≡ total_idle h
