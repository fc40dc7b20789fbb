-- What is told of one partition over all windows. Times are ns.
use Rattle.std.specs.Prelude.{ℕ, ◌+◌, ◌-◌, slice_index, slice_index_or, Bool, false, not, ◌&&◌, nat_eq, nat_lt, if◌then◌else◌, Option, Some, None}
use Rattle.std.specs.List.{sum_by, range_with_len}
use Rattle.view_samples.specs.declared.sample.Sample.{Sample}
use Rattle.view_samples.specs.Sample.{is_changed}
use Rattle.view_shares.specs.declared.share.Amount.{Amount}
use Rattle.view_shares.specs.declared.share.Counts.{Counts}
use Rattle.view_shares.specs.declared.share.Share.{Share}
use Rattle.view_shares.specs.declared.share.Shortfall.{Shortfall}
use Rattle.view_shares.specs.declared.share.Used.{Used}
use Rattle.aps_model.specs.Limits.{most_partitions}

-- one more where it is so
abbrev pub counted_if : ℕ → Bool → ℕ
counted_if count is_so = if is_so then count + 1 else count

-- the first that no other beats, after one more
abbrev pub first_best : {A : Type 0} → (A → A → Bool) → Option A → A → A
first_best beats None new = new
first_best beats (Some best) new = if beats new best then new else best

-- the same, where that one counts
abbrev pub with_one : {A : Type 0} → (A → A → Bool) → Option A → A → Bool → Option A
with_one beats best new counts = if counts then Some (first_best beats best new) else best

-- ---- what a window has of partition p

-- the first tick of the window
abbrev pub first_tick : Sample → ℕ
first_tick sample = sample.tick + 1 - sample.window

abbrev pub used_in_sample : ℕ → Sample → Used
used_in_sample p sample = record {
  used = slice_index sample.usage.used p;
  allowance = slice_index sample.allowance p;
  window = first_tick sample;
}

-- one stands higher above its allowance, or less far below it, than the other
abbrev pub is_more : Used → Used → Bool
is_more a b = nat_lt (b.used + a.allowance) (a.used + b.allowance)

abbrev pub is_less : Used → Used → Bool
is_less a b = is_more b a

abbrev pub free_in : ℕ → Sample → Amount
free_in p sample = record { ns = slice_index sample.free p; window = first_tick sample }

abbrev pub critical_in_sample : ℕ → Sample → Amount
critical_in_sample p sample = record { ns = slice_index sample.usage.critical p; window = first_tick sample }

-- what it used beyond its allowance, its critical time and its free time
abbrev pub beyond_in : ℕ → Sample → Amount
beyond_in p sample = record {
  ns = slice_index sample.usage.used p - slice_index sample.allowance p - slice_index sample.usage.critical p - slice_index sample.free p;
  window = first_tick sample;
}

abbrev pub is_greater_amount : Amount → Amount → Bool
is_greater_amount a b = nat_lt b.ns a.ns

-- more than a partition may take from another, in ns
abbrev pub most_taken_by_one : ℕ
most_taken_by_one = 40000000000000000000

-- what partition q may take from p: its critical time, and with an allowance one tick of all processors; nothing from itself
abbrev pub time_taken_by : ℕ → ℕ → Sample → ℕ → ℕ
time_taken_by turn p sample q =
    if nat_eq q p then 0
    else if nat_eq (slice_index sample.allowance q) 0 then slice_index sample.usage.critical q
    else slice_index sample.usage.critical q + turn

-- what the other partitions may take
abbrev pub others_of : ℕ → ℕ → Sample → ℕ
others_of turn p sample = sum_by (time_taken_by turn p sample) (range_with_len 0 most_partitions)

-- by how much it fell short of its allowance, beside what the others may take
abbrev pub shortfall_in : ℕ → ℕ → Sample → Shortfall
shortfall_in turn p sample = record {
  ns = slice_index sample.allowance p - slice_index sample.usage.used p;
  others = others_of turn p sample;
  window = first_tick sample;
}

abbrev pub is_shorter : Shortfall → Shortfall → Bool
is_shorter a b = nat_lt b.ns a.ns

-- the window is unchanged, and the partition always had a candidate in it
abbrev pub is_asked : ℕ → Sample → Bool
is_asked p sample = sample.unchanged && slice_index_or sample.demand p false

-- at some pick it wasn't in budget
abbrev pub has_had : ℕ → Sample → Bool
has_had p sample = slice_index_or sample.had p false

-- ---- one window more

abbrev pub no_counts : Counts
no_counts = record { full = 0; unchanged = 0; steady = 0 }

abbrev pub counts_with : Counts → Sample → Counts
counts_with counts sample = record {
  full = counted_if counts.full sample.full;
  unchanged = counted_if counts.unchanged sample.unchanged;
  steady = counted_if counts.steady sample.steady;
}

abbrev pub no_share : Share
no_share =
    record { most = None; free = None; critical = None; beyond = None; demand = 0; had = 0; least = None; changed = None; short = None }

-- all processors together have so much time in a tick
abbrev pub share_with : ℕ → ℕ → Share → Sample → Share
share_with turn p share sample = record {
  most = with_one is_more share.most (used_in_sample p sample) sample.unchanged;
  free = with_one is_greater_amount share.free (free_in p sample) sample.full;
  critical = with_one is_greater_amount share.critical (critical_in_sample p sample) sample.full;
  beyond = with_one is_greater_amount share.beyond (beyond_in p sample) sample.unchanged;
  demand = counted_if share.demand (is_asked p sample);
  had = counted_if share.had (is_asked p sample && has_had p sample);
  least = with_one is_less share.least (used_in_sample p sample) (is_asked p sample);
  changed = with_one is_more share.changed (used_in_sample p sample) (is_changed sample);
  short = with_one is_shorter share.short (shortfall_in turn p sample) (is_asked p sample && not (has_had p sample));
}
