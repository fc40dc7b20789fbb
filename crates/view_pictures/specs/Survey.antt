-- What the panels say of the samples that are shown.
use Rattle.std.specs.Prelude.{◌≡◌, ℕ, ◌+◌, ◌*◌, ◌/◌, ◌<◌, Bool, false, ◌&&◌, ◌||◌, List, max, min, nat_eq, nat_lt, if◌then◌else◌, Option, Some, None, slice_index, slice_index_or}
use Rattle.std.specs.List.{fold, range_with_len}
use Rattle.aps_model.specs.Limits.{greatest_u64, most_partitions, thousandths}
use Rattle.aps_model.specs.declared.entry.Entry.{Entry}
use Rattle.aps_model.specs.Scenario.{Scenario}
use Rattle.view_samples.specs.declared.sample.Sample.{Sample}
use Rattle.view_samples.specs.Sample.{is_changed, sample_of}
use Rattle.view_pictures.specs.declared.scale.Sizes.{Sizes}
use Rattle.view_pictures.specs.declared.survey.Found.{Found}
use Rattle.view_pictures.specs.declared.survey.Peak.{Peak}
use Rattle.view_pictures.specs.declared.survey.Survey.{Survey}
use Rattle.view_pictures.specs.Scale.{scale_of}

-- two times together, or the greatest number that there is
abbrev pub times_together : ℕ → ℕ → ℕ
times_together a b = min (a + b) greatest_u64

-- all processor time of the window of a sample
abbrev pub whole_of : Sizes → Sample → ℕ
whole_of sizes sample = sizes.cpus * sample.window * sizes.tick

-- how many parts of 1,000 of the whole, rounded down
abbrev pub thousandths_of : ℕ → ℕ → ℕ
thousandths_of used whole = if nat_eq whole 0 then 0 else used * thousandths / whole

-- a tick of each processor, where anything is allowed
abbrev pub slack_of : Sizes → ℕ → ℕ
slack_of sizes allowance = if nat_lt 0 allowance then sizes.cpus * sizes.tick else 0

-- what partition p uses at most in a window without a change: what it is allowed, its critical time, its free time and the slack
abbrev pub bound_of : Sizes → Sample → ℕ → ℕ
bound_of sizes sample p =
    times_together
    (times_together (times_together (slice_index sample.allowance p) (slice_index sample.usage.critical p)) (slice_index sample.free p))
    (slack_of sizes (slice_index sample.allowance p))

-- the greatest of what is drawn of it: what it used and was allowed, and the bound where no change stands
abbrev pub highest_of : Sizes → Sample → ℕ → ℕ
highest_of sizes sample p =
    let drawn = max (slice_index sample.usage.used p) (slice_index sample.allowance p) in
    if sample.unchanged then max drawn (bound_of sizes sample p) else drawn

abbrev pub peak_of : Sizes → Sample → ℕ → Peak
peak_of sizes sample p = record {
  tick = sample.tick;
  used = slice_index sample.usage.used p;
  whole = whole_of sizes sample;
  share = thousandths_of (slice_index sample.usage.used p) (whole_of sizes sample);
}

-- the first of the greatest so far, where the peak counts
abbrev pub more : Option Peak → Peak → Bool → Option Peak
more None peak counts = if counts then Some peak else None
more (Some first) peak counts = if counts && nat_lt first.share peak.share then Some peak else Some first

-- the first of the least so far, where the peak counts
abbrev pub less : Option Peak → Peak → Bool → Option Peak
less None peak counts = if counts then Some peak else None
less (Some first) peak counts = if counts && nat_lt peak.share first.share then Some peak else Some first

abbrev pub no_found : Found
no_found = record { scale = 0; critical = false; most = None; least = None; changed = None }

-- with one sample more
abbrev pub found_with : Sizes → ℕ → Found → Sample → Found
found_with sizes p found sample = record {
  scale = max found.scale (scale_of (highest_of sizes sample p) (whole_of sizes sample));
  critical = found.critical || nat_lt 0 (slice_index sample.usage.critical p);
  most = more found.most (peak_of sizes sample p) sample.unchanged;
  least = less found.least (peak_of sizes sample p) (slice_index_or sample.demand p false);
  changed = more found.changed (peak_of sizes sample p) (is_changed sample);
}

-- ---- of so many ticks from one on

unfoldable pub found_from : Scenario → List Entry → Sizes → ℕ → ℕ → ℕ → Found
found_from scenario h sizes p from count =
    fold (λ found j. found_with sizes p found (sample_of scenario h j)) no_found (range_with_len from count)

-- how many of them are unchanged
unfoldable pub unchanged_from : Scenario → List Entry → ℕ → ℕ → ℕ
unchanged_from scenario h from count =
    fold (λ n j. if (sample_of scenario h j).unchanged then n + 1 else n) 0 (range_with_len from count)

-- the last of them whose window isn't full
unfoldable pub partial_from : Scenario → List Entry → ℕ → ℕ → Option ℕ
partial_from scenario h from count =
    fold (λ last j. if (sample_of scenario h j).full then last else Some j) None (range_with_len from count)

-- the survey tells these
pub record IsSurvey (scenario : Scenario) (h : List Entry) (sizes : Sizes) (from count : ℕ) (survey : Survey) : Type 0 where
  pub unchanged : survey.unchanged ≡ unchanged_from scenario h from count
  pub partial : survey.partial ≡ partial_from scenario h from count
  pub found : (p : ℕ) → p < most_partitions → slice_index_or survey.found p no_found ≡ found_from scenario h sizes p from count
