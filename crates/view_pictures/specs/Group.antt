-- What is drawn of the samples of a group.
use Rattle.std.specs.Prelude.{◌≡◌, ℕ, ◌+◌, List, ◌-◌, ◌<◌, ◌≤◌, Bool, true, false, ◌&&◌, ◌||◌, max, nat_eq, nat_lt, if◌then◌else◌, slice_index, slice_index_or}
use Rattle.std.specs.List.{fold}
use Rattle.view_samples.specs.declared.sample.Sample.{Sample}
use Rattle.view_pictures.specs.declared.group.Group.{Group}
use Rattle.view_pictures.specs.declared.group.Point.{Point}
use Rattle.view_pictures.specs.declared.scale.Sizes.{Sizes}
use Rattle.view_pictures.specs.Scale.{depth_of, plot_height}
use Rattle.view_pictures.specs.Survey.{bound_of, whole_of}
use Rattle.aps_model.specs.Limits.{greatest_u64, most_partitions}

-- the point of no sample
abbrev pub no_point : Point
no_point = record {
  used = 0;
  most = greatest_u64;
  high = plot_height;
  low = 0;
  plain = plot_height;
  allowance = plot_height;
  bound = 0;
  lacking = false;
}

-- what is read past the end
abbrev pub unread_point : Point
unread_point = record { used = 0; most = 0; high = 0; low = 0; plain = 0; allowance = 0; bound = 0; lacking = false }

-- the point of one sample of partition p, where the top of its panel stands for so many parts of 1,000, and where it had no
-- candidate at some pick of the tick, or always had one
abbrev pub point_of : Sizes → ℕ → ℕ → Bool → Sample → Point
point_of sizes p top lacking sample = record {
  used = slice_index sample.usage.used p;
  most = bound_of sizes sample p;
  high = depth_of (slice_index sample.usage.used p) (whole_of sizes sample) top;
  low = depth_of (slice_index sample.usage.used p) (whole_of sizes sample) top;
  plain = depth_of (slice_index sample.usage.used p - slice_index sample.usage.critical p) (whole_of sizes sample) top;
  allowance = depth_of (slice_index sample.allowance p) (whole_of sizes sample) top;
  bound = depth_of (bound_of sizes sample p) (whole_of sizes sample) top;
  lacking = lacking;
}

-- the usage of the one is nearer to its bound, or further beyond it, than that of the other; where they are equally near, the one
-- used more
abbrev pub is_nearer : Point → Point → Bool
is_nearer a b = nat_lt (b.used + a.most) (a.used + b.most) || nat_eq (b.used + a.most) (a.used + b.most) && nat_lt b.used a.used

-- of two groups, the second of which comes later, the one that is shown
abbrev pub nearer : Point → Point → Point
nearer point next = if is_nearer next point then next else point

-- both together: what is shown of the nearer, the least used, and whether a candidate lacked in either
abbrev pub joined_points : Point → Point → Point
joined_points point next = record (nearer point next) {
  low = max point.low next.low;
  lacking = point.lacking || next.lacking;
}

-- the point of these samples, one after the other; beside each stands whether there was no candidate at some pick of its tick
abbrev pub column_of : Sizes → ℕ → ℕ → List (Sample × Bool) → Point
column_of sizes p top samples = fold (λ point (s : Sample × Bool). joined_points point (point_of sizes p top s.1 s.0)) no_point samples

-- in this sample partition p uses no more than its bound
abbrev pub IsBounded : Sizes → ℕ → Sample × Bool → Type 0
IsBounded sizes p s = slice_index s.0.usage.used p ≤ bound_of sizes s.0 p

-- a group without samples that begins at this place
pub record IsEmptyGroup (place : ℕ) (group : Group) : Type 0 where
  pub from : group.from ≡ place
  pub end : group.end ≡ place
  pub unchanged : group.unchanged ≡ true
  pub points : (p : ℕ) → p < most_partitions → slice_index_or group.points p unread_point ≡ no_point
