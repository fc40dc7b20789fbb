-- What is told of all partitions over the windows of a history.
use Rattle.std.specs.Prelude.{◌≡◌, ℕ, ◌*◌, ◌<◌, ◌≤◌, List, slice_index_or}
use Rattle.std.specs.List.{fold, range_with_len}
use Rattle.aps_model.specs.Limits.{last_tick, most_partitions}
use Rattle.aps_model.specs.declared.entry.Entry.{Entry}
use Rattle.aps_model.specs.declared.shape.Shape.{Shape}
use Rattle.aps_model.specs.Loaded.{finished_ticks}
use Rattle.aps_model.specs.Scenario.{Scenario}
use Rattle.view_samples.specs.Sample.{sample_of}
use Rattle.view_shares.specs.declared.share.Counts.{Counts}
use Rattle.view_shares.specs.declared.share.Share.{Share}
use Rattle.view_shares.specs.declared.shares.Shares.{Shares}
use Rattle.view_shares.specs.Share.{counts_with, no_counts, no_share, share_with}

-- the time of all processors in a tick
abbrev pub tick_of_all : Shape → ℕ
tick_of_all shape = shape.cpus * shape.tick

-- over the samples of the first n ticks
unfoldable pub counts_up_to : Scenario → List Entry → ℕ → Counts
counts_up_to scenario h n = fold (λ counts j. counts_with counts (sample_of scenario h j)) no_counts (range_with_len 0 n)

unfoldable pub share_up_to : Scenario → List Entry → ℕ → ℕ → Share
share_up_to scenario h p n =
    fold (λ share j. share_with (tick_of_all scenario.shape) p share (sample_of scenario h j)) no_share (range_with_len 0 n)

-- over the samples of all finished ticks
abbrev pub counts_of : Scenario → List Entry → Counts
counts_of scenario h = counts_up_to scenario h (finished_ticks scenario.shape h)

abbrev pub share_of : Scenario → List Entry → ℕ → Share
share_of scenario h p = share_up_to scenario h p (finished_ticks scenario.shape h)

-- this is so after the samples of the first n ticks
pub record AreUpTo (scenario : Scenario) (h : List Entry) (n : ℕ) (shares : Shares) : Type 0 where
  pub counts : shares.counts ≡ counts_up_to scenario h n
  pub each : (p : ℕ) → p < most_partitions → slice_index_or shares.each p no_share ≡ share_up_to scenario h p n

-- so much can be counted on
pub record IsFew (share : Share) : Type 0 where
  pub demand : share.demand ≤ last_tick
  pub had : share.had ≤ last_tick

pub record AreFewCounts (counts : Counts) : Type 0 where
  pub full : counts.full ≤ last_tick
  pub unchanged : counts.unchanged ≤ last_tick
  pub steady : counts.steady ≤ last_tick

pub record AreFewShares (shares : Shares) : Type 0 where
  pub counts : AreFewCounts shares.counts
  pub each : (p : ℕ) → p < most_partitions → IsFew (slice_index_or shares.each p no_share)
