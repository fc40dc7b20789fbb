-- What each processor runs, as far as its rank goes by it, kept from step to step.
use Rattle.std.specs.Prelude.{◌≡◌, ◌≢◌, ℕ, ◌+◌, ◌-◌, ◌*◌, ◌<◌, ◌≤◌, ◌%◌, nat_lt, if◌then◌else◌, List, length, slice_index_or, Option, Some, None}
use Rattle.aps_model.specs.declared.state.Facts.{Facts}
use Rattle.aps_model.specs.declared.state.Pick.{Pick}
use Rattle.aps_model.specs.Inherit.{facts_of}
use Rattle.aps_model.specs.Limits.{greatest_priority, last_cpu, last_partition, most_cpus, most_partitions}
use Rattle.aps_model.specs.SchedulerState.{SchedulerState, cpu_at}
use Rattle.aps_levels.specs.Bits.{set_has}
use Rattle.aps_core.specs.declared.classes.Classes.{Classes}
use Rattle.aps_core.specs.declared.posts.Post.{Post}
use Rattle.aps_levels.specs.Levels.{level_count}
use Rattle.aps_ready.specs.Group.{group_count}

-- the values now of the thread that a processor runs, if it runs one
abbrev pub facts_now : SchedulerState → Option Pick → Option Facts
facts_now s None = None
facts_now s (Some p) = Some (facts_of s p.thread)

-- this is kept of a thread with these values: its group, and where it stands if the group is of class 0
pub record IsPostOf (facts : Facts) (post : Post) : Type 0 where
  pub below : post.group < group_count
  pub partition : post.group % most_partitions ≡ facts.partition
  pub critical : nat_lt last_partition post.group ≡ facts.critical
  pub base : post.base ≡ 1 + facts.priority
  pub more : post.more ≡ level_count
  pub few : facts.priority ≤ greatest_priority

-- and this where there is none
pub record IsIdlePost (post : Post) : Type 0 where
  pub group : post.group ≡ 0
  pub base : post.base ≡ 0
  pub more : post.more ≡ 0

abbrev pub IsPost : Option Facts → Post → Type 0
IsPost None post = IsIdlePost post
IsPost (Some facts) post = IsPostOf facts post

abbrev pub no_post : Post
no_post = record { group = 0; base = 0; more = 0; key = 0 }

abbrev pub post_at : List Post → ℕ → Post
post_at posts d = slice_index_or posts d no_post

-- that of each processor is kept
abbrev pub ArePosts : SchedulerState → List Post → Type 0
ArePosts s posts = (d : ℕ) → d < length s.cpus → IsPost (facts_now s (cpu_at s d).running) (post_at posts d)

-- that of each but one
abbrev pub AreOthersPosts : SchedulerState → ℕ → List Post → Type 0
AreOthersPosts s c posts = (d : ℕ) → d < length s.cpus → d ≢ c → IsPost (facts_now s (cpu_at s d).running) (post_at posts d)

-- what is kept has its ranges
pub record IsSmallPost (post : Post) : Type 0 where
  pub group : post.group < group_count
  pub base : post.base ≤ level_count
  pub more : post.more ≤ level_count

-- that of each processor has
abbrev pub AreSmall : List Post → Type 0
AreSmall posts = (d : ℕ) → d < most_cpus → IsSmallPost (post_at posts d)

-- where the thread stands by these classes
abbrev pub height_by : Classes → Post → ℕ
height_by classes post = if set_has classes.first post.group then post.base + post.more else post.base

-- what is kept of the processor d has its ranges, and its key goes by these classes
pub record IsHigh (classes : Classes) (d : ℕ) (post : Post) : Type 0 where
  pub small : IsSmallPost post
  pub same : post.key ≡ height_by classes post * most_cpus + (last_cpu - d)

-- that of each processor
abbrev pub AreHigh : Classes → List Post → Type 0
AreHigh classes posts = (d : ℕ) → d < most_cpus → IsHigh classes d (post_at posts d)
