-- Who may be flagged.
use Rattle.std.specs.Prelude.{◌≡◌, ℕ, ◌+◌, ◌-◌, ◌*◌, ◌<◌, ◌≤◌, ◌&&◌, not, nat_eq, nat_lt, min, length, slice_index, ⊤, List, Bool, false, if◌then◌else◌, Option, Some, None}
use Rattle.std.specs.List.{fold, range_with_len}
use Rattle.aps_model.specs.declared.entry.Entry.{Entry}
use Rattle.aps_model.specs.declared.merit.Contender.{Contender}
use Rattle.aps_model.specs.declared.merit.PartFacts.{PartFacts}
use Rattle.aps_model.specs.declared.merit.Rank.{Rank}
use Rattle.aps_model.specs.declared.merit.Rank.TheVariants.{Idle, Running}
use Rattle.aps_model.specs.declared.shape.Free.{Free}
use Rattle.aps_model.specs.declared.shape.Free.TheVariants.{Priority, Ratio}
use Rattle.aps_model.specs.declared.state.Pick.{Pick}
use Rattle.aps_model.specs.Due.{due}
use Rattle.aps_model.specs.Flag.{lower_ranked, merit_now}
use Rattle.aps_model.specs.Limits.{greatest_priority, last_cpu, most_cpus}
use Rattle.aps_model.specs.Merit.{is_greater}
use Rattle.aps_model.specs.Pick.{greatest, merit_among}
use Rattle.aps_model.specs.SchedulerState.{SchedulerState, cpu_at}
use Rattle.aps_core.specs.declared.classes.Classes.{Classes}
use Rattle.aps_core.specs.declared.posts.Post.{Post}
use Rattle.aps_core.specs.Classes.{AreClasses}
use Rattle.aps_core.specs.NextDues.{AreOthersDues, AreSpare}
use Rattle.aps_core.specs.Posts.{AreHigh, ArePosts}

-- the rank of a processor that runs this, for whomever it may be flagged
abbrev pub rank_now : SchedulerState → List PartFacts → Option Pick → Rank
rank_now s parts None = Idle
rank_now s parts (Some pick) = Running (merit_now s parts pick.thread).class (merit_now s parts pick.thread).priority

-- the same of another processor that isn't due yet
abbrev pub ranked_at : SchedulerState → List Entry → List PartFacts → ℕ → ℕ → ℕ → Option Rank
ranked_at s h parts c now d =
    if not (nat_eq d c) && nat_lt now (due s h d) then Some (rank_now s parts (cpu_at s d).running) else None

-- what a look at the other processors rests on: what is kept of what they run goes by the state, its keys and the classes by how the
-- partitions stand, and the dues by these entries
pub record CanLook (s : SchedulerState) (h : List Entry) (parts : List PartFacts) (c now : ℕ)
    (kept : List Post) (by : Classes) (row : List ℕ) : Type 0 where
  pub posts : ArePosts s kept
  pub classes : AreClasses parts by
  pub high : AreHigh by kept
  pub dues : AreOthersDues s h c row
  pub spare : AreSpare s row
  pub own : slice_index row c ≤ now

-- of the first processors the one of least rank, the later of equal ones
abbrev pub lowest : SchedulerState → List Entry → List PartFacts → ℕ → ℕ → ℕ → Option (ℕ × Rank)
lowest s h parts c now count = fold (λ best d. lower_ranked d (ranked_at s h parts c now d) best) None (range_with_len 0 count)

-- where threads of this class and priority stand: the class counts first
abbrev pub height_of : Bool → ℕ → ℕ
height_of first priority = (if first then 257 else 1) + priority

-- where a processor of this rank stands: an idle one stands lowest
abbrev pub height : Rank → ℕ
height Idle = 0
height (Running class priority) = height_of (nat_eq class 1) priority

-- past the height of every rank, and past the key of every processor that has one
abbrev pub height_past_all : ℕ
height_past_all = 1000

abbrev pub key_past_all : ℕ
key_past_all = 16000

-- the processor d of this rank, if it has one, has this key: the lesser the lower it stands, and of equal ones the later it comes
abbrev pub IsKey : Option Rank → ℕ → ℕ → Type 0
IsKey None d key = key_past_all ≤ key
IsKey (Some rank) d key = key ≡ height rank * most_cpus + (last_cpu - d)

-- the class and the priority of a rank have their ranges
abbrev pub IsRank : Option Rank → Type 0
IsRank None = ⊤
IsRank (Some Idle) = ⊤
IsRank (Some (Running class priority)) = (class ≤ 1) × (priority ≤ greatest_priority)

-- the processor and the height are those of this one, if there is one; else the height is past all ranks
abbrev pub IsFoundLowest : Option (ℕ × Rank) → ℕ → ℕ → Type 0
IsFoundLowest None d least = least ≡ height_past_all
IsFoundLowest (Some best) d least = (best.0 ≡ d) × (least ≡ height best.1) × IsRank (Some best.1)

-- this is the least key of the first processors, among which this one, if there is one, is lowest
abbrev pub IsLeastKey : Option (ℕ × Rank) → ℕ → ℕ → Type 0
IsLeastKey None count least = least ≡ key_past_all
IsLeastKey (Some best) count least = (best.0 < count) × (least ≡ height best.1 * most_cpus + (last_cpu - best.0)) × IsRank (Some best.1)

-- the same, among as many of the first as there are
abbrev pub IsLeastOf : SchedulerState → List Entry → List PartFacts → ℕ → ℕ → ℕ → ℕ → Type 0
IsLeastOf s h parts c now count least = IsLeastKey (lowest s h parts c now (min count (length s.cpus))) (min count (length s.cpus)) least

-- a processor is flagged for a candidate of this class and priority where it stands lower than this; under the policy by ratio
-- only an idle one is for a candidate of class 0
abbrev pub limit : Free → Bool → ℕ → ℕ
limit Priority first priority = height_of first priority
limit Ratio first priority = if first then height_of first priority else 1

-- the greatest candidate among these is not greater than this one; and there is none where this is nobody
abbrev pub IsNoLess : Free → List PartFacts → List Contender → Option Contender → Type 0
IsNoLess free parts cs None = greatest free parts cs ≡ None
IsNoLess free parts cs (Some best) =
    (c : Contender) → greatest free parts cs ≡ Some c → is_greater free (merit_among parts c) (merit_among parts best) ≡ false
