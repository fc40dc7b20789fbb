-- What a life is, in other words: it is told by each moment alone.
use Rattle.std.specs.Prelude.{◌≡◌, ◌≢◌, ℕ, ◌<◌, ◌≤◌, List, [], ◌∷◌, nat_le, if◌then◌else◌, ⊤}
use Rattle.aps_model.specs.declared.entry.Entry.{Entry}
use Rattle.aps_model.specs.After.{state_after}
use Rattle.aps_model.specs.Scenario.{Scenario}
use Rattle.laws_runs.specs.Moments.{moment}
use Rattle.view_lives.specs.declared.doing.Doing.{Doing}
use Rattle.view_lives.specs.declared.life.Segment.{Segment}
use Rattle.view_lives.specs.Doing.{doing_of}

-- the entries up to the first that ends after a moment
abbrev pub until : ℕ → List Entry → List Entry
until m [] = []
until m (e ∷ es) = if nat_le e.to m then e ∷ until m es else []

-- what thread x does at a moment: what it does after all entries that have ended by then
abbrev pub doing_at : Scenario → List Entry → ℕ → ℕ → Doing
doing_at scenario h x m = doing_of (state_after scenario (until m h)) x

-- the segments follow each other without a gap, from one moment to another, and each lasts
abbrev pub SegmentsTile : ℕ → ℕ → List Segment → Type 0
SegmentsTile a b [] = a ≡ b
SegmentsTile a b (s ∷ life) = (s.from ≡ a) × (s.from < s.to) × SegmentsTile s.to b life

-- no two neighbours are of the same
abbrev pub NeighboursDiffer : List Segment → Type 0
NeighboursDiffer [] = ⊤
NeighboursDiffer (s ∷ []) = ⊤
NeighboursDiffer (s ∷ t ∷ life) = (s.doing ≢ t.doing) × NeighboursDiffer (t ∷ life)

-- each segment tells what is done at each of its moments
abbrev pub SegmentsTell : (ℕ → Doing) → List Segment → Type 0
SegmentsTell at [] = ⊤
SegmentsTell at (s ∷ life) = ((m : ℕ) → s.from ≤ m → m < s.to → at m ≡ s.doing) × SegmentsTell at life

-- the segments tell what is done at each moment from one to before another, and with no more segments than that takes
pub record IsWholeLife (at : ℕ → Doing) (a b : ℕ) (life : List Segment) : Type 0 where
  pub tiles : SegmentsTile a b life
  pub differ : NeighboursDiffer life
  pub told : SegmentsTell at life

-- this is the life of thread x: it tells what the thread does at each moment from 0 to the end of the last entry
abbrev pub IsLife : Scenario → List Entry → ℕ → List Segment → Type 0
IsLife scenario h x life = IsWholeLife (doing_at scenario h x) 0 (moment h) life
