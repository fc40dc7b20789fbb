-- The life of a thread: what it does over time, from 0 to the end of the last entry.
use Rattle.std.specs.Prelude.{◌≡◌, ℕ, ◌-◌, ◌<◌, ◌++◌, List, [], ◌∷◌, length, slice_index_or, slice_set, Bool, nat_lt, ◌&&◌, if◌then◌else◌}
use Rattle.aps_model.specs.declared.entry.Entry.{Entry}
use Rattle.aps_model.specs.After.{state_after}
use Rattle.aps_model.specs.Scenario.{Scenario}
use Rattle.aps_model.specs.SchedulerState.{SchedulerState}
use Rattle.laws_runs.specs.Moments.{moment}
use Rattle.view_lives.specs.declared.doing.Doing.{Doing}
use Rattle.view_lives.specs.declared.doing.Doing.TheVariants.{Gone}
use Rattle.view_lives.specs.declared.life.Segment.{Segment}
use Rattle.view_lives.specs.Doing.{doing_of, is_same_doing}

-- ---- a life with one piece more

-- what is read where there is no segment
abbrev pub no_segment : Segment
no_segment = record { from = 0; to = 0; doing = Gone }

abbrev pub last_of : List Segment → Segment
last_of life = slice_index_or life (length life - 1) no_segment

-- the life ends with the same
abbrev pub goes_on : List Segment → Doing → Bool
goes_on life doing = nat_lt 0 (length life) && is_same_doing (last_of life).doing doing

-- the life with its last segment up to this moment
abbrev pub lengthened : List Segment → ℕ → List Segment
lengthened life moment = slice_set life (length life - 1) (record (last_of life) { to = moment })

-- a piece lengthens the last segment where that is of the same, and is a segment of its own where it isn't
abbrev pub joined_segment : List Segment → Segment → List Segment
joined_segment life piece = if goes_on life piece.doing then lengthened life piece.to else life ++ piece ∷ []

-- a piece that lasts no time is left out
abbrev pub with_piece : List Segment → Segment → List Segment
with_piece life piece = if nat_lt piece.from piece.to then joined_segment life piece else life

-- ---- the life by the entries

-- from where these entries end to where the next one ends, a thread does what it does after these
abbrev pub piece_of : SchedulerState → ℕ → ℕ → ℕ → Segment
piece_of s x from to = record { from = from; to = to; doing = doing_of s x }

-- the life goes on with a piece for each further entry
abbrev pub life_from : Scenario → ℕ → List Segment → List Entry → List Entry → List Segment
life_from scenario x life h [] = life
life_from scenario x life h (e ∷ es) =
    life_from scenario x (with_piece life (piece_of (state_after scenario h) x (moment h) e.to)) (h ++ e ∷ []) es

-- the life of thread x in a history
unfoldable pub life_of : Scenario → List Entry → ℕ → List Segment
life_of scenario h x = life_from scenario x [] [] h

-- these are the lives of all threads
pub record AreLives (scenario : Scenario) (h : List Entry) (lives : List (List Segment)) : Type 0 where
  pub count : length lives ≡ length scenario.threads
  pub each : (x : ℕ) → x < length scenario.threads → slice_index_or lives x [] ≡ life_of scenario h x

-- each life goes on with what its thread does in this state, from one moment to another
pub record AreLonger (s : SchedulerState) (from to : ℕ) (before after : List (List Segment)) : Type 0 where
  pub count : length after ≡ length before
  pub each : (x : ℕ) → x < length before → slice_index_or after x [] ≡ with_piece (slice_index_or before x []) (piece_of s x from to)
