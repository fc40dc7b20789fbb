-- How entries lie to the boundaries of ticks.
use Rattle.std.specs.Prelude.{◌≡◌, ◌≢◌, ℕ, ◌+◌, ◌*◌, ◌/◌, ◌%◌, ◌<◌, ◌≤◌, ◌⊎◌, List, [], ◌∷◌, Bool, true, false, ◌&&◌, nat_eq, Some, IsTrue}
use Rattle.std.specs.List.{list_any}
use Rattle.aps_model.specs.declared.entry.Entry.{Entry}
use Rattle.laws_runs.specs.Moments.{moment}
use Rattle.aps_model.specs.After.{is_at_horizon}
use Rattle.aps_model.specs.Due.{last_to}
use Rattle.aps_model.specs.SchedulerState.{SchedulerState}

-- some entry ends at this moment
abbrev pub is_met : List Entry → ℕ → Bool
is_met h now = list_any (λ (e : Entry). nat_eq e.to now) h

-- an entry of the processor ends at this moment
abbrev pub steps_at : List Entry → ℕ → ℕ → Bool
steps_at h c now = list_any (λ (e : Entry). nat_eq e.cpu c && nat_eq e.to now) h

-- each processor has stepped at every boundary that it has passed, every one at each that the run has passed, and at
-- the end of the run every one at each there is
pub record MeetsBoundaries (s : SchedulerState) (h : List Entry) : Type 0 where
  pub own : (c k z : ℕ) → last_to h c ≡ Some z → k * s.shape.tick ≤ z → IsTrue (steps_at h c (k * s.shape.tick))
  pub each : (c k : ℕ) → c < s.shape.cpus → k * s.shape.tick < moment h → IsTrue (steps_at h c (k * s.shape.tick))
  pub whole : is_at_horizon s h ≡ true → (c k : ℕ) → c < s.shape.cpus → k ≤ s.shape.ticks → IsTrue (steps_at h c (k * s.shape.tick))

-- how many ticks have begun
abbrev pub ticks_begun : ℕ → List Entry → ℕ
ticks_begun tick [] = 0
ticks_begun tick (e ∷ es) = moment (e ∷ es) / tick + 1

-- the next entry ends at the last moment, or later where nobody has met its end. It ends in the last tick that has begun,
-- which is the one of its beginning if it ends inside it; at a boundary that nobody has met it begins the next one.
pub record EndsInTick (tick : ℕ) (h : List Entry) (e : Entry) : Type 0 where
  pub again : is_met h e.to ≡ true → (e.to ≡ moment h) × (e.to / tick + 1 ≡ ticks_begun tick h)
  pub later : is_met h e.to ≡ false → ((h ≡ []) × (e.to ≡ 0)) ⊎ (moment h < e.to)
  pub inside : e.to % tick ≢ 0 → (e.to / tick + 1 ≡ ticks_begun tick h) × (e.to / tick ≡ e.from / tick)
  pub begins : e.to % tick ≡ 0 → is_met h e.to ≡ false → e.to / tick ≡ ticks_begun tick h
