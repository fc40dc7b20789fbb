-- The kinds of pick.
use Rattle.std.specs.Prelude.{ℕ, ◌/◌, ◌++◌, Bool, true, false, if◌then◌else◌, List, [], ◌∷◌, Some, None}
use Rattle.aps_model.specs.declared.entry.Entry.{Entry}
use Rattle.aps_model.specs.After.{state_after}
use Rattle.aps_model.specs.Budget.{part_facts}
use Rattle.aps_model.specs.Scenario.{Scenario}
use Rattle.aps_model.specs.SchedulerState.{cpu_at}
use Rattle.aps_model.specs.Tiled.{last_pick, through_last}
use Rattle.laws_runs.specs.Moments.{moment}
use Rattle.laws_runs.specs.Window.{Kept, kept_if, pair_kept}
use Rattle.laws_bounds.specs.Picks.{wide_at}

-- nobody is picked; or a thread whose partition is in budget; or one critically; or else a thread of class 0, which
-- runs in time that nobody else has a better right to
pub data Kind : Type 0 where
  idle : Kind
  funded : Kind
  critical : Kind
  free : Kind

-- the partition is in budget in the state that this history leaves, at its last moment
abbrev pub is_funded : Scenario → List Entry → ℕ → Bool
is_funded scenario h p =
    let s = state_after scenario h in
    (part_facts s.shape s.rows h (moment h / s.shape.tick) p).funded

-- of what a pick fixed, by whether its partition is in budget then
abbrev pub kind_by : (ℕ → Bool) → Kept → Kind
kind_by test None = idle
kind_by test (Some k) = if test k.0 then funded else if k.1 then critical else free

-- the kind of the entry's pick; these are the entries before it
abbrev pub kind_of : Scenario → List Entry → Entry → Kind
kind_of scenario before e = kind_by (is_funded scenario (before ++ e ∷ [])) (wide_at scenario before e).keeps

-- the partition and the mark that the processor's last pick fixed
abbrev pub last_keeps : Scenario → List Entry → ℕ → Kept
last_keeps scenario h c =
    kept_if (last_pick h c) (pair_kept (cpu_at (state_after scenario (through_last c h)) c).running)

-- the kind of the processor's last pick
abbrev pub last_kind : Scenario → List Entry → ℕ → Kind
last_kind scenario h c = kind_by (is_funded scenario (through_last c h)) (last_keeps scenario h c)

-- the pick is of a thread of class 1: one whose partition is in budget, or a critical one
abbrev pub is_served : Kind → Bool
is_served idle = false
is_served funded = true
is_served critical = true
is_served free = false

abbrev pub is_free : Kind → Bool
is_free idle = false
is_free funded = false
is_free critical = false
is_free free = true
