-- Which ticks a picture shows of a history, and what stands in them.
use Rattle.std.specs.Prelude.{◌≡◌, ℕ, ◌+◌, ◌-◌, ◌*◌, ◌/◌, List, [], ◌∷◌, length, max, min, nat_le, if◌then◌else◌, Option, Some, None, slice_get}
use Rattle.std.specs.Int.{div_ceil}
use Rattle.aps_model.specs.declared.entry.Entry.{Entry}
use Rattle.aps_model.specs.After.{state_after}
use Rattle.aps_model.specs.History.{History}
use Rattle.aps_model.specs.Sums.{IsUsage}
use Rattle.view_samples.specs.declared.table.Ticks.{Ticks}
use Rattle.view_pictures.specs.declared.retracing.Standing.{Standing}
use Rattle.view_pictures.specs.declared.scene.Scene.{Scene}

-- where the last entry ends; 0 where there is none
abbrev pub end_by : Option Entry → ℕ
end_by None = 0
end_by (Some e) = e.to

abbrev pub end_of_entries : List Entry → ℕ
end_of_entries h = end_by (slice_get h (length h - 1))

-- before which tick the picture ends where the history ends at this moment: the one that was asked for, or the one after its
-- end; at least one tick is shown, and there is a greatest one
abbrev pub asked_end : Option ℕ → ℕ → ℕ → ℕ
asked_end (Some to) end tick = to
asked_end None end tick = div_ceil end tick

abbrev pub shown_end : Ticks → ℕ → ℕ → ℕ
shown_end ticks end tick = max (min (asked_end ticks.to end tick) 4294967296) (ticks.from + 1)

-- the entries up to the first that ends at the moment or later
abbrev pub up_to : ℕ → List Entry → List Entry
up_to moment [] = []
up_to moment (e ∷ h) = e ∷ (if nat_le moment e.to then [] else up_to moment h)

-- what stands after these
pub record IsStandingAfter (history : History) (moment : ℕ) (standing : Standing) : Type 0 where
  pub rows : standing.rows.items ≡ (state_after history.scenario (up_to moment history.entries)).rows
  pub window : standing.window ≡ (state_after history.scenario (up_to moment history.entries)).shape.window

-- where the last tick begins that is shown and that a history reached which ends at this moment
abbrev pub last_begin : ℕ → ℕ → ℕ → ℕ
last_begin to end tick = min (to - 1) (end / tick) * tick

-- what a picture of these ticks shows of the history
pub record IsScene (history : History) (ticks : Ticks) (scene : Scene) : Type 0 where
  pub from : scene.stretch.from ≡ ticks.from
  pub to : scene.stretch.to ≡ shown_end ticks (end_of_entries history.entries) history.scenario.shape.tick
  pub begins : scene.span.from ≡ scene.stretch.from * history.scenario.shape.tick
  pub ends : scene.span.to ≡ scene.stretch.to * history.scenario.shape.tick
  pub cpus : scene.cpus ≡ history.scenario.shape.cpus
  pub tick : scene.tick ≡ history.scenario.shape.tick
  pub parts : scene.parts ≡ history.scenario.shape.parts
  pub rows : scene.rows.items ≡ (state_after history.scenario history.entries).rows
  pub standing : IsStandingAfter history
      (last_begin scene.stretch.to (end_of_entries history.entries) history.scenario.shape.tick) scene.standing
  pub usage : IsUsage history.scenario.shape.tick scene.stretch.from scene.stretch.to history.entries scene.usage
