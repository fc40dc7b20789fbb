-- What is noted of a tick.
use Rattle.std.specs.Prelude.{◌≡◌, ℕ, ◌+◌, ◌<◌, List, replicate, Bool, false, ◌||◌, nat_le, slice_index, slice_index_or}
use Rattle.std.specs.List.{list_any}
use Rattle.aps_model.specs.declared.entry.Entry.{Entry}
use Rattle.aps_model.specs.Audit.{allowance}
use Rattle.aps_model.specs.Limits.{most_partitions}
use Rattle.aps_model.specs.Loaded.{has_starved, state_of_tick}
use Rattle.aps_model.specs.Partition.{row_or_none}
use Rattle.aps_model.specs.Scenario.{Scenario}
use Rattle.aps_model.specs.SchedulerState.{SchedulerState}
use Rattle.view_samples.specs.declared.look.Look.{Look}
use Rattle.view_samples.specs.declared.note.Note.{Note}
use Rattle.view_samples.specs.Picks.{changes_in, lacks, was_out}

-- the note of no tick
abbrev pub no_note : Note
no_note = record {
  window = 0;
  allowance = replicate most_partitions 0;
  lacking = replicate most_partitions false;
  out = replicate most_partitions false;
  starved = false;
  changed = false;
}

-- what this state says of a tick that begins with it
pub record IsBegunNote (s : SchedulerState) (note : Note) : Type 0 where
  pub window : note.window ≡ s.shape.window
  pub allowance : (p : ℕ) → p < most_partitions → slice_index note.allowance p ≡ allowance s.shape (row_or_none s.rows p).budget

-- and nothing yet of its picks
pub record IsFreshNote (s : SchedulerState) (note : Note) : Type 0 where
  pub begun : IsBegunNote s note
  pub lacking : (p : ℕ) → p < most_partitions → slice_index_or note.lacking p false ≡ false
  pub out : (p : ℕ) → p < most_partitions → slice_index_or note.out p false ≡ false
  pub starved : note.starved ≡ false
  pub changed : note.changed ≡ false

-- the look at a pick was added
pub record IsLookAdded (look : Look) (before after : Note) : Type 0 where
  pub window : after.window ≡ before.window
  pub allowance : after.allowance ≡ before.allowance
  pub lacking : (p : ℕ) → p < most_partitions
      → slice_index_or after.lacking p false ≡ (slice_index_or before.lacking p false || slice_index_or look.lacking p false)
  pub out : (p : ℕ) → p < most_partitions
      → slice_index_or after.out p false ≡ (slice_index_or before.out p false || slice_index_or look.out p false)
  pub starved : after.starved ≡ (before.starved || look.starved)
  pub changed : after.changed ≡ (before.changed || look.changed)

-- this is so of tick j: an entry has reached it, what stood then, and what its picks tell
pub record IsNote (scenario : Scenario) (h : List Entry) (j : ℕ) (note : Note) : Type 0 where
  pub begun : IsBegunNote (state_of_tick scenario h j) note
  pub lacking : (p : ℕ) → p < most_partitions → slice_index_or note.lacking p false ≡ lacks scenario h p j (j + 1)
  pub out : (p : ℕ) → p < most_partitions → slice_index_or note.out p false ≡ was_out scenario h p j (j + 1)
  pub starved : note.starved ≡ has_starved scenario.shape.tick h j (j + 1)
  pub changed : note.changed ≡ changes_in scenario h j (j + 1)

-- an entry has ended at the moment or later
abbrev pub is_reached : ℕ → List Entry → Bool
is_reached moment h = list_any (λ (e : Entry). nat_le moment e.to) h
