-- A tick passes.
use Rattle.std.specs.Prelude.{◌≡◌, ℕ, ◌+◌, ◌<◌, Bool, false, replicate, if◌then◌else◌, slice_index, slice_index_or}
use Rattle.view_samples.specs.declared.lasts.Lasts.{Lasts}
use Rattle.view_samples.specs.declared.note.Note.{Note}
use Rattle.aps_model.specs.Limits.{most_partitions}

-- the tick after j where it was so in that
abbrev pub later : ℕ → Bool → ℕ → ℕ
later last was j = if was then j + 1 else last

abbrev pub no_lasts : Lasts
no_lasts = record { lacked = replicate most_partitions 0; out = replicate most_partitions 0; starved = 0; changed = 0 }

-- tick j passes, of which this is the note
pub record IsPassed (j : ℕ) (note : Note) (before after : Lasts) : Type 0 where
  pub lacked : (p : ℕ) → p < most_partitions
      → slice_index after.lacked p ≡ later (slice_index before.lacked p) (slice_index_or note.lacking p false) j
  pub out : (p : ℕ) → p < most_partitions → slice_index after.out p ≡ later (slice_index before.out p) (slice_index_or note.out p false) j
  pub starved : after.starved ≡ later before.starved note.starved j
  pub changed : after.changed ≡ later before.changed note.changed j
