-- Lines in which threads stand: 16 words for each, a bit for each thread.
use Rattle.std.specs.Prelude.{◌≡◌, ℕ, ◌+◌, ◌*◌, ◌/◌, ◌%◌, ◌≤◌, Bool, true, List, slice_index_or, Option, Some, None}
use Rattle.aps_model.specs.Limits.{last_thread}
use Rattle.aps_levels.specs.declared.bits.Bits64.{Bits64}
use Rattle.aps_levels.specs.Bits.{set_has}
use Rattle.aps_timer.specs.Sleepers.{SleepsUntil}

-- the words that a line has
abbrev pub words_of_line : ℕ
words_of_line = 16

abbrev pub no_bits : Bits64
no_bits = record { word = 0 }

-- the thread stands in the line
abbrev pub stands_in : List Bits64 → ℕ → ℕ → Bool
stands_in lines line x = set_has (slice_index_or lines (words_of_line * line + x / 64) no_bits) (x % 64)

-- thread x as it sleeps until this moment, if it does
abbrev pub sleeper_of : ℕ → Option ℕ → Option (ℕ × ℕ)
sleeper_of x None = None
sleeper_of x (Some until) = Some (until, x)

-- a sleeper of the row that has a bit of this word
pub record IsOfWord (row : List (Option ℕ)) (bits : Bits64) (word : ℕ) (s : ℕ × ℕ) : Type 0 where
  pub asleep : SleepsUntil row s.1 s.0
  pub place : s.1 / 64 ≡ word
  pub bit : set_has bits (s.1 % 64) ≡ true

-- a sleeper of the row that stands in this line
pub record IsOfLine (row : List (Option ℕ)) (lines : List Bits64) (line : ℕ) (s : ℕ × ℕ) : Type 0 where
  pub asleep : SleepsUntil row s.1 s.0
  pub few : s.1 ≤ last_thread
  pub stands : stands_in lines line s.1 ≡ true
