-- The line that separates a scenario from its journal, where both stand in one text.
use lib.Chars.{codes}
use Rattle.std.specs.Prelude.{ℕ, ◌+◌, ◌-◌, Bool, ◌&&◌, ◌||◌, List, drop, length, slice_index, nat_eq, Option}
use Rattle.std.specs.List.{find, range_with_len, starts_with}
use Rattle.std.specs.Option.{option_map}
use Rattle.aps_text.specs.declared.separator.JournalAt.{JournalAt}

-- the separating line, with its newline
abbrev pub separator : List ℕ
separator = codes "--- journal\n"

-- a line begins at this place: at the start, or after a newline
abbrev pub begins_line : List ℕ → ℕ → Bool
begins_line bytes place = nat_eq place 0 || nat_eq (slice_index bytes (place - 1)) 10

-- the separating line stands at this place
abbrev pub separates : List ℕ → ℕ → Bool
separates bytes place = begins_line bytes place && starts_with nat_eq (drop place bytes) separator

-- the length of what stands before the separating line that begins here, and where what follows it begins
abbrev pub parted_at : ℕ → JournalAt
parted_at place = record { scenario_len = place; journal_from = place + length separator }

-- the parts by the first separating line, if there is one
abbrev pub journal_place : List ℕ → Option JournalAt
journal_place bytes = option_map parted_at (find (separates bytes) (range_with_len 0 (length bytes)))
