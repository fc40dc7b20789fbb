-- A line of text for a person.
use Rattle.std.specs.Prelude.{◌≡◌, ℕ, ◌≤◌, List, length, take, map, Bool, true, ◌&&◌, nat_le, if◌then◌else◌}
use Rattle.std.specs.List.{list_all}

-- a printable byte of ASCII
abbrev pub is_shown : ℕ → Bool
is_shown byte = nat_le 32 byte && nat_le byte 126

-- the byte as it is shown: itself where it can be printed, else '?'
abbrev pub shown : ℕ → ℕ
shown byte = if is_shown byte then byte else 63

abbrev pub shown_text : List ℕ → List ℕ
shown_text text = map shown text

-- the most bytes of a line
abbrev pub most_bytes : ℕ
most_bytes = 600

-- as much of the text as a line has room for
abbrev pub cut : List ℕ → List ℕ
cut text = take most_bytes text

-- at most 600 bytes, each of which can be printed
pub record IsHintLine (text : List ℕ) : Type 0 where
  pub short : length text ≤ most_bytes
  pub printable : list_all is_shown text ≡ true
