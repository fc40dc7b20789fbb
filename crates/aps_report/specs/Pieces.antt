use Rattle.std.specs.Prelude.{◌≡◌, ℕ, ◌≤◌, List, ◌++◌, length, take, Option}
use Rattle.std.specs.Io.KnownBytes.{Appends}

-- a piece that has so many bytes is written
abbrev pub full_piece : ℕ
full_piece = 65536

-- a piece has room for so many bytes: one that isn't full, and one more line
abbrev pub piece_room : ℕ
piece_room = 65623

-- the front of what waited was written, and the rest still waits
pub record IsMoved (old new : Option (List ℕ)) (before after : List ℕ) : Type 0 where
  pub front : List ℕ
  pub written : Appends old new front
  pub rest : before ≡ front ++ after

-- so many bytes of the text were written
pub record IsPrefixWritten (old new : Option (List ℕ)) (text : List ℕ) : Type 0 where
  pub count : ℕ
  pub within : count ≤ length text
  pub written : Appends old new (take count text)
