-- Where a byte stands in a text.
use Rattle.std.specs.Prelude.{ℕ, ◌+◌, ◌==◌, List, fold, if◌then◌else◌}

-- a line, and a column in it, both counted from 1
pub record Place : Type 0 where
  pub line : ℕ
  pub column : ℕ

-- the place behind this byte: a newline ends its line
abbrev pub next_place : Place → ℕ → Place
next_place here byte =
    if byte == 10 then record { line = here.line + 1; column = 1 } else record { line = here.line; column = here.column + 1 }

-- the place of the byte that follows these
abbrev pub place_after_bytes : List ℕ → Place
place_after_bytes bytes = fold next_place (record { line = 1; column = 1 }) bytes
