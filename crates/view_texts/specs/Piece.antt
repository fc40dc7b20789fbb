-- A long text that is written piece by piece: what isn't written yet waits.
use Rattle.std.specs.Prelude.{◌≡◌, ℕ, ◌++◌, List, Option}
use Rattle.std.specs.Io.KnownBytes.{Appends}

-- this text was told: what was written, and what waits behind it, have grown by it
pub record IsTold (old new : Option (List ℕ)) (waited waits text : List ℕ) : Type 0 where
  pub piece : List ℕ
  pub written : Appends old new piece
  pub rest : waited ++ text ≡ piece ++ waits
