-- A whole text, read by computing.
use Rattle.std.specs.Prelude.{ℕ, zero, suc, ◌-◌, List, [], ◌∷◌, length, take, Bool, true, false, Option, Some, None, Result, Ok, Err}
use Rattle.aps_model.specs.declared.entry.Entry.{Entry}
use Rattle.aps_text.specs.Reader.{◌>>=◌}
use Rattle.aps_text.specs.Line.{line_at}
use Rattle.aps_text.specs.Place.{Place, place_after_bytes}

-- the entries of at most so many lines, or the text from the first byte on that no journal goes on with
abbrev pub lines_at : ℕ → List ℕ → Result (List Entry) (List ℕ)
lines_at zero bytes = Ok []
lines_at (suc lines) [] = Ok []
lines_at (suc lines) (c ∷ cs) = do
  line ← line_at (c ∷ cs)
  others ← lines_at lines line.1
  Ok (line.0 ∷ others)

-- a line has bytes, so there are no more lines than bytes
abbrev pub journal_at : List ℕ → Result (List Entry) (List ℕ)
journal_at bytes = lines_at (length bytes) bytes

-- whether nothing but the end of the text stopped the reading
abbrev pub reads_on : Result (List Entry) (List ℕ) → Bool
reads_on (Ok entries) = true
reads_on (Err []) = true
reads_on (Err (c ∷ cs)) = false

-- whether some journal begins with these bytes
abbrev pub begins_journal : List ℕ → Bool
begins_journal bytes = reads_on (journal_at bytes)

abbrev pub place_of : List ℕ → Result (List Entry) (List ℕ) → Option Place
place_of bytes (Ok entries) = None
place_of bytes (Err rest) = Some (place_after_bytes (take (length bytes - length rest) bytes))

-- where the text is bad first, if it is no journal
abbrev pub first_bad_place : List ℕ → Option Place
first_bad_place bytes = place_of bytes (journal_at bytes)
