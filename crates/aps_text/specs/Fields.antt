-- The kinds of fields of a line.
use lib.Chars.{codes}
use Rattle.std.specs.Prelude.{ℕ, Bool, true, false, List, [], ◌∷◌, Option, Some, None, Ok}
use Rattle.aps_text.specs.Reader.{◌>>=◌, ReadResult, whole_word, after_byte, number_at}

-- a number, or '-', and its stop
abbrev pub option_at : (most stop : ℕ) → List ℕ → ReadResult (Option ℕ)
option_at most stop = after_byte 45 (whole_word (stop ∷ []) None) (λ bytes. number_at most stop bytes >>= λ n. Ok (Some n.0, n.1))

-- 'c' or '-', and a space
abbrev pub mark_at : List ℕ → ReadResult Bool
mark_at = after_byte 99 (whole_word (codes " ") true) (whole_word (codes "- ") false)
