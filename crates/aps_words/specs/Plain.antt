-- Words that repeat no option and have no `--`.
use Rattle.std.specs.Prelude.{◌&&◌, Bool, true, not, List, [], ◌∷◌, ◌++◌, Option, Some, None}
use Rattle.std.specs.Str.{bytes_eq}
use Rattle.aps_words.specs.Options.{Text, option_of, is_known}

abbrev pub is_plain_at : List Text → Option (Text × Option Text) → (List Text → Bool) → Bool
is_plain_at seen None next = next seen
is_plain_at seen (Some option) next = not (is_known seen option.0) && next (seen ++ option.0 ∷ [])

-- no word is `--`, and no option stands twice among the words or has one of the names seen before
unfoldable pub is_plain : List Text → List Text → Bool
is_plain seen [] = true
is_plain seen (word ∷ words) =
    not (bytes_eq word (45 ∷ 45 ∷ [])) && is_plain_at seen (option_of word) (λ names. is_plain names words)
