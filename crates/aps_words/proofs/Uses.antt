-- The options among the words as clap takes them: a word that looks like an option is no value.
use Rattle.std.specs.Prelude.{◌==◌, ◌||◌, Bool, List, [], ◌∷◌, ◌++◌, Option, Some, None, is_some, if◌then◌else◌, option_and_then}
use Rattle.aps_words.specs.Options.{Text, Given, after_hyphen, option_of, is_known}

abbrev bundle_of_rest : Text → Option Text
bundle_of_rest [] = None
bundle_of_rest (c ∷ cs) = if c == 45 then None else Some (c ∷ cs)

-- `-abc`
abbrev pub bundle_of : Text → Option Text
bundle_of word = option_and_then bundle_of_rest (after_hyphen word)

abbrev pub looks_like_option : Text → Bool
looks_like_option word = is_some (option_of word) || is_some (bundle_of word)

abbrev pub started : List Given → Text → Option Text → (List Given → Option Text → Option (List Given)) → Option (List Given)
started done name (Some value) next = next (done ++ (name, value) ∷ []) None
started done name None next = next done (Some name)

abbrev pub met : List Text → List Given → Option (Text × Option Text) → (List Given → Option Text → Option (List Given)) → Option (List Given)
met names done None next = None
met names done (Some p) next = if is_known names p.0 then started done p.0 p.1 next else None

-- the options in order, each with its value, or nothing where a word is no option or a value is missing
unfoldable pub uses : List Text → List Given → Option Text → List Text → Option (List Given)
uses names done None [] = Some done
uses names done (Some name) [] = None
uses names done None (word ∷ words) = met names done (option_of word) (λ d p. uses names d p words)
uses names done (Some name) (word ∷ words) = if looks_like_option word then None else uses names (done ++ (name, word) ∷ []) None words
