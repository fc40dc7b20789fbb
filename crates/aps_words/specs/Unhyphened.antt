-- Options whose values begin with no hyphen, unless they stand behind `=`.
use Rattle.std.specs.Prelude.{◌==◌, Bool, false, List, [], ◌∷◌, ◌++◌, Option, Some, None, if◌then◌else◌}
use Rattle.aps_words.specs.Command.{◌>>=◌}
use Rattle.aps_words.specs.Options.{Text, Given, option_begun, option_of, option_value}

-- the word begins with a hyphen (45), and is more than that
abbrev pub is_hyphened : Text → Bool
is_hyphened [] = false
is_hyphened (c ∷ []) = false
is_hyphened (c ∷ d ∷ cs) = c == 45

-- the options that the words give behind those given already, as `options_after` has them, but that a hyphened word is no
-- value for the option that waits for one
unfoldable pub unhyphened_after : List Text → List Given → Option Text → List Text → Option (List Given)
unhyphened_after names given None [] = Some given
unhyphened_after names given (Some name) [] = None
unhyphened_after names given None (word ∷ words) =
    option_begun names given (option_of word) (λ more waiting. unhyphened_after names more waiting words)
unhyphened_after names given (Some name) (word ∷ words) =
    if is_hyphened word then None else unhyphened_after names (given ++ (name, word) ∷ []) None words

-- the options that the words are, each of one of these names, at most once, and with its value: behind `=`, or as the next
-- word, which isn't hyphened
abbrev pub unhyphened_options : List Text → List Text → Option (List Given)
unhyphened_options names words = unhyphened_after names [] None words

-- what options of these names say, by the words behind the command's own
abbrev pub with_unhyphened : {A : Type 0} → List Text → ((Text → Option Text) → Option A) → List Text → Option A
with_unhyphened names by words = unhyphened_options names words >>= λ given. by (option_value given)
