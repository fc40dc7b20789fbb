-- The options among the words behind a command word.
use Rattle.std.specs.Prelude.{ℕ, ◌==◌, ◌&&◌, Bool, not, List, [], ◌∷◌, ◌++◌, Option, Some, None, if◌then◌else◌, option_and_then}
use Rattle.std.specs.List.{list_any, before_first, after_first}
use Rattle.std.specs.Str.{bytes_eq}

abbrev pub Text : Type 0
Text = List ℕ

-- what follows a first hyphen (45)
abbrev pub after_hyphen : Text → Option Text
after_hyphen [] = None
after_hyphen (c ∷ cs) = if c == 45 then Some cs else None

-- what stands before the first `=` (61), and what stands after it, if there is one
abbrev pub name_and_value : Text → Option (Text × Option Text)
name_and_value [] = None
name_and_value (c ∷ cs) = Some (
  before_first (λ x. x == 61) (c ∷ cs),
  if list_any (λ x. x == 61) (c ∷ cs) then Some (after_first (λ x. x == 61) (c ∷ cs)) else None,
)

-- the name, and the value if it has one, of a word `--name` or `--name=value`
abbrev pub option_of : Text → Option (Text × Option Text)
option_of word = option_and_then name_and_value (option_and_then after_hyphen (after_hyphen word))

-- the name of an option that was given, and its value
abbrev pub Given : Type 0
Given = Text × Text

-- the value of an option among those given
abbrev pub option_value : List Given → Text → Option Text
option_value [] name = None
option_value (option ∷ more) name = if bytes_eq option.0 name then Some option.1 else option_value more name

abbrev pub is_known : List Text → Text → Bool
is_known names name = list_any (λ known. bytes_eq known name) names

abbrev pub is_given : List Given → Text → Bool
is_given given name = list_any (λ (option : Given). bytes_eq option.0 name) given

-- goes on behind a word that begins an option: with its value, or with the option that waits for one
abbrev pub option_begun : List Text → List Given → Option (Text × Option Text) → (List Given → Option Text → Option (List Given))
    → Option (List Given)
option_begun names given None next = None
option_begun names given (Some (name, Some value)) next =
    if is_known names name && not (is_given given name) then next (given ++ (name, value) ∷ []) None else None
option_begun names given (Some (name, None)) next =
    if is_known names name && not (is_given given name) then next given (Some name) else None

-- the options that the words give behind those given already, where one may wait for its value, the next word. Nothing,
-- where a word is no option of these names, an option is given twice, or a value is missing
unfoldable pub options_after : List Text → List Given → Option Text → List Text → Option (List Given)
options_after names given None [] = Some given
options_after names given (Some name) [] = None
options_after names given None (word ∷ words) =
    option_begun names given (option_of word) (λ more waiting. options_after names more waiting words)
options_after names given (Some name) (word ∷ words) = options_after names (given ++ (name, word) ∷ []) None words

-- the options that the words are, each of one of these names, at most once, and with its value
abbrev pub options : List Text → List Text → Option (List Given)
options names words = options_after names [] None words
