-- What clap takes of plain words is what the definition reads, where hyphened words are no values.
use Rattle.std.proofs.Common.{◌≡◌, List, [], ◌∷◌, ◌++◌, ◌==◌, ◌||◌, map, Option, Some, None, Bool, true, false, refl, ap, ◌∙◌, inl, inr}
use Rattle.std.proofs.lemmas.Bool.{cases_Bool}
use Rattle.std.proofs.lemmas.List.{map_push}
use Rattle.std.specs.Prelude.{if◌then◌else◌}
use Rattle.std.specs.Str.{bytes_eq}
use Rattle.aps_words.specs.Options.{Text, Given, is_known, is_given, option_of}
use Rattle.aps_words.specs.Plain.{is_plain}
use Rattle.aps_words.specs.Unhyphened.{is_hyphened, unhyphened_after, unhyphened_options}
use Rattle.aps_words.proofs.Uses.{uses, looks_like_option}
use Rattle.aps_words.proofs.Hyphens.{IsNew, seen_with, seen_or_not, dashes, option_is_no_dashes, no_option}

-- a hyphened word looks like an option, or is `--`
hyphened_is : (word : Text) → is_hyphened word ≡ (looks_like_option word || bytes_eq word dashes)
hyphened_is [] = refl
hyphened_is (c ∷ []) = elim (cases_Bool (c == 45)) [ inl same ↦ rw same refl | inr other ↦ rw other refl ]
hyphened_is (c ∷ d ∷ []) =
    elim (cases_Bool (c == 45)) [
      | inl same ↦ elim (cases_Bool (d == 45)) [ inl twice ↦ rw (same, twice) refl | inr once ↦ rw (same, once) refl ]
      | inr other ↦ rw other refl
    ]
hyphened_is (c ∷ d ∷ e ∷ es) =
    elim (cases_Bool (c == 45)) [
      | inl same ↦ elim (cases_Bool (d == 45)) [ inl twice ↦ rw (same, twice) refl | inr once ↦ rw (same, once) refl ]
      | inr other ↦ rw other refl
    ]

-- what clap takes, if the words are plain
abbrev if_plain : Bool → Option (List Given) → Option (List Given)
if_plain plain taken = if plain then taken else None

none_taken : (plain : Bool) → None ≡ if_plain plain None
none_taken true = refl
none_taken false = refl

abbrev Always : List Text → List Text → Type 0
Always names words = (given : List Given) (waiting : Option Text) → IsNew names given waiting
    → unhyphened_after names given waiting words ≡ if_plain (is_plain (seen_with given waiting) words) (uses names given waiting words)

module _ (names : List Text) (word : Text) (words : List Text) (after : Always names words) where
  option_read : (given : List Given) (name : Text) (value : Option Text) (known old : Bool) → option_of word ≡ Some (name, value)
      → is_known names name ≡ known → is_given given name ≡ old
      → unhyphened_after names given None (word ∷ words) ≡ if_plain (is_plain (seen_with given None) (word ∷ words)) (uses names given None (word ∷ words))
  unfolding unhyphened_after uses is_plain
  option_read given name None false old is known new = rw (is, known) (none_taken _)
  option_read given name (Some value) false old is known new = rw (is, known) (none_taken _)
  option_read given name None true true is known new =
      let no = option_is_no_dashes word (name, None) is in
      let seen = seen_or_not given name ∙ new in
      rw (is, known, new, no, seen) refl
  option_read given name (Some value) true true is known new =
      let no = option_is_no_dashes word (name, Some value) is in
      let seen = seen_or_not given name ∙ new in
      rw (is, known, new, no, seen) refl
  option_read given name None true false is known new =
      let no = option_is_no_dashes word (name, None) is in
      let seen = seen_or_not given name ∙ new in
      rw (is, known, new, no, seen) (after given (Some name) (known, new))
  option_read given name (Some value) true false is known new =
      let no = option_is_no_dashes word (name, Some value) is in
      let seen = seen_or_not given name ∙ new in
      let names_now : map (λ (u : Given). u.0) (given ++ (name, value) ∷ []) ≡ map (λ u. u.0) given ++ name ∷ [] = map_push (λ u. u.0) given (name, value) in
      rw (is, known, new, no, seen, ← names_now) (after (given ++ (name, value) ∷ []) None tt)

  word_read : (given : List Given) (option : Option (Text × Option Text)) → option_of word ≡ option
      → unhyphened_after names given None (word ∷ words) ≡ if_plain (is_plain (seen_with given None) (word ∷ words)) (uses names given None (word ∷ words))
  unfolding unhyphened_after uses is_plain
  word_read given None is = rw is (none_taken _)
  word_read given (Some p) is = option_read given p.0 p.1 (is_known names p.0) (is_given given p.0) is refl refl

  value_read : (given : List Given) (name : Text)
      → unhyphened_after names given (Some name) (word ∷ words) ≡ if_plain (is_plain (seen_with given (Some name)) (word ∷ words)) (uses names given (Some name) (word ∷ words))
  unfolding unhyphened_after uses is_plain
  value_read given name =
      elim (cases_Bool (looks_like_option word)) [
        | inl looks ↦
            let hyphened : is_hyphened word ≡ true = hyphened_is word ∙ ap (λ b. b || bytes_eq word dashes) looks in
            rw (hyphened, looks) (none_taken _)
        | inr other ↦
            elim (cases_Bool (bytes_eq word dashes)) [
              | inl same ↦
                  let hyphened : is_hyphened word ≡ true = hyphened_is word ∙ ap (λ b. b || bytes_eq word dashes) other ∙ same in
                  rw (hyphened, other, same) refl
              | inr differs ↦
                  let none = no_option word other in
                  let bare : is_hyphened word ≡ false = hyphened_is word ∙ ap (λ b. b || bytes_eq word dashes) other ∙ differs in
                  let names_now : map (λ (u : Given). u.0) (given ++ (name, word) ∷ []) ≡ map (λ u. u.0) given ++ name ∷ [] = map_push (λ u. u.0) given (name, word) in
                  rw (bare, other, differs, none, ← names_now) (after (given ++ (name, word) ∷ []) None tt)
            ]
      ]

taken_after : (names words : List Text) → Always names words
unfolding unhyphened_after uses is_plain
taken_after names [] = λ given waiting new. at_end given waiting
  where
    at_end : (given : List Given) (waiting : Option Text)
        → unhyphened_after names given waiting [] ≡ if_plain (is_plain (seen_with given waiting) []) (uses names given waiting [])
    at_end given None = refl
    at_end given (Some name) = refl
taken_after names (word ∷ words) = λ given waiting new. at_word given waiting (taken_after names words)
  where
    at_word : (given : List Given) (waiting : Option Text) → Always names words
        → unhyphened_after names given waiting (word ∷ words) ≡ if_plain (is_plain (seen_with given waiting) (word ∷ words)) (uses names given waiting (word ∷ words))
    at_word given None after = word_read names word words after given (option_of word) refl
    at_word given (Some name) after = value_read names word words after given name

pub plain_uses : (names words : List Text) → is_plain [] words ≡ true → unhyphened_options names words ≡ uses names [] None words
plain_uses names words plain = taken_after names words [] None tt ∙ ap (λ b. if_plain b (uses names [] None words)) plain

pub unplain_uses : (names words : List Text) → is_plain [] words ≡ false → unhyphened_options names words ≡ None
unplain_uses names words plain = taken_after names words [] None tt ∙ ap (λ b. if_plain b (uses names [] None words)) plain
