-- No option has a value that begins with a hyphen, so it doesn't matter who takes such a word for one.
use Rattle.std.proofs.Common.{◌≡◌, List, [], ◌∷◌, ◌++◌, ◌==◌, ◌&&◌, ◌||◌, map, Option, Some, None, Bool, true, false, not, refl, ap, sym, ◌∙◌, subst, inl, inr, is_some}
use Rattle.std.proofs.lemmas.Bool.{cases_Bool, false≢true}
use Rattle.std.proofs.lemmas.Slice.Eq.{bytes_eq-Decides}
use Rattle.std.proofs.lemmas.List.{map_push}
use Rattle.std.specs.Prelude.{⊤}
use Rattle.std.specs.Str.{bytes_eq}
use Rattle.aps_words.specs.Options.{Text, Given, option_value, is_known, is_given, option_of, options_after}
use Rattle.aps_words.specs.Plain.{is_plain}
use Rattle.aps_words.proofs.Uses.{uses, looks_like_option}

abbrev pub begins_with_hyphen : Text → Bool
begins_with_hyphen [] = false
begins_with_hyphen (c ∷ cs) = c == 45

-- an option that was given has such a value
pub record HasHyphenValue (names : List Text) (given : List Given) : Type 0 where
  pub name : Text
  pub value : Text
  pub known : is_known names name ≡ true
  pub there : option_value given name ≡ Some value
  pub hyphen : begins_with_hyphen value ≡ true

-- nothing was read, or such a value was
abbrev pub IsUnreadable : List Text → Option (List Given) → Type 0
IsUnreadable names None = ⊤
IsUnreadable names (Some given) = HasHyphenValue names given

-- ---- more options

value_of-append : (given more : List Given) (name value : Text) → option_value given name ≡ Some value → option_value (given ++ more) name ≡ Some value
value_of-append [] more name value there = cc
value_of-append (option ∷ given) more name value there =
    elim (cases_Bool (bytes_eq option.0 name)) [
      | inl same ↦ rw same (rw same at there)
      | inr other ↦ rw other (value_of-append given more name value (rw other at there))
    ]

value_of-new : (given : List Given) (name value : Text) → is_given given name ≡ false → option_value (given ++ (name, value) ∷ []) name ≡ Some value
value_of-new [] name value new = let same : bytes_eq name name ≡ true = (bytes_eq-Decides name name).1 refl in rw same
value_of-new (option ∷ given) name value new =
    elim (cases_Bool (bytes_eq option.0 name)) [
      | inl same ↦ absurd (false≢true (sym (rw same at new)))
      | inr other ↦ rw other (value_of-new given name value (rw other at new))
    ]

more_hyphen : (names : List Text) (given more : List Given) → HasHyphenValue names given → HasHyphenValue names (given ++ more)
more_hyphen names given more h =
    record { name = h.name; value = h.value; known = h.known; there = value_of-append given more h.name h.value h.there; hyphen = h.hyphen }

new_hyphen : (names : List Text) (given : List Given) (name value : Text) → is_known names name ≡ true → is_given given name ≡ false
    → begins_with_hyphen value ≡ true → HasHyphenValue names (given ++ (name, value) ∷ [])
new_hyphen names given name value known new hyphen =
    record { name = name; value = value; known = known; there = value_of-new given name value new; hyphen = hyphen }

-- whatever follows, such a value stays
stays_at : (names : List Text) (given : List Given) (word : Text) (words : List Text) (option : Option (Text × Option Text)) → option_of word ≡ option
    → HasHyphenValue names given
    → ((more : List Given) (waiting : Option Text) → HasHyphenValue names more → IsUnreadable names (options_after names more waiting words))
    → IsUnreadable names (options_after names given None (word ∷ words))
unfolding options_after
stays_at names given word words None is h after = rw is tt
stays_at names given word words (Some (name, None)) is h after =
    elim (cases_Bool (is_known names name && not (is_given given name))) [
      | inl free ↦ rw (is, free) (after given (Some name) h)
      | inr other ↦ rw (is, other) tt
    ]
stays_at names given word words (Some (name, Some value)) is h after =
    elim (cases_Bool (is_known names name && not (is_given given name))) [
      | inl free ↦ rw (is, free) (after (given ++ (name, value) ∷ []) None (more_hyphen names given ((name, value) ∷ []) h))
      | inr other ↦ rw (is, other) tt
    ]

stays : (names : List Text) (words : List Text) (given : List Given) (waiting : Option Text) → HasHyphenValue names given
    → IsUnreadable names (options_after names given waiting words)
unfolding options_after
stays names [] given None h = h
stays names [] given (Some name) h = tt
stays names (word ∷ words) given (Some name) h = stays names words (given ++ (name, word) ∷ []) None (more_hyphen names given ((name, word) ∷ []) h)
stays names (word ∷ words) given None h = stays_at names given word words (option_of word) refl h (λ more waiting g. stays names words more waiting g)

-- ---- what clap takes, against what the definition reads

-- plain words that clap takes are read alike; all others aren't read, or have such a value
abbrev pub Agrees : List Text → Bool → Option (List Given) → Option (List Given) → Type 0
Agrees names true (Some all) read = read ≡ Some all
Agrees names true None read = IsUnreadable names read
Agrees names false taken read = IsUnreadable names read

nothing_read : (names : List Text) (plain : Bool) → Agrees names plain None None
nothing_read names true = tt
nothing_read names false = tt

unreadable : (names : List Text) (plain : Bool) (read : Option (List Given)) → IsUnreadable names read → Agrees names plain None read
unreadable names true read h = h
unreadable names false read h = h

-- an option that waits for its value is a new one
abbrev pub IsNew : List Text → List Given → Option Text → Type 0
IsNew names given None = ⊤
IsNew names given (Some name) = (is_known names name ≡ true) × (is_given given name ≡ false)

abbrev pub seen_with : List Given → Option Text → List Text
seen_with given None = map (λ u. u.0) given
seen_with given (Some name) = map (λ u. u.0) given ++ name ∷ []

pub seen_or_not : (given : List Given) (name : Text) → is_known (map (λ u. u.0) given) name ≡ is_given given name
seen_or_not [] name = refl
seen_or_not (u ∷ given) name = ap (λ b. bytes_eq u.0 name || b) (seen_or_not given name)

abbrev pub dashes : Text
dashes = 45 ∷ 45 ∷ []

-- an option isn't `--`
pub option_is_no_dashes : (word : Text) (p : Text × Option Text) → option_of word ≡ Some p → bytes_eq word dashes ≡ false
option_is_no_dashes word p is =
    elim (cases_Bool (bytes_eq word dashes)) [
      | inl same ↦ let e : word ≡ dashes = (bytes_eq-Decides word dashes).0 same in let bad : option_of dashes ≡ Some p = subst (λ w. option_of w ≡ Some p) e is in cc
      | inr other ↦ other
    ]

hyphen_if_option : (word : Text) → looks_like_option word ≡ true → begins_with_hyphen word ≡ true
hyphen_if_option [] h = cc
hyphen_if_option (c ∷ cs) h =
    elim (cases_Bool (c == 45)) [ inl same ↦ same | inr other ↦ absurd (false≢true (rw other at h)) ]

dashes_begin : (word : Text) → bytes_eq word dashes ≡ true → begins_with_hyphen word ≡ true
dashes_begin word same = ap begins_with_hyphen ((bytes_eq-Decides word dashes).0 same)

pub no_option : (word : Text) → looks_like_option word ≡ false → option_of word ≡ None
no_option word h = none (option_of word) _ h
  where
    none : (o : Option (Text × Option Text)) (b : Bool) → (is_some o || b) ≡ false → o ≡ None
    none None b e = refl
    none (Some p) b e = absurd (false≢true (sym e))

abbrev Always : List Text → List Text → Type 0
Always names words = (given : List Given) (waiting : Option Text) → IsNew names given waiting
    → Agrees names (is_plain (seen_with given waiting) words) (uses names given waiting words) (options_after names given waiting words)

module _ (names : List Text) (word : Text) (words : List Text) (after : Always names words) where
  option_read : (given : List Given) (name : Text) (value : Option Text) (known old : Bool) → option_of word ≡ Some (name, value)
      → is_known names name ≡ known → is_given given name ≡ old
      → Agrees names (is_plain (seen_with given None) (word ∷ words)) (uses names given None (word ∷ words)) (options_after names given None (word ∷ words))
  unfolding options_after uses is_plain
  option_read given name None false old is known new = rw (is, known) (nothing_read names _)
  option_read given name (Some value) false old is known new = rw (is, known) (nothing_read names _)
  option_read given name None true true is known new =
      let no = option_is_no_dashes word (name, None) is in
      let seen = seen_or_not given name ∙ new in
      rw (is, known, new, no, seen) tt
  option_read given name (Some value) true true is known new =
      let no = option_is_no_dashes word (name, Some value) is in
      let seen = seen_or_not given name ∙ new in
      rw (is, known, new, no, seen) tt
  option_read given name None true false is known new =
      let no = option_is_no_dashes word (name, None) is in
      let seen = seen_or_not given name ∙ new in
      rw (is, known, new, no, seen) (after given (Some name) (known, new))
  option_read given name (Some value) true false is known new =
      let no = option_is_no_dashes word (name, Some value) is in
      let seen = seen_or_not given name ∙ new in
      let names_now : map (λ (u : Given). u.0) (given ++ (name, value) ∷ []) ≡ map (λ u. u.0) given ++ name ∷ [] = map_push (λ u. u.0) given (name, value) in
      rw (is, known, new, no, seen, ← names_now) (after (given ++ (name, value) ∷ []) None tt)

  word_read : (given : List Given) (option : Option (Text × Option Text)) → option_of word ≡ option
      → Agrees names (is_plain (seen_with given None) (word ∷ words)) (uses names given None (word ∷ words)) (options_after names given None (word ∷ words))
  unfolding options_after uses is_plain
  word_read given None is = rw is (nothing_read names _)
  word_read given (Some p) is = option_read given p.0 p.1 (is_known names p.0) (is_given given p.0) is refl refl

  value_read : (given : List Given) (name : Text) → is_known names name ≡ true → is_given given name ≡ false
      → Agrees names (is_plain (seen_with given (Some name)) (word ∷ words)) (uses names given (Some name) (word ∷ words)) (options_after names given (Some name) (word ∷ words))
  unfolding options_after uses is_plain
  value_read given name known new =
      let hyphened = λ (h : begins_with_hyphen word ≡ true). stays names words (given ++ (name, word) ∷ []) None (new_hyphen names given name word known new h) in
      elim (cases_Bool (looks_like_option word)) [
        | inl looks ↦ rw looks (unreadable names _ _ (hyphened (hyphen_if_option word looks)))
        | inr other ↦
            elim (cases_Bool (bytes_eq word dashes)) [
              | inl same ↦ rw (other, same) (hyphened (dashes_begin word same))
              | inr differs ↦
                  let none = no_option word other in
                  let names_now : map (λ (u : Given). u.0) (given ++ (name, word) ∷ []) ≡ map (λ u. u.0) given ++ name ∷ [] = map_push (λ u. u.0) given (name, word) in
                  rw (other, differs, none, ← names_now) (after (given ++ (name, word) ∷ []) None tt)
            ]
      ]

agrees_after : (names words : List Text) → Always names words
unfolding options_after uses is_plain
agrees_after names [] = λ given waiting new. at_end given waiting
  where
    at_end : (given : List Given) (waiting : Option Text)
        → Agrees names (is_plain (seen_with given waiting) []) (uses names given waiting []) (options_after names given waiting [])
    at_end given None = refl
    at_end given (Some name) = tt
agrees_after names (word ∷ words) = λ given waiting new. at_word given waiting new (agrees_after names words)
  where
    at_word : (given : List Given) (waiting : Option Text) → IsNew names given waiting → Always names words
        → Agrees names (is_plain (seen_with given waiting) (word ∷ words)) (uses names given waiting (word ∷ words)) (options_after names given waiting (word ∷ words))
    at_word given None new after = word_read names word words after given (option_of word) refl
    at_word given (Some name) new after = value_read names word words after given name new.0 new.1

pub agrees : (names words : List Text) → Agrees names (is_plain [] words) (uses names [] None words) (options_after names [] None words)
agrees names words = agrees_after names words [] None tt
