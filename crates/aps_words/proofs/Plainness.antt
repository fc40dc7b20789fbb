-- One word more, in the test that no option stands twice.
use Rattle.std.proofs.Common.{◌≡◌, ℕ, ◌<◌, ◌||◌, ◌+◌, List, [], ◌∷◌, ◌++◌, map, drop, length, Option, Some, None, Bool, true, false, refl, ap, sym, ◌∙◌, inl, inr, arith, option_map, string_bytes, String, Global, get_or, suc, ◌≤◌}
use Rattle.std.proofs.lemmas.Bool.{cases_Bool}
use Rattle.std.proofs.lemmas.List.{drop_all}
use Rattle.std.proofs.Math.Seq.{drop-cons}
use Rattle.std.specs.Str.{bytes_eq}
use Rattle.std.specs.List.{list_any}
use Rattle.std.specs.Borrow.{Bor}
use Rattle.aps_words.specs.Options.{Text, is_known, option_of}
use Rattle.aps_words.specs.Plain.{is_plain}

-- the names behind references
pub known-map : (names : List (Bor Text)) (name : Text) → is_known (map (λ n. n.now) names) name ≡ list_any (λ n. bytes_eq n.now name) names
known-map [] name = refl
known-map (n ∷ names) name = ap (λ b. bytes_eq n.now name || b) (known-map names name)

module _ (seen : List Text) (word : Text) (words : List Text) where
  pub dashes-refused : bytes_eq word (45 ∷ 45 ∷ []) ≡ true → is_plain seen (word ∷ words) ≡ false
  unfolding is_plain
  dashes-refused same = rw same refl

  pub none-passed : bytes_eq word (45 ∷ 45 ∷ []) ≡ false → option_map (λ option. option.0) (option_of word) ≡ None → is_plain seen (word ∷ words) ≡ is_plain seen words
  unfolding is_plain
  none-passed other is = by (option_of word) refl is
    where
      by : (o : Option (Text × Option Text)) → option_of word ≡ o → option_map (λ p. p.0) o ≡ None → is_plain seen (word ∷ words) ≡ is_plain seen words
      by None e h = rw (other, e) refl
      by (Some p) e h = cc

  pub repeat-refused : (name : Text) → option_map (λ option. option.0) (option_of word) ≡ Some name → is_known seen name ≡ true → is_plain seen (word ∷ words) ≡ false
  unfolding is_plain
  repeat-refused name is old = by (option_of word) refl is
    where
      by : (o : Option (Text × Option Text)) → option_of word ≡ o → option_map (λ p. p.0) o ≡ Some name → is_plain seen (word ∷ words) ≡ false
      by None e h = cc
      by (Some p) e h =
          let same : p.0 ≡ name = cc in
          let known : is_known seen p.0 ≡ true = rw same old in
          elim (cases_Bool (bytes_eq word (45 ∷ 45 ∷ []))) [ inl dashes ↦ rw dashes refl | inr other ↦ rw (other, e, known) refl ]

  pub new-passed : (name : Text) → bytes_eq word (45 ∷ 45 ∷ []) ≡ false → option_map (λ option. option.0) (option_of word) ≡ Some name → is_known seen name ≡ false
      → is_plain seen (word ∷ words) ≡ is_plain (seen ++ name ∷ []) words
  unfolding is_plain
  new-passed name other is new = by (option_of word) refl is
    where
      by : (o : Option (Text × Option Text)) → option_of word ≡ o → option_map (λ p. p.0) o ≡ Some name → is_plain seen (word ∷ words) ≡ is_plain (seen ++ name ∷ []) words
      by None e h = cc
      by (Some p) e h =
          let same : p.0 ≡ name = cc in
          let unknown : is_known seen p.0 ≡ false = rw same new in
          rw (other, e, unknown, same) refl

-- ---- the loop over the words

module _ (words : List (String Global)) (i : ℕ) (word : String Global) (seen : List Text) (whole : Bool)
    (within : i < length words) (here : word ≡ get_or words i word)
    (before : is_plain seen (map string_bytes (drop i words)) ≡ whole) where
  cut : map string_bytes (drop i words) ≡ string_bytes word ∷ map string_bytes (drop (i + 1) words)
  cut =
      let next : suc i ≡ i + 1 = omega arith in
      let parts : drop i words ≡ get_or words i word ∷ drop (i + 1) words = drop-cons words i word within ∙ ap (λ n. get_or words i word ∷ drop n words) next in
      ap (map string_bytes) parts ∙ ap (λ w. string_bytes w ∷ map string_bytes (drop (i + 1) words)) (sym here)

  at_word : is_plain seen (string_bytes word ∷ map string_bytes (drop (i + 1) words)) ≡ whole
  at_word = rw (← cut) before

  pub at_dashes : bytes_eq (string_bytes word) (45 ∷ 45 ∷ []) ≡ true → false ≡ whole
  at_dashes same = sym (dashes-refused seen _ _ same) ∙ at_word

  pub at_repeat : (name : Text) → option_map (λ option. option.0) (option_of (string_bytes word)) ≡ Some name → is_known seen name ≡ true → false ≡ whole
  at_repeat name is old = sym (repeat-refused seen _ _ name is old) ∙ at_word

  pub at_other : bytes_eq (string_bytes word) (45 ∷ 45 ∷ []) ≡ false → option_map (λ option. option.0) (option_of (string_bytes word)) ≡ None
      → is_plain seen (map string_bytes (drop (i + 1) words)) ≡ whole
  at_other differs none = sym (none-passed seen _ _ differs none) ∙ at_word

  pub at_option : (name : Text) → bytes_eq (string_bytes word) (45 ∷ 45 ∷ []) ≡ false → option_map (λ option. option.0) (option_of (string_bytes word)) ≡ Some name
      → is_known seen name ≡ false → is_plain (seen ++ name ∷ []) (map string_bytes (drop (i + 1) words)) ≡ whole
  at_option name differs is new = sym (new-passed seen _ _ name differs is new) ∙ at_word

pub at_end : (words : List (String Global)) (i : ℕ) (seen : List Text) (whole : Bool) → length words ≤ i
    → is_plain seen (map string_bytes (drop i words)) ≡ whole → true ≡ whole
unfolding is_plain
at_end words i seen whole past before =
    let none : drop i words ≡ [] = drop_all i words past in
    rw none at before
