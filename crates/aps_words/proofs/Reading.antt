-- What the options behind a command's word say, by what clap answered.
use Rattle.std.proofs.Common.{◌≡◌, ◌≢◌, ◌⊎◌, List, [], ◌∷◌, map, drop, Option, Some, None, Result, Ok, Err, IfOk, true, false, refl, ap, sym, subst, ◌∙◌, inl, inr, String, Global, string_bytes}
use Rattle.std.proofs.lemmas.Bool.{cases_Bool, and_parts}
use Rattle.std.proofs.lemmas.Str.{IsUtf8-string_bytes}
use Rattle.std.proofs.lemmas.Slice.Eq.{bytes_eq-Decides}
use Rattle.std.specs.Prelude.{MatchOption, ⊤}
use Rattle.std.specs.Str.{bytes_eq}
use Rattle.clap.specs.Words.{App, Row, Text, fault_of, first_of, first_value, found_of, is_simple, is_simple_and_free, matches_of, rows_of}
use Rattle.clap.specs.Kinds.{Kinds}
use Rattle.clap.specs.Walk.{rows_after}
use Rattle.clap.specs.declared.parser.matches.ArgMatches.{ArgMatches}
use Rattle.clap.proofs.WalkLemmas.{first_value-rows}
use Rattle.aps_words.specs.declared.command.WordsRefusal.{WordsRefusal}
use Rattle.aps_words.specs.declared.command.WordsRefusal.TheVariants.{Words, NoMemory}
use Rattle.aps_words.specs.Clap.{app_with}
use Rattle.aps_words.specs.Options.{Given, option_value, is_known, options}
use Rattle.aps_words.specs.Command.{◌>>=◌, with_options, WordsMean}
use Rattle.aps_words.specs.Plain.{is_plain}
use Rattle.aps_words.specs.Unhyphened.{with_unhyphened}
use Rattle.aps_words.proofs.Uses.{uses}
use Rattle.aps_words.proofs.ClapRules.{opts}
use Rattle.aps_words.proofs.ClapTurns.{rows_as, IsFault}
use Rattle.aps_words.proofs.ClapWalk.{AreTexts}
use Rattle.aps_words.proofs.ClapAnswer.{fault_with, exactly, first-rows}
use Rattle.aps_words.proofs.Hyphens.{begins_with_hyphen, IsUnreadable, Agrees, agrees}
use Rattle.aps_words.proofs.Unhyphened.{plain_uses, unplain_uses}

-- options that clap reads, of which nothing is asked but their values
pub record IsClapped {A : Type 0} (label : Text) (names : List Text) (by : (Text → Option Text) → Option A) : Type 0 where
  pub simple : is_simple_and_free (app_with label names) ≡ true
  pub fault : (words : List Text) → fault_of (app_with label names) words ≡ fault_with label names (drop 1 words)
  pub rows : (words : List Text) → matches_of (app_with label names) words ≡ rows_after (opts names) [] (drop 1 words)
  pub same : (f g : Text → Option Text) → ((name : Text) → f name ≡ g name) → by f ≡ by g

-- options that clap reads, and of which none has a value that begins with a hyphen
pub record IsRead {A : Type 0} (label : Text) (names : List Text) (by : (Text → Option Text) → Option A) : Type 0 where
  pub clapped : IsClapped {A = A} label names by
  pub none : (f : Text → Option Text) (name value : Text) → is_known names name ≡ true → f name ≡ Some value → begins_with_hyphen value ≡ true → by f ≡ None

-- what is meant by what clap answered
abbrev pub Meant : {A : Type 0} → ((Text → Option Text) → Option A) → Result ArgMatches WordsRefusal → Option A → Type 0
Meant by (Ok m) meant = meant ≡ by (first_value (found_of m))
Meant by (Err Words) meant = meant ≡ None
Meant by (Err NoMemory) meant = ⊤

texts : (ss : List (String Global)) → AreTexts (map string_bytes ss)
texts [] = tt
texts (s ∷ ss) = (IsUtf8-string_bytes s, texts ss)

texts_behind : (ss : List (String Global)) → AreTexts (drop 1 (map string_bytes ss))
texts_behind [] = tt
texts_behind (s ∷ ss) = texts ss

module _ {A : Type 0} (label : Text) (names : List Text) (by : (Text → Option Text) → Option A) where
  abbrev by_given : Option (List Given) → Option A
  by_given given = given >>= λ g. by (option_value g)

  meant_by : IsClapped {A = A} label names by → (m : Result ArgMatches WordsRefusal) (taken : Option (List Given)) (faults : Kinds) (rows : List Row)
      → MatchOption taken (IsFault faults) (λ all. (faults ≡ []) × (rows ≡ rows_as all))
      → IfOk m (λ _. faults ≡ []) → IfOk m (λ m. rows_of (found_of m) ≡ rows) → (m ≡ Err Words → faults ≢ [])
      → Meant by m (by_given taken)
  meant_by read (Ok m) None faults rows h none found refused = absurd (subst IsFault none h)
  meant_by read (Ok m) (Some all) faults rows h none found refused =
      read.same (option_value all) (first_value (found_of m)) (λ name.
      sym (first_value-rows (found_of m) name ∙ ap (first_of name) (found ∙ h.1) ∙ first-rows name all))
  meant_by read (Err Words) None faults rows h none found refused = refl
  meant_by read (Err Words) (Some all) faults rows h none found refused = absurd (refused refl h.0)
  meant_by read (Err NoMemory) taken faults rows h none found refused = tt

  -- of plain words: what clap's options say
  meant_uses : IsClapped {A = A} label names by → (app : App) (ss : List (String Global)) (m : Result ArgMatches WordsRefusal) → app ≡ app_with label names
      → is_plain [] (drop 1 (map string_bytes ss)) ≡ true
      → (is_simple_and_free app ≡ true → IfOk m (λ _. fault_of app (map string_bytes ss) ≡ []))
      → (is_simple app ≡ true → IfOk m (λ m. rows_of (found_of m) ≡ matches_of app (map string_bytes ss)))
      → (is_simple_and_free app ≡ true → m ≡ Err Words → fault_of app (map string_bytes ss) ≢ [])
      → Meant by m (by_given (uses names [] None (drop 1 (map string_bytes ss))))
  meant_uses read app ss m is plain taken found refused =
      let words = drop 1 (map string_bytes ss) in
      let simple : is_simple_and_free app ≡ true = ap is_simple_and_free is ∙ read.simple in
      let fault : fault_of app (map string_bytes ss) ≡ fault_with label names words = ap (λ a. fault_of a (map string_bytes ss)) is ∙ read.fault (map string_bytes ss) in
      let rows : matches_of app (map string_bytes ss) ≡ rows_after (opts names) [] words = ap (λ a. matches_of a (map string_bytes ss)) is ∙ read.rows (map string_bytes ss) in
      meant_by read m (uses names [] None words) (fault_with label names words) (rows_after (opts names) [] words)
      (exactly label names words (texts_behind ss) plain)
      (subst (λ k. IfOk m (λ _. k ≡ [])) fault (taken simple))
      (subst (λ r. IfOk m (λ m. rows_of (found_of m) ≡ r)) rows (found (and_parts _ _ simple).0))
      (subst (λ k. m ≡ Err Words → k ≢ []) fault (refused simple))

  -- ---- values in words of their own begin with no hyphen

  pub meant_unhyphened : IsClapped {A = A} label names by → (app : App) (ss : List (String Global)) (m : Result ArgMatches WordsRefusal) → app ≡ app_with label names
      → is_plain [] (drop 1 (map string_bytes ss)) ≡ true
      → (is_simple_and_free app ≡ true → IfOk m (λ _. fault_of app (map string_bytes ss) ≡ []))
      → (is_simple app ≡ true → IfOk m (λ m. rows_of (found_of m) ≡ matches_of app (map string_bytes ss)))
      → (is_simple_and_free app ≡ true → m ≡ Err Words → fault_of app (map string_bytes ss) ≢ [])
      → Meant by m (with_unhyphened names by (drop 1 (map string_bytes ss)))
  meant_unhyphened read app ss m is plain taken found refused =
      subst (λ given. Meant by m (by_given given)) (sym (plain_uses names (drop 1 (map string_bytes ss)) plain))
      (meant_uses read app ss m is plain taken found refused)

  -- words that aren't plain are no such options
  pub unplain_unhyphened : (words : List Text) → is_plain [] words ≡ false → with_unhyphened names by words ≡ None
  unplain_unhyphened words h = ap by_given (unplain_uses names words h)

  -- ---- no value begins with a hyphen

  unreadable_none : IsRead {A = A} label names by → (given : Option (List Given)) → IsUnreadable names given → by_given given ≡ None
  unreadable_none read None h = refl
  unreadable_none read (Some g) h = read.none (option_value g) h.name h.value h.known h.there h.hyphen

  agreed_same : IsRead {A = A} label names by → (taken given : Option (List Given)) → Agrees names true taken given → by_given taken ≡ by_given given
  agreed_same read None given a = sym (unreadable_none read given a)
  agreed_same read (Some all) given a = sym (ap by_given a)

  pub meant : IsRead {A = A} label names by → (app : App) (ss : List (String Global)) (m : Result ArgMatches WordsRefusal) → app ≡ app_with label names
      → is_plain [] (drop 1 (map string_bytes ss)) ≡ true
      → (is_simple_and_free app ≡ true → IfOk m (λ _. fault_of app (map string_bytes ss) ≡ []))
      → (is_simple app ≡ true → IfOk m (λ m. rows_of (found_of m) ≡ matches_of app (map string_bytes ss)))
      → (is_simple_and_free app ≡ true → m ≡ Err Words → fault_of app (map string_bytes ss) ≢ [])
      → Meant by m (with_options names by (drop 1 (map string_bytes ss)))
  meant read app ss m is plain taken found refused =
      let words = drop 1 (map string_bytes ss) in
      let agreed : Agrees names true (uses names [] None words) (options names words) =
      subst (λ b. Agrees names b (uses names [] None words) (options names words)) plain (agrees names words) in
      subst (λ said. Meant by m said) (agreed_same read (uses names [] None words) (options names words) agreed)
      (meant_uses read.clapped app ss m is plain taken found refused)

  -- words that aren't plain are no such options
  pub unplain : IsRead {A = A} label names by → (words : List Text) → is_plain [] words ≡ false → with_options names by words ≡ None
  unplain read words h =
      unreadable_none read (options names words) (subst (λ b. Agrees names b (uses names [] None words) (options names words)) h (agrees names words))

pub refusal_says : {A : Type 0} (by : (Text → Option Text) → Option A) (refusal : WordsRefusal) (meant : Option A) → Meant by (Err refusal) meant → WordsMean {A = A} (Err refusal) meant
refusal_says by Words meant none = none
refusal_says by NoMemory meant none = tt

-- a known name is one of those listed
pub known_or : (known name : Text) (names : List Text) → is_known (known ∷ names) name ≡ true → (name ≡ known) ⊎ (is_known names name ≡ true)
known_or known name names h =
    elim (cases_Bool (bytes_eq known name)) [
      | inl same ↦ inl (sym ((bytes_eq-Decides known name).0 same))
      | inr other ↦ inr (rw other at h)
    ]
