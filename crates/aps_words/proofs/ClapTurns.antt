-- One word of clap's walk over options with one plain value each.
use Rattle.std.proofs.Common.{◌≡◌, ℕ, List, [], ◌∷◌, ◌++◌, map, Option, Some, None, true, false, refl, ap, sym, ◌∙◌, inl, inr, append-nil}
use Rattle.std.proofs.lemmas.Bool.{cases_Bool, false≢true}
use Rattle.std.proofs.lemmas.Slice.Eq.{bytes_eq-Decides}
use Rattle.std.specs.Str.{bytes_eq, chars}
use Rattle.std.specs.Prelude.{slice_get}
use Rattle.clap.specs.Lexer.{long_of, short_of}
use Rattle.clap.specs.Words.{Row, Text, built}
use Rattle.clap.specs.Kinds.{Kinds, or_else}
use Rattle.clap.specs.Walk.{Waiting, idle, option, Walk, at_row, has_row, used, walked, reading_by, more_values}
use Rattle.clap.specs.Faults.{turn_fault, use_fault, flags_fault}
use Rattle.clap.specs.Simple.{Shape}
use Rattle.clap.specs.declared.parser.matches.ValueSource.TheVariants.{CommandLine}
use Rattle.aps_words.specs.Clap.{plain_app}
use Rattle.aps_words.specs.Options.{Given, is_known}
use Rattle.aps_words.proofs.ClapRules.{opt, opts, by_long, by_id, by_short, by_index}

abbrev pub row : Given → Row
row u = record { id = u.0; values = u.1 ∷ []; count = None; source = Some CommandLine; reading = reading_by (opt u.0) }

abbrev pub rows_as : List Given → List Row
rows_as = map row

-- a built command with options of these names
abbrev pub shape : Text → List Text → Shape
shape label names = record (built (plain_app label)).top { rules = opts names }

-- what is held between two words: nothing waits, an option has its value, or it waits for it
pub data At : Type 0 where
  at_rest : At
  with_one : Text → Text → At
  wants : Text → At

abbrev pub walk_with : List Row → Option (Text × List Text) → Waiting → Walk
walk_with rows pending waiting = record { held = record { rows = rows; pending = pending; skip = 0 }; waiting = waiting; position = 1; is_trailing = false; stopped = None }

abbrev pub walk_at : List Given → At → Walk
walk_at done at_rest = walk_with (rows_as done) None idle
walk_at done (with_one n v) = walk_with (rows_as done) (Some (n, v ∷ [])) idle
walk_at done (wants n) = walk_with (rows_as done) (Some (n, [])) (option n)

abbrev pub IsFault : Kinds → Type 0
IsFault [] = ⊥
IsFault (k ∷ ks) = Unit {0}

pub fault_first : (a b : Kinds) → IsFault a → IsFault (or_else a b)
fault_first [] b h = elim h [ ]
fault_first (k ∷ ks) b h = tt

-- ---- rows

pub absent : (id : Text) (change : Row → List Row) (missing rows : List Row) → has_row id rows ≡ false → at_row id change missing rows ≡ rows ++ missing
absent id change missing [] h = refl
absent id change missing (r ∷ rows) h =
    elim (cases_Bool (bytes_eq r.id id)) [
      | inl same ↦ absurd (false≢true (sym (rw same at h)))
      | inr other ↦ rw other (ap (λ rest. r ∷ rest) (absent id change missing rows (rw other at h)))
    ]

pub used_new : (n v : Text) (rows : List Row) → has_row n rows ≡ false → used (opt n) (v ∷ []) rows ≡ rows ++ row (n, v) ∷ []
used_new n v rows new =
    let gone = absent n (λ _. []) [] rows new ∙ append-nil rows in
    rw gone (absent n (more_values CommandLine (v ∷ [])) (row (n, v) ∷ []) rows new)

pub use_ok : (n v : Text) (rows : List Row) → has_row n rows ≡ false → use_fault false (opt n) (v ∷ []) rows ≡ []
use_ok n v rows new = rw new

pub use_bad : (n : Text) (rows : List Row) → IsFault (use_fault false (opt n) [] rows)
use_bad n rows = tt

-- ---- one word

abbrev pub dashes : Text
dashes = 45 ∷ 45 ∷ []

module _ (label : Text) (names : List Text) (done : List Given) (word : Text) (no_dashes : bytes_eq word dashes ≡ false) where
  pub unknown : (at : At) (p : Text × Option Text) → long_of word ≡ Some p → is_known names p.0 ≡ false
      → IsFault (turn_fault (shape label names) [] (walk_at done at) word)
  unknown at_rest p long not_known = let found = by_long names p.0 in rw (no_dashes, long, found, not_known) tt
  unknown (with_one n v) p long not_known = let found = by_long names p.0 in rw (no_dashes, long, found, not_known) tt
  unknown (wants n) p long not_known = let found = by_long names p.0 in rw (no_dashes, long, found, not_known) tt

  pub bundled : (at : At) (y : ℕ) (ys : Text) (x : ℕ) → long_of word ≡ None → short_of word ≡ Some (y ∷ ys) → slice_get (chars (y ∷ ys)) 0 ≡ Some x
      → IsFault (turn_fault (shape label names) [] (walk_at done at) word)
  unfolding flags_fault
  bundled at_rest y ys x long short first = let found = by_short names x in rw (no_dashes, long, short, first, found) tt
  bundled (with_one n v) y ys x long short first = let found = by_short names x in rw (no_dashes, long, short, first, found) tt
  bundled (wants n) y ys x long short first = let found = by_short names x in rw (no_dashes, long, short, first, found) tt

  pub stray_at_rest : long_of word ≡ None → short_of word ≡ None → IsFault (turn_fault (shape label names) [] (walk_at done at_rest) word)
  stray_at_rest long short = let found = by_index names 1 in rw (no_dashes, long, short, found) tt

  pub stray_with_one : (n v : Text) → long_of word ≡ None → short_of word ≡ None → IsFault (turn_fault (shape label names) [] (walk_at done (with_one n v)) word)
  stray_with_one n v long short = let found = by_index names 1 in rw (no_dashes, long, short, found) tt

  pub cut_off : (n name : Text) (value : Option Text) → is_known names n ≡ true → long_of word ≡ Some (name, value) → is_known names name ≡ true
      → IsFault (turn_fault (shape label names) [] (walk_at done (wants n)) word)
  cut_off n name None known long also = let found = by_long names name in let here = by_id names n in rw (no_dashes, long, found, also, here, known) tt
  cut_off n name (Some v) known long also = let found = by_long names name in let here = by_id names n in rw (no_dashes, long, found, also, here, known) tt

  pub value_faultless : (n : Text) → is_known names n ≡ true → long_of word ≡ None → short_of word ≡ None
      → turn_fault (shape label names) [] (walk_at done (wants n)) word ≡ []
  value_faultless n known long short = rw (no_dashes, long, short)

  pub value_walked : (n : Text) → is_known names n ≡ true → long_of word ≡ None → short_of word ≡ None
      → walked (opts names) [] (walk_at done (wants n)) word ≡ walk_at done (with_one n word)
  unfolding walked
  value_walked n known long short =
      let here = by_id names n in
      let same : bytes_eq n n ≡ true = (bytes_eq-Decides n n).1 refl in
      rw (no_dashes, long, short, here, known, same)

  -- `--name=value`, where no option of the name was there
  pub equals_rest : (name v : Text) → long_of word ≡ Some (name, Some v) → is_known names name ≡ true → has_row name (rows_as done) ≡ false
      → (turn_fault (shape label names) [] (walk_at done at_rest) word ≡ []) × (walked (opts names) [] (walk_at done at_rest) word ≡ walk_with (rows_as done ++ row (name, v) ∷ []) None idle)
  unfolding walked
  equals_rest name v long known new =
      let found = by_long names name in
      (rw (no_dashes, long, found, known, new), rw (no_dashes, long, found, known, used_new name v (rows_as done) new))

  pub bare_rest : (name : Text) → long_of word ≡ Some (name, None) → is_known names name ≡ true
      → (turn_fault (shape label names) [] (walk_at done at_rest) word ≡ []) × (walked (opts names) [] (walk_at done at_rest) word ≡ walk_at done (wants name))
  unfolding walked
  bare_rest name long known =
      let found = by_long names name in
      (rw (no_dashes, long, found, known), rw (no_dashes, long, found, known))

  module _ (n u : Text) (here : is_known names n ≡ true) (was_new : has_row n (rows_as done) ≡ false) where
    pub equals_one : (name v : Text) → long_of word ≡ Some (name, Some v) → is_known names name ≡ true → has_row name (rows_as done ++ row (n, u) ∷ []) ≡ false
        → (turn_fault (shape label names) [] (walk_at done (with_one n u)) word ≡ [])
        × (walked (opts names) [] (walk_at done (with_one n u)) word ≡ walk_with ((rows_as done ++ row (n, u) ∷ []) ++ row (name, v) ∷ []) None idle)
    unfolding walked
    equals_one name v long known new =
        let found = by_long names name in
        let id = by_id names n in
        let settled_is = used_new n u (rows_as done) was_new in
        (rw (no_dashes, long, found, known, id, here, was_new, settled_is, new), rw (no_dashes, long, found, known, id, here, settled_is, used_new name v (rows_as done ++ row (n, u) ∷ []) new))

    pub bare_one : (name : Text) → long_of word ≡ Some (name, None) → is_known names name ≡ true
        → (turn_fault (shape label names) [] (walk_at done (with_one n u)) word ≡ [])
        × (walked (opts names) [] (walk_at done (with_one n u)) word ≡ walk_with (rows_as done ++ row (n, u) ∷ []) (Some (name, [])) (option name))
    unfolding walked
    bare_one name long known =
        let found = by_long names name in
        let id = by_id names n in
        let settled_is = used_new n u (rows_as done) was_new in
        (rw (no_dashes, long, found, known, id, here, was_new), rw (no_dashes, long, found, known, id, here, settled_is))
