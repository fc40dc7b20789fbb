-- clap's walk over all the words gives the uses, or a fault.
use Rattle.std.proofs.Common.{◌≡◌, ℕ, List, [], ◌∷◌, ◌++◌, map, Option, Some, None, Bool, true, false, not, ◌||◌, ◌==◌, slice_get, fold, refl, ap, sym, subst, ◌∙◌, inl, inr, arith}
use Rattle.std.proofs.lemmas.Bool.{cases_Bool, and_parts}
use Rattle.std.proofs.lemmas.Bool.Decides.{nat_tests}
use Rattle.std.proofs.lemmas.List.{map_push}
use Rattle.std.proofs.lemmas.Str.{encodes-chars, IsUtf8-drop, IsCharBoundary-after_ascii}
use Rattle.std.specs.Prelude.{encode_utf8_all}
use Rattle.std.specs.Str.{bytes_eq, chars, IsUtf8}
use Rattle.clap.specs.Lexer.{long_of, short_of}
use Rattle.clap.specs.Words.{Text}
use Rattle.clap.specs.Kinds.{Kinds, or_else}
use Rattle.clap.specs.Walk.{Walk, idle, option, has_row, settled, walked}
use Rattle.clap.specs.Faults.{turn_fault, walk_fault, settle_fault}
use Rattle.aps_words.specs.Options.{Given, is_known, option_of}
use Rattle.aps_words.specs.Plain.{is_plain}
use Rattle.aps_words.proofs.Uses.{uses}
use Rattle.aps_words.proofs.ClapRules.{opts, by_id}
use Rattle.aps_words.proofs.ClapTurns.{row, rows_as, shape, At, at_rest, with_one, wants, walk_with, walk_at, IsFault, fault_first, used_new, use_ok, use_bad, dashes, unknown, bundled, stray_at_rest, stray_with_one, cut_off, value_faultless, value_walked, equals_rest, bare_rest, equals_one, bare_one}

-- ---- the first character of a bundle

first_of_chars : (y : ℕ) (ys cs : List ℕ) → encode_utf8_all cs ≡ y ∷ ys → (x : ℕ) × (slice_get cs 0 ≡ Some x)
first_of_chars y ys [] h = cc
first_of_chars y ys (c ∷ cs) h = (c, refl)

pub first_char : (y : ℕ) (ys : List ℕ) → IsUtf8 (y ∷ ys) → (x : ℕ) × (slice_get (chars (y ∷ ys)) 0 ≡ Some x)
first_char y ys u = first_of_chars y ys (chars (y ∷ ys)) (encodes-chars (y ∷ ys) u)

-- ---- names

pub row_or_not : (done : List Given) (name : Text) → has_row name (rows_as done) ≡ is_known (map (λ u. u.0) done) name
row_or_not [] name = refl
row_or_not (u ∷ done) name = ap (λ b. bytes_eq u.0 name || b) (row_or_not done name)

-- ---- the end and the answer

abbrev pub total : Text → List Text → Walk → List Text → Kinds
total label names w words = or_else (walk_fault (shape label names) [] w words) (settle_fault (opts names) false (fold (walked (opts names) []) w words).held)

abbrev pub Answers : List Text → Option (List Given) → Kinds → Walk → Type 0
Answers names None kinds end = IsFault kinds
Answers names (Some all) kinds end = (kinds ≡ []) × ((settled (opts names) end.held).rows ≡ rows_as all) × (end.stopped ≡ None)

abbrev pub uses_at : List Text → List Given → At → List Text → Option (List Given)
uses_at names done at_rest words = uses names done None words
uses_at names done (with_one n v) words = uses names (done ++ (n, v) ∷ []) None words
uses_at names done (wants n) words = uses names done (Some n) words

abbrev pub seen_at : List Given → At → List Text
seen_at done at_rest = map (λ u. u.0) done
seen_at done (with_one n v) = map (λ u. u.0) done ++ n ∷ []
seen_at done (wants n) = map (λ u. u.0) done ++ n ∷ []

abbrev pub IsRight : List Text → List Given → At → Type 0
IsRight names done at_rest = Unit {0}
IsRight names done (with_one n v) = (is_known names n ≡ true) × (has_row n (rows_as done) ≡ false)
IsRight names done (wants n) = (is_known names n ≡ true) × (has_row n (rows_as done) ≡ false)

pub at_end : (label : Text) (names : List Text) (done : List Given) (at : At) → IsRight names done at
    → Answers names (uses_at names done at []) (total label names (walk_at done at) []) (walk_at done at)
unfolding uses walk_fault
at_end label names done at_rest right = (refl, refl, refl)
at_end label names done (with_one n v) right =
    let here = by_id names n in
    (rw (here, right.0) (use_ok n v (rows_as done) right.1), rw (here, right.0) (used_new n v (rows_as done) right.1 ∙ sym (map_push row done (n, v))), refl)
at_end label names done (wants n) right = let here = by_id names n in rw (here, right.0) (use_bad n (rows_as done))

-- a word at which clap fails
pub fails : (label : Text) (names : List Text) (w : Walk) (word : Text) (words : List Text) (r : Option (List Given)) → r ≡ None → IsFault (turn_fault (shape label names) [] w word)
    → Answers names r (total label names w (word ∷ words)) (fold (walked (opts names) []) w (word ∷ words))
unfolding walk_fault
fails label names w word words r none fault = rw none (fault_first _ _ (fault_first _ _ fault))

-- a word after which it goes on
pub goes_on : (label : Text) (names : List Text) (w next : Walk) (word : Text) (words : List Text) (r : Option (List Given))
    → turn_fault (shape label names) [] w word ≡ [] → walked (opts names) [] w word ≡ next
    → Answers names r (total label names next words) (fold (walked (opts names) []) next words)
    → Answers names r (total label names w (word ∷ words)) (fold (walked (opts names) []) w (word ∷ words))
unfolding walk_fault
goes_on label names w next word words r faultless is rest =
    let P : Walk → Type 0 = λ v. Answers names r (or_else (walk_fault (shape label names) [] v words) (settle_fault (opts names) false (fold (walked (opts names) []) v words).held))
    (fold (walked (opts names) []) v words) in
    rw faultless (subst P (sym is) rest)

-- ---- what a word is

-- a bundle has a first character
pub bundle_parts : (word f : Text) → short_of word ≡ Some f → (y : ℕ) × (ys : List ℕ) × (f ≡ y ∷ ys) × (word ≡ 45 ∷ y ∷ ys)
bundle_parts [] f h = cc
bundle_parts (x ∷ []) f h =
    elim (cases_Bool (x == 45)) [
      | inl same ↦ let bad = rw same at h in cc
      | inr other ↦ let bad = rw other at h in cc
    ]
bundle_parts (x ∷ y ∷ ys) f h =
    elim (cases_Bool (x == 45)) [
      | inl same ↦ let here = rw same at h in
          elim (cases_Bool (y == 45)) [
            | inl twice ↦ let bad = rw twice at here in cc
            | inr once ↦ let e = rw once at here in let head : x ≡ 45 = grind (arith, nat_tests) in (y, ys, cc, ap (λ n. n ∷ y ∷ ys) head)
          ]
      | inr other ↦ let bad = rw other at h in cc
    ]

pub tail_text : (word : Text) (y : ℕ) (ys : List ℕ) → word ≡ 45 ∷ y ∷ ys → IsUtf8 word → IsUtf8 (y ∷ ys)
tail_text word y ys e u =
    let here : IsUtf8 (45 ∷ y ∷ ys) = subst IsUtf8 e u in
    IsUtf8-drop (45 ∷ y ∷ ys) 1 here (IsCharBoundary-after_ascii (45 ∷ y ∷ ys) 0 here (omega arith) (omega arith))

pub bundle_faults : (label : Text) (names : List Text) (done : List Given) (word f : Text) (at : At) → bytes_eq word dashes ≡ false → IsUtf8 word → long_of word ≡ None → short_of word ≡ Some f
    → IsFault (turn_fault (shape label names) [] (walk_at done at) word)
bundle_faults label names done word f at no_dashes utf8 long short =
    let parts = bundle_parts word f short in
    let first = first_char parts.0 parts.1 (tail_text word parts.0 parts.1 parts.3 utf8) in
    bundled label names done word no_dashes at parts.0 parts.1 first.0 long (short ∙ ap (λ t. Some t) parts.2) first.1

-- ---- no option twice

not_so : (b : Bool) → not b ≡ true → b ≡ false
not_so true h = cc
not_so false h = refl

pub fresh_none : (seen : List Text) (word : Text) (words : List Text) → is_plain seen (word ∷ words) ≡ true → option_of word ≡ None
    → (bytes_eq word dashes ≡ false) × (is_plain seen words ≡ true)
unfolding is_plain
fresh_none seen word words fresh none =
    let parts = and_parts _ _ (rw none at fresh) in
    (not_so _ parts.0, parts.1)

pub fresh_some : (seen : List Text) (word : Text) (words : List Text) (p : Text × Option Text) → is_plain seen (word ∷ words) ≡ true → option_of word ≡ Some p
    → (bytes_eq word dashes ≡ false) × (is_known seen p.0 ≡ false) × (is_plain (seen ++ p.0 ∷ []) words ≡ true)
unfolding is_plain
fresh_some seen word words p fresh some =
    let parts = and_parts _ _ (rw some at fresh) in
    let more = and_parts _ _ parts.1 in
    (not_so _ parts.0, not_so _ more.0, more.1)

-- ---- a step, where all goes well after it

abbrev pub Right_for : Text → List Text → List Given → At → List Text → Type 0
Right_for label names done at words = Answers names (uses_at names done at words) (total label names (walk_at done at) words) (fold (walked (opts names) []) (walk_at done at) words)

abbrev pub Always : Text → List Text → List Text → Type 0
Always label names words = (done : List Given) (at : At) → IsRight names done at → is_plain (seen_at done at) words ≡ true → Right_for label names done at words

known_after : (done : List Given) (name v : Text) → map (λ u. u.0) (done ++ (name, v) ∷ []) ≡ map (λ u. u.0) done ++ name ∷ []
known_after done name v = map_push (λ u. u.0) done (name, v)

module _ (label : Text) (names : List Text) (word : Text) (words : List Text) (utf8 : IsUtf8 word) (after : Always label names words) where
  at_option : (done : List Given) (name : Text) (value : Option Text) (known : Bool) → is_known names name ≡ known → long_of word ≡ Some (name, value)
      → is_plain (seen_at done at_rest) (word ∷ words) ≡ true → Right_for label names done at_rest (word ∷ words)
  unfolding uses
  at_option done name value false unknown_name long fresh =
      let f = fresh_some (seen_at done at_rest) word words (name, value) fresh long in
      fails label names (walk_at done at_rest) word words _ (rw (long, unknown_name)) (unknown label names done word f.0 at_rest (name, value) long unknown_name)
  at_option done name None true known long fresh =
      let f = fresh_some (seen_at done at_rest) word words (name, None) fresh long in
      let new : has_row name (rows_as done) ≡ false = row_or_not done name ∙ f.1 in
      let turn = bare_rest label names done word f.0 name long known in
      rw (long, known) (goes_on label names (walk_at done at_rest) (walk_at done (wants name)) word words _ turn.0 turn.1 (after done (wants name) (known, new) f.2))
  at_option done name (Some v) true known long fresh =
      let f = fresh_some (seen_at done at_rest) word words (name, Some v) fresh long in
      let new : has_row name (rows_as done) ≡ false = row_or_not done name ∙ f.1 in
      let turn = equals_rest label names done word f.0 name v long known new in
      let next = ap (λ rows. walk_with rows None idle) (sym (map_push row done (name, v))) in
      let seen : is_plain (seen_at (done ++ (name, v) ∷ []) at_rest) words ≡ true = rw (known_after done name v) f.2 in
      rw (long, known) (goes_on label names (walk_at done at_rest) (walk_at (done ++ (name, v) ∷ []) at_rest) word words _ turn.0 (turn.1 ∙ next) (after (done ++ (name, v) ∷ []) at_rest tt seen))

  one_option : (done : List Given) (n u name : Text) (value : Option Text) (known : Bool) → IsRight names done (with_one n u) → is_known names name ≡ known
      → long_of word ≡ Some (name, value) → is_plain (seen_at done (with_one n u)) (word ∷ words) ≡ true → Right_for label names done (with_one n u) (word ∷ words)
  unfolding uses
  one_option done n u name value false right unknown_name long fresh =
      let f = fresh_some (seen_at done (with_one n u)) word words (name, value) fresh long in
      fails label names (walk_at done (with_one n u)) word words _ (rw (long, unknown_name)) (unknown label names done word f.0 (with_one n u) (name, value) long unknown_name)
  one_option done n u name None true right known long fresh =
      let more = done ++ (n, u) ∷ [] in
      let f = fresh_some (seen_at done (with_one n u)) word words (name, None) fresh long in
      let new : has_row name (rows_as more) ≡ false = row_or_not more name ∙ rw (known_after done n u) f.1 in
      let turn = bare_one label names done word f.0 n u right.0 right.1 name long known in
      let next = ap (λ rows. walk_with rows (Some (name, [])) (option name)) (sym (map_push row done (n, u))) in
      let seen : is_plain (seen_at more (wants name)) words ≡ true = rw (known_after done n u) f.2 in
      rw (long, known) (goes_on label names (walk_at done (with_one n u)) (walk_at more (wants name)) word words _ turn.0 (turn.1 ∙ next) (after more (wants name) (known, new) seen))
  one_option done n u name (Some v) true right known long fresh =
      let more = done ++ (n, u) ∷ [] in
      let f = fresh_some (seen_at done (with_one n u)) word words (name, Some v) fresh long in
      let new : has_row name (rows_as more) ≡ false = row_or_not more name ∙ rw (known_after done n u) f.1 in
      let new_here : has_row name (rows_as done ++ row (n, u) ∷ []) ≡ false = rw (← map_push row done (n, u)) new in
      let turn = equals_one label names done word f.0 n u right.0 right.1 name v long known new_here in
      let next = ap (λ rows. walk_with (rows ++ row (name, v) ∷ []) None idle) (sym (map_push row done (n, u))) ∙ ap (λ rows. walk_with rows None idle) (sym (map_push row more (name, v))) in
      let seen : is_plain (seen_at (more ++ (name, v) ∷ []) at_rest) words ≡ true = rw (known_after more name v, known_after done n u) f.2 in
      rw (long, known) (goes_on label names (walk_at done (with_one n u)) (walk_at (more ++ (name, v) ∷ []) at_rest) word words _ turn.0 (turn.1 ∙ next) (after (more ++ (name, v) ∷ []) at_rest tt seen))

  wants_option : (done : List Given) (n name : Text) (value : Option Text) (known : Bool) → IsRight names done (wants n) → is_known names name ≡ known
      → long_of word ≡ Some (name, value) → is_plain (seen_at done (wants n)) (word ∷ words) ≡ true → Right_for label names done (wants n) (word ∷ words)
  unfolding uses
  wants_option done n name value false right unknown_name long fresh =
      let f = fresh_some (seen_at done (wants n)) word words (name, value) fresh long in
      fails label names (walk_at done (wants n)) word words _ (rw long) (unknown label names done word f.0 (wants n) (name, value) long unknown_name)
  wants_option done n name value true right known long fresh =
      let f = fresh_some (seen_at done (wants n)) word words (name, value) fresh long in
      fails label names (walk_at done (wants n)) word words _ (rw long) (cut_off label names done word f.0 n name value right.0 long known)

  option_step : (done : List Given) (at : At) (p : Text × Option Text) → IsRight names done at → long_of word ≡ Some p
      → is_plain (seen_at done at) (word ∷ words) ≡ true → Right_for label names done at (word ∷ words)
  option_step done at_rest p right long fresh = at_option done p.0 p.1 (is_known names p.0) refl long fresh
  option_step done (with_one n u) p right long fresh = one_option done n u p.0 p.1 (is_known names p.0) right refl long fresh
  option_step done (wants n) p right long fresh = wants_option done n p.0 p.1 (is_known names p.0) right refl long fresh

  other_step : (done : List Given) (at : At) (bundle : Option Text) → IsRight names done at → long_of word ≡ None → short_of word ≡ bundle
      → is_plain (seen_at done at) (word ∷ words) ≡ true → Right_for label names done at (word ∷ words)
  unfolding uses
  other_step done at_rest (Some b) right long short fresh =
      let f = fresh_none (seen_at done at_rest) word words fresh long in
      fails label names (walk_at done at_rest) word words _ (rw long) (bundle_faults label names done word b at_rest f.0 utf8 long short)
  other_step done at_rest None right long short fresh =
      let f = fresh_none (seen_at done at_rest) word words fresh long in
      fails label names (walk_at done at_rest) word words _ (rw long) (stray_at_rest label names done word f.0 long short)
  other_step done (with_one n u) (Some b) right long short fresh =
      let f = fresh_none (seen_at done (with_one n u)) word words fresh long in
      fails label names (walk_at done (with_one n u)) word words _ (rw long) (bundle_faults label names done word b (with_one n u) f.0 utf8 long short)
  other_step done (with_one n u) None right long short fresh =
      let f = fresh_none (seen_at done (with_one n u)) word words fresh long in
      fails label names (walk_at done (with_one n u)) word words _ (rw long) (stray_with_one label names done word f.0 n u long short)
  other_step done (wants n) (Some b) right long short fresh =
      let f = fresh_none (seen_at done (wants n)) word words fresh long in
      fails label names (walk_at done (wants n)) word words _ (rw (long, short)) (bundle_faults label names done word b (wants n) f.0 utf8 long short)
  other_step done (wants n) None right long short fresh =
      let f = fresh_none (seen_at done (wants n)) word words fresh long in
      rw (long, short) (goes_on label names (walk_at done (wants n)) (walk_at done (with_one n word)) word words _
      (value_faultless label names done word f.0 n right.0 long short) (value_walked label names done word f.0 n right.0 long short) (after done (with_one n word) right f.1))

  any_step : (done : List Given) (at : At) (o : Option (Text × Option Text)) → IsRight names done at → long_of word ≡ o
      → is_plain (seen_at done at) (word ∷ words) ≡ true → Right_for label names done at (word ∷ words)
  any_step done at None right long fresh = other_step done at (short_of word) right long refl fresh
  any_step done at (Some p) right long fresh = option_step done at p right long fresh

abbrev pub AreTexts : List Text → Type 0
AreTexts [] = Unit {0}
AreTexts (word ∷ words) = IsUtf8 word × AreTexts words

-- clap's walk gives the uses, or a fault
pub walk-uses : (label : Text) (names words : List Text) → AreTexts words → Always label names words
walk-uses label names [] utf8 = λ done at right fresh. at_end label names done at right
walk-uses label names (word ∷ words) utf8 = λ done at right fresh. any_step label names word words utf8.0 (walk-uses label names words utf8.1) done at (long_of word) right refl fresh
