-- What the words of each command with options say.
use Rattle.std.proofs.Common.{◌≡◌, ℕ, List, [], ◌∷◌, map, rules, drop, codes, Option, Some, None, true, false, refl, ap, sym, ◌∙◌, inl, inr, String, Global, string_bytes}
use Rattle.std.proofs.lemmas.Bool.{cases_Bool, false≢true}
use Rattle.std.specs.Str.{bytes_eq}
use Rattle.aps_model.specs.Limits.{greatest_u64, most_cpus, most_entries, most_partitions, most_ticks}
use Rattle.clap.specs.Words.{Text}
use Rattle.clap.proofs.OnLiterals.{clap_on_literals}
use Rattle.aps_words.specs.declared.command.Command.{Command}
use Rattle.aps_words.specs.declared.command.Command.TheVariants.{Upgrade, Admit}
use Rattle.aps_words.specs.Options.{is_known}
use Rattle.aps_words.specs.Number.{number_in}
use Rattle.aps_words.specs.Values.{report_of, order_of, required_in}
use Rattle.aps_words.specs.Command.{◌>>=◌, solo, run, gen, check, solo_options, run_options, gen_options, check_options, alone, command}
use Rattle.aps_words.specs.Plain.{is_plain}
use Rattle.aps_words.proofs.Hyphens.{begins_with_hyphen}
use Rattle.aps_words.proofs.Reading.{IsRead, known_or, unplain}

-- ---- values that begin with a hyphen

hyphened : (value : Text) → begins_with_hyphen value ≡ true → (rest : Text) × (value ≡ 45 ∷ rest)
hyphened [] h = absurd (false≢true h)
hyphened (c ∷ cs) h = let head : c ≡ 45 = search rules in (cs, ap (λ n. n ∷ cs) head)

module _ (value : Text) (hyphen : begins_with_hyphen value ≡ true) where
  no_report : report_of (Some value) ≡ None
  no_report = let p = hyphened value hyphen in rw p.1 refl

  no_order : order_of (Some value) ≡ None
  no_order = let p = hyphened value hyphen in rw p.1 refl

  no_number : (low high : ℕ) → number_in low high value ≡ None
  no_number low high = let p = hyphened value hyphen in rw p.1 refl

bind_none : {A B : Type 0} (o : Option A) → ◌>>=◌ {B = B} o (λ _. None) ≡ None
bind_none None = refl
bind_none (Some x) = refl

-- ---- the commands with options

solo_none : (f : Text → Option Text) (name value : Text) → is_known solo_options name ≡ true → f name ≡ Some value → begins_with_hyphen value ≡ true → solo f ≡ None
solo_none f name value known there hyphen =
    elim (known_or (codes "report") name (codes "limit" ∷ []) known) [
      | inl e ↦ let here : f (codes "report") ≡ Some value = ap f (sym e) ∙ there in rw (here, no_report value hyphen) refl
      | inr rest ↦ elim (known_or (codes "limit") name [] rest) [
        | inl e ↦ let here : f (codes "limit") ≡ Some value = ap f (sym e) ∙ there in rw (here, no_number value hyphen 1 most_entries) (bind_none _)
        | inr never ↦ absurd (false≢true never)
      ]
    ]

run_none : (f : Text → Option Text) (name value : Text) → is_known run_options name ≡ true → f name ≡ Some value → begins_with_hyphen value ≡ true → run f ≡ None
run_none f name value known there hyphen =
    elim (known_or (codes "order") name (codes "report" ∷ codes "limit" ∷ []) known) [
      | inl e ↦ let here : f (codes "order") ≡ Some value = ap f (sym e) ∙ there in rw (here, no_order value hyphen) refl
      | inr rest ↦ elim (known_or (codes "report") name (codes "limit" ∷ []) rest) [
        | inl e ↦ let here : f (codes "report") ≡ Some value = ap f (sym e) ∙ there in rw (here, no_report value hyphen) (bind_none _)
        | inr rest ↦ elim (known_or (codes "limit") name [] rest) [
          | inl e ↦ let here : f (codes "limit") ≡ Some value = ap f (sym e) ∙ there in rw (here, no_number value hyphen 1 most_entries, bind_none (report_of (f (codes "report")))) (bind_none _)
          | inr never ↦ absurd (false≢true never)
        ]
      ]
    ]

gen_none : (f : Text → Option Text) (name value : Text) → is_known gen_options name ≡ true → f name ≡ Some value → begins_with_hyphen value ≡ true → gen f ≡ None
gen_none f name value known there hyphen =
    elim (known_or (codes "seed") name (codes "cpus" ∷ codes "partitions" ∷ codes "ticks" ∷ []) known) [
      | inl e ↦ let here : f (codes "seed") ≡ Some value = ap f (sym e) ∙ there in rw (here, no_number value hyphen 0 greatest_u64) refl
      | inr rest ↦ elim (known_or (codes "cpus") name (codes "partitions" ∷ codes "ticks" ∷ []) rest) [
        | inl e ↦ let here : f (codes "cpus") ≡ Some value = ap f (sym e) ∙ there in rw (here, no_number value hyphen 1 most_cpus) (bind_none _)
        | inr rest ↦ elim (known_or (codes "partitions") name (codes "ticks" ∷ []) rest) [
          | inl e ↦ let here : f (codes "partitions") ≡ Some value = ap f (sym e) ∙ there in
              rw (here, no_number value hyphen 1 most_partitions, bind_none (required_in 1 most_cpus (f (codes "cpus")))) (bind_none _)
          | inr rest ↦ elim (known_or (codes "ticks") name [] rest) [
            | inl e ↦ let here : f (codes "ticks") ≡ Some value = ap f (sym e) ∙ there in
                rw (here, no_number value hyphen 1 most_ticks, bind_none (required_in 1 most_partitions (f (codes "partitions"))), bind_none (required_in 1 most_cpus (f (codes "cpus")))) (bind_none _)
            | inr never ↦ absurd (false≢true never)
          ]
        ]
      ]
    ]

check_none : (f : Text → Option Text) (name value : Text) → is_known check_options name ≡ true → f name ≡ Some value → begins_with_hyphen value ≡ true → check f ≡ None
check_none f name value known there hyphen =
    elim (known_or (codes "order") name (codes "limit" ∷ []) known) [
      | inl e ↦ let here : f (codes "order") ≡ Some value = ap f (sym e) ∙ there in rw (here, no_order value hyphen) refl
      | inr rest ↦ elim (known_or (codes "limit") name [] rest) [
        | inl e ↦ let here : f (codes "limit") ≡ Some value = ap f (sym e) ∙ there in rw (here, no_number value hyphen 1 most_entries) (bind_none _)
        | inr never ↦ absurd (false≢true never)
      ]
    ]

pub solo_is_read : IsRead (codes "solo") solo_options solo
unfolding clap_on_literals
solo_is_read = record {
  clapped = record {
    simple = refl;
    fault = λ words. refl;
    rows = λ words. refl;
    same = λ f g e. rw (e (codes "report"), e (codes "limit")) refl;
  };
  none = solo_none;
}

pub run_is_read : IsRead (codes "run") run_options run
unfolding clap_on_literals
run_is_read = record {
  clapped = record {
    simple = refl;
    fault = λ words. refl;
    rows = λ words. refl;
    same = λ f g e. rw (e (codes "order"), e (codes "report"), e (codes "limit")) refl;
  };
  none = run_none;
}

pub gen_is_read : IsRead (codes "gen") gen_options gen
unfolding clap_on_literals
gen_is_read = record {
  clapped = record {
    simple = refl;
    fault = λ words. refl;
    rows = λ words. refl;
    same = λ f g e. rw (e (codes "seed"), e (codes "cpus"), e (codes "partitions"), e (codes "ticks")) refl;
  };
  none = gen_none;
}

pub check_is_read : IsRead (codes "check") check_options check
unfolding clap_on_literals
check_is_read = record {
  clapped = record {
    simple = refl;
    fault = λ words. refl;
    rows = λ words. refl;
    same = λ f g e. rw (e (codes "order"), e (codes "limit")) refl;
  };
  none = check_none;
}

-- words behind a command that has no options are none of its
unplain_alone : (asked : Command) (words : List Text) → is_plain [] words ≡ false → alone asked words ≡ None
unfolding is_plain
unplain_alone asked [] h = absurd (false≢true (sym h))
unplain_alone asked (word ∷ words) h = refl

pub unplain_none : (ss : List (String Global)) → is_plain [] (map string_bytes (drop 1 ss)) ≡ false → command (map string_bytes ss) ≡ None
unplain_none [] h = refl
unplain_none (s ∷ ss) h =
    let words = map string_bytes ss in
    let bare = unplain (codes "solo") solo_options solo solo_is_read words h in
    let threaded = unplain (codes "run") run_options run run_is_read words h in
    let made = unplain (codes "gen") gen_options gen gen_is_read words h in
    let judged = unplain (codes "check") check_options check check_is_read words h in
    elim (cases_Bool (bytes_eq (string_bytes s) (codes "solo"))) [
      | inl is ↦ rw is bare
      | inr differs ↦ elim (cases_Bool (bytes_eq (string_bytes s) (codes "run"))) [
        | inl is ↦ rw (differs, is) threaded
        | inr other ↦ elim (cases_Bool (bytes_eq (string_bytes s) (codes "gen"))) [
          | inl is ↦ rw (differs, other, is) made
          | inr third ↦ elim (cases_Bool (bytes_eq (string_bytes s) (codes "upgrade"))) [
            | inl is ↦ rw (differs, other, third, is) (unplain_alone Upgrade words h)
            | inr fourth ↦ elim (cases_Bool (bytes_eq (string_bytes s) (codes "check"))) [
              | inl is ↦ rw (differs, other, third, fourth, is) judged
              | inr fifth ↦ elim (cases_Bool (bytes_eq (string_bytes s) (codes "admit"))) [
                | inl is ↦ rw (differs, other, third, fourth, fifth, is) (unplain_alone Admit words h)
                | inr last ↦ rw (differs, other, third, fourth, fifth, last) refl
              ]
            ]
          ]
        ]
      ]
    ]
