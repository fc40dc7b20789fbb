-- The rules of the options, as clap builds them.
use Rattle.std.proofs.Common.{◌≡◌, ℕ, List, [], ◌∷◌, map, Some, None, refl, inl, inr}
use Rattle.std.proofs.lemmas.Bool.{cases_Bool}
use Rattle.std.proofs.lemmas.Slice.Eq.{bytes_eq-Decides}
use Rattle.std.specs.Str.{bytes_eq}
use Rattle.std.specs.Prelude.{if◌then◌else◌}
use Rattle.clap.specs.Lexer.{long_of, short_of}
use Rattle.clap.specs.Words.{Rule, Text, new_rule}
use Rattle.clap.specs.Walk.{arg_by_id, arg_by_long, arg_by_short, arg_by_index}
use Rattle.clap.specs.declared.builder.ArgAction.TheVariants.{Set}
use Rattle.clap.specs.declared.builder.ValueParser.TheVariants as vp
use Rattle.aps_words.specs.Options.{option_of, is_known}
use Rattle.aps_words.proofs.Uses.{bundle_of}

-- an option's rule as it is built
abbrev pub opt : Text → Rule
opt name = record (new_rule name) { long = Some name; action = Some Set; range = Some (record { start_inclusive = 1; end_inclusive = 1 }); parser = Some vp.String }

abbrev pub opts : List Text → List Rule
opts names = map opt names

pub same_option : (word : Text) → option_of word ≡ long_of word
same_option word = refl

pub same_bundle : (word : Text) → bundle_of word ≡ short_of word
same_bundle word = refl

pub by_long : (names : List Text) (name : Text) → arg_by_long (opts names) name ≡ (if is_known names name then Some (opt name) else None)
by_long [] name = refl
by_long (m ∷ names) name =
    elim (cases_Bool (bytes_eq m name)) [
      | inl same ↦ let e : m ≡ name = (bytes_eq-Decides m name).0 same in rw (same, e)
      | inr other ↦ rw other (by_long names name)
    ]

pub by_id : (names : List Text) (name : Text) → arg_by_id (opts names) name ≡ (if is_known names name then Some (opt name) else None)
by_id [] name = refl
by_id (m ∷ names) name =
    elim (cases_Bool (bytes_eq m name)) [
      | inl same ↦ let e : m ≡ name = (bytes_eq-Decides m name).0 same in rw (same, e)
      | inr other ↦ rw other (by_id names name)
    ]

pub by_short : (names : List Text) (x : ℕ) → arg_by_short (opts names) x ≡ None
by_short [] x = refl
by_short (m ∷ names) x = by_short names x

pub by_index : (names : List Text) (i : ℕ) → arg_by_index (opts names) i ≡ None
by_index [] i = refl
by_index (m ∷ names) i = by_index names i
