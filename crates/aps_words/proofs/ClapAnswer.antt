-- What clap answers for a command with options of one plain value each.
use Rattle.std.proofs.Common.{◌≡◌, List, [], ◌∷◌, Option, Some, None, true, false, fold, refl, ap, ◌∙◌, inl, inr}
use Rattle.std.proofs.lemmas.Bool.{cases_Bool}
use Rattle.std.specs.Str.{bytes_eq}
use Rattle.std.specs.Prelude.{MatchOption}
use Rattle.clap.specs.Words.{App, Text, Row, first_of}
use Rattle.clap.specs.Kinds.{Kinds, or_else}
use Rattle.clap.specs.Walk.{Walk, has_row, settled, walked, with_default, rows_after, nothing_held}
use Rattle.clap.specs.Faults.{walk_fault, settle_fault, default_fault, defaults_fault, check_fault, built_fault}
use Rattle.aps_words.specs.Options.{Given, option_value}
use Rattle.aps_words.specs.Plain.{is_plain}
use Rattle.aps_words.proofs.Uses.{uses}
use Rattle.aps_words.proofs.ClapRules.{opt, opts}
use Rattle.aps_words.proofs.ClapTurns.{rows_as, shape, at_rest, walk_at, IsFault}
use Rattle.aps_words.proofs.ClapWalk.{total, AreTexts, Answers, walk-uses}

-- a built command with options of these names
abbrev pub built_with : Text → List Text → App
built_with label names = record { top = shape label names; subs = [] }

-- ---- no option has a default

no_default : (rows : List Row) (name : Text) → with_default rows (opt name) ≡ rows
no_default rows name =
    elim (cases_Bool (has_row name rows)) [ inl there ↦ rw there | inr gone ↦ rw gone ]

no_default_fault : (rows : List Row) (name : Text) → default_fault rows (opt name) ≡ []
no_default_fault rows name =
    elim (cases_Bool (has_row name rows)) [ inl there ↦ rw there | inr gone ↦ rw gone ]

no_defaults : (names : List Text) (rows : List Row) → fold with_default rows (opts names) ≡ rows
no_defaults [] rows = refl
no_defaults (name ∷ names) rows = ap (λ r. fold with_default r (opts names)) (no_default rows name) ∙ no_defaults names rows

no_defaults_fault : (names : List Text) (rows : List Row) → defaults_fault rows (opts names) ≡ []
unfolding defaults_fault
no_defaults_fault [] rows = refl
no_defaults_fault (name ∷ names) rows = rw (no_default_fault rows name) (no_defaults_fault names (with_default rows (opt name)))

-- ---- no option is required

none_required : (label : Text) (names : List Text) (rows : List Row) → check_fault (shape label names) rows false ≡ []
none_required label [] rows = refl
none_required label (name ∷ names) rows = none_required label names rows

-- ---- the whole answer

later_fault : (a below b c : Kinds) → IsFault (or_else a b) → IsFault (or_else a (or_else below (or_else b c)))
later_fault (k ∷ ks) below b c h = tt
later_fault [] (k ∷ ks) b c h = tt
later_fault [] [] (k ∷ ks) c h = tt
later_fault [] [] [] c h = elim h [ ]

both_none : (a b : Kinds) → or_else a b ≡ [] → (a ≡ []) × (b ≡ [])
both_none [] b h = (refl, h)
both_none (k ∷ ks) b h = cc

abbrev pub fault_with : Text → List Text → List Text → Kinds
fault_with label names words = built_fault (built_with label names) nothing_held words

abbrev end_of : List Text → List Text → Walk
end_of names words = fold (walked (opts names) []) (walk_at [] at_rest) words

refused : (label : Text) (names words : List Text) → IsFault (total label names (walk_at [] at_rest) words) → IsFault (fault_with label names words)
refused label names words fault =
    later_fault (walk_fault (shape label names) [] (walk_at [] at_rest) words) _ (settle_fault (opts names) false (end_of names words).held) _ fault

taken : (label : Text) (names words : List Text) (all : List Given) → total label names (walk_at [] at_rest) words ≡ []
    → (settled (opts names) (end_of names words).held).rows ≡ rows_as all → (end_of names words).stopped ≡ None
    → (fault_with label names words ≡ []) × (rows_after (opts names) [] words ≡ rows_as all)
taken label names words all none rows stopped =
    let parts = both_none (walk_fault (shape label names) [] (walk_at [] at_rest) words) (settle_fault (opts names) false (end_of names words).held) none in
    let held = (end_of names words).held in (
      rw (stopped, parts.0, parts.1, no_defaults_fault names (settled (opts names) held).rows) (none_required label names _),
      no_defaults names _ ∙ rows,
    )

-- clap finds a fault just where the words are no uses, and else has a row for each
pub exactly : (label : Text) (names words : List Text) → AreTexts words → is_plain [] words ≡ true
    → MatchOption (uses names [] None words) (IsFault (fault_with label names words)) (λ all. (fault_with label names words ≡ []) × (rows_after (opts names) [] words ≡ rows_as all))
exactly label names words utf8 plain = by (uses names [] None words) (walk-uses label names words utf8 [] at_rest tt plain)
  where
    by : (r : Option (List Given)) → Answers names r (total label names (walk_at [] at_rest) words) (end_of names words)
        → MatchOption r (IsFault (fault_with label names words)) (λ all. (fault_with label names words ≡ []) × (rows_after (opts names) [] words ≡ rows_as all))
    by None h = refused label names words h
    by (Some all) h = taken label names words all h.0 h.1 h.2

-- the value in a row is the option's
pub first-rows : (name : Text) (all : List Given) → first_of name (rows_as all) ≡ option_value all name
first-rows name [] = refl
first-rows name (option ∷ all) =
    elim (cases_Bool (bytes_eq option.0 name)) [ inl same ↦ rw same | inr other ↦ rw other (first-rows name all) ]
