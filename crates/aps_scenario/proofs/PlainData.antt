-- Data of ASCII texts, of numbers that fit and of truth values, and the lines of a document of such data.
use Rattle.std.proofs.Common.{◌≡◌, ℕ, ◌<◌, ◌^◌, ℤ, pos, negsuc, true, List, [], ◌∷◌, ◌++◌, refl, inl, inr}
use Rattle.std.proofs.lemmas.Bool.{cases_Bool}
use Rattle.std.specs.Str.{IsAscii}
use Rattle.toml_writer.specs.Text.{key_text}
use Rattle.toml.specs.Data.{Data, string, integer, float, boolean, datetime, array, table, Items, no_items, item, Members, no_members, member, is_before, is_sorted, items_are_sorted, members_are_sorted, has_valid_dates, items_have_valid_dates, members_have_valid_dates}
use Rattle.toml.specs.Tables.{Definition, key_value, Expression}
use Rattle.toml.specs.Text.{is_section, are_tables, needs_header, pairs, sections, section, elements, expressions}

-- each byte is ASCII
pub record IsAsciiText (text : List ℕ) : Type 0 where
  pub bytes : IsAscii text

abbrev IsNumber : ℤ → Type 0
IsNumber (pos n) = n < 2 ^ 63
IsNumber (negsuc n) = ⊥

-- no float and no date-time is inside, and the keys of each table are written in ASCII and ascend
abbrev mutual
  pub IsPlain : Data → Type 0
  IsPlain (string s) = IsAsciiText s
  IsPlain (integer z) = IsNumber z
  IsPlain (float x) = ⊥
  IsPlain (boolean b) = Unit {0}
  IsPlain (datetime dt) = ⊥
  IsPlain (array ds) = AreItemsPlain ds
  IsPlain (table ms) = AreMembersPlain ms

  pub AreItemsPlain : Items → Type 0
  AreItemsPlain no_items = Unit {0}
  AreItemsPlain (item d ds) = IsPlain d × AreItemsPlain ds

  pub AreMembersPlain : Members → Type 0
  AreMembersPlain no_members = Unit {0}
  AreMembersPlain (member k d ms) = IsAsciiText (key_text k) × IsPlain d × (is_before k ms ≡ true) × AreMembersPlain ms

mutual
  value-dates : (d : Data) → IsPlain d → has_valid_dates d ≡ true
  value-dates (string s) plain = refl
  value-dates (integer z) plain = refl
  value-dates (float x) plain = absurd plain
  value-dates (boolean b) plain = refl
  value-dates (datetime dt) plain = absurd plain
  value-dates (array ds) plain = items-dates ds plain
  value-dates (table ms) plain = members-dates ms plain

  items-dates : (ds : Items) → AreItemsPlain ds → items_have_valid_dates ds ≡ true
  items-dates no_items plain = refl
  items-dates (item d ds) plain = rw (value-dates d plain.0, items-dates ds plain.1) refl

  pub members-dates : (ms : Members) → AreMembersPlain ms → members_have_valid_dates ms ≡ true
  members-dates no_members plain = refl
  members-dates (member k d ms) plain = rw (value-dates d plain.1, members-dates ms plain.3) refl

mutual
  value-sorted : (d : Data) → IsPlain d → is_sorted d ≡ true
  value-sorted (string s) plain = refl
  value-sorted (integer z) plain = refl
  value-sorted (float x) plain = absurd plain
  value-sorted (boolean b) plain = refl
  value-sorted (datetime dt) plain = absurd plain
  value-sorted (array ds) plain = items-sorted ds plain
  value-sorted (table ms) plain = members-sorted ms plain

  items-sorted : (ds : Items) → AreItemsPlain ds → items_are_sorted ds ≡ true
  items-sorted no_items plain = refl
  items-sorted (item d ds) plain = rw (value-sorted d plain.0, items-sorted ds plain.1) refl

  pub members-sorted : (ms : Members) → AreMembersPlain ms → members_are_sorted ms ≡ true
  members-sorted no_members plain = refl
  members-sorted (member k d ms) plain = rw (plain.2, value-sorted d plain.1, members-sorted ms plain.3) refl

-- ---- lines

abbrev pub AreKeysPlain : List (List ℕ) → Type 0
AreKeysPlain [] = Unit {0}
AreKeysPlain (k ∷ ks) = IsAsciiText (key_text k) × AreKeysPlain ks

abbrev pub IsDefinitionPlain : Definition → Type 0
IsDefinitionPlain (key_value d) = IsPlain d
IsDefinitionPlain _ = Unit {0}

pub record IsLinePlain (line : Expression) : Type 0 where
  pub path : AreKeysPlain line.0.0
  pub key : IsAsciiText (key_text line.0.1)
  pub what : IsDefinitionPlain line.1

abbrev pub AreLinesPlain : List Expression → Type 0
AreLinesPlain [] = Unit {0}
AreLinesPlain (e ∷ es) = IsLinePlain e × AreLinesPlain es

both : (es fs : List Expression) → AreLinesPlain es → AreLinesPlain fs → AreLinesPlain (es ++ fs)
both [] fs a b = b
both (e ∷ es) fs a b = (a.0, both es fs a.1 b)

below : (path : List (List ℕ)) (k : List ℕ) → AreKeysPlain path → IsAsciiText (key_text k) → AreKeysPlain (path ++ k ∷ [])
below [] k keys ascii = (ascii, tt)
below (l ∷ path) k keys ascii = (keys.0, below path k keys.1 ascii)

in_pairs : (ms : Members) → AreMembersPlain ms → AreLinesPlain (pairs ms)
in_pairs no_members plain = tt
in_pairs (member k d ms) plain =
    elim (cases_Bool (is_section d)) [
      | inl in_section ↦ rw in_section (in_pairs ms plain.3)
      | inr pair ↦ rw pair (record { path = tt; key = plain.0; what = plain.1 }, in_pairs ms plain.3)
    ]

mutual
  in_sections : (path : List (List ℕ)) (ms : Members) → AreKeysPlain path → AreMembersPlain ms → AreLinesPlain (sections path ms)
  in_sections path no_members keys plain = tt
  in_sections path (member k d ms) keys plain = both _ _ (in_section path k d keys plain.0 plain.1) (in_sections path ms keys plain.3)

  in_section : (path : List (List ℕ)) (k : List ℕ) (d : Data) → AreKeysPlain path → IsAsciiText (key_text k) → IsPlain d → AreLinesPlain (section (path, k) d)
  in_section path k (string s) keys ascii plain = tt
  in_section path k (integer z) keys ascii plain = tt
  in_section path k (float x) keys ascii plain = tt
  in_section path k (boolean b) keys ascii plain = tt
  in_section path k (datetime dt) keys ascii plain = tt
  in_section path k (array ds) keys ascii plain =
      elim (cases_Bool (are_tables ds)) [
        | inl all ↦ rw all (in_elements path k ds keys ascii plain)
        | inr other ↦ rw other tt
      ]
  in_section path k (table ms) keys ascii plain =
      let lines = both _ _ (in_pairs ms plain) (in_sections (path ++ k ∷ []) ms (below path k keys ascii) plain) in
      elim (cases_Bool (needs_header ms)) [
        | inl needed ↦ rw needed (record { path = keys; key = ascii; what = tt }, lines)
        | inr implied ↦ rw implied lines
      ]

  in_elements : (path : List (List ℕ)) (k : List ℕ) (ds : Items) → AreKeysPlain path → IsAsciiText (key_text k) → AreItemsPlain ds → AreLinesPlain (elements (path, k) ds)
  in_elements path k no_items keys ascii plain = tt
  in_elements path k (item (string s) ds) keys ascii plain = in_elements path k ds keys ascii plain.1
  in_elements path k (item (integer z) ds) keys ascii plain = in_elements path k ds keys ascii plain.1
  in_elements path k (item (float x) ds) keys ascii plain = in_elements path k ds keys ascii plain.1
  in_elements path k (item (boolean b) ds) keys ascii plain = in_elements path k ds keys ascii plain.1
  in_elements path k (item (datetime dt) ds) keys ascii plain = in_elements path k ds keys ascii plain.1
  in_elements path k (item (array xs) ds) keys ascii plain = in_elements path k ds keys ascii plain.1
  in_elements path k (item (table ms) ds) keys ascii plain =
      let lines = both _ _ (in_pairs ms plain.0) (in_sections (path ++ k ∷ []) ms (below path k keys ascii) plain.0) in
      (record { path = keys; key = ascii; what = tt }, both _ _ lines (in_elements path k ds keys ascii plain.1))

pub expressions-plain : (ms : Members) → AreMembersPlain ms → AreLinesPlain (expressions ms)
expressions-plain ms plain = both _ _ (in_pairs ms plain) (in_sections [] ms tt plain)
