-- A document of plain data has its text and no other.
use Rattle.std.proofs.Common.{◌≡◌, ℕ, pos, negsuc, Bool, true, false, List, [], ◌∷◌, ◌++◌, codes, refl, ap, ◌∙◌, arith}
use Rattle.toml_writer.specs.Text.{key_text, dotted_text}
use Rattle.toml.specs.Data.{Data, string, integer, float, boolean, datetime, array, table, Items, no_items, item, Members, no_members, member}
use Rattle.toml.specs.Tables.{Definition, key_value, std_table, array_table, Expression}
use Rattle.toml.specs.Text.{IsValueText, IsItemsText, IsMembersText, IsLineText, IsLinesText, IsDocumentText, breaks_lines, before_item, after_item, before_member, expressions}
use Rattle.aps_scenario.specs.DocumentText.{Key, value_text, items_text, members_text, line_text, lines_text, document_text}
use Rattle.aps_scenario.proofs.PlainData.{IsPlain, AreItemsPlain, AreMembersPlain, IsDefinitionPlain, AreLinesPlain, expressions-plain}

-- ---- no other text

mutual
  value-text : (d : Data) (text : List ℕ) → IsPlain d → IsValueText true d text → text ≡ value_text d
  value-text (string s) text plain is = is
  value-text (integer z) text plain is = is.0
  value-text (float x) text plain is = absurd plain
  value-text (boolean b) text plain is = is
  value-text (datetime dt) text plain is = absurd plain
  value-text (array ds) text plain is =
      let (rest, whole, inside) = is in
      whole ∙ ap (λ (t : List ℕ). codes "[" ++ t) (items-text (breaks_lines true ds) true ds rest plain inside)
  value-text (table ms) text plain is =
      let (rest, whole, inside) = is in
      whole ∙ ap (λ (t : List ℕ). codes "{" ++ t) (members-text true ms rest plain inside)

  items-text : (lines is_first : Bool) (ds : Items) (text : List ℕ) → AreItemsPlain ds → IsItemsText true lines is_first ds text → text ≡ items_text lines is_first ds
  items-text lines is_first no_items text plain is = is
  items-text lines is_first (item d ds) text plain is =
      let (this, rest, whole, here, more) = is in
      whole
      ∙ ap (λ (t : List ℕ). before_item lines is_first ++ (t ++ (after_item lines ++ rest))) (value-text d this plain.0 here)
      ∙ ap (λ (t : List ℕ). before_item lines is_first ++ (value_text d ++ (after_item lines ++ t))) (items-text lines false ds rest plain.1 more)

  members-text : (is_first : Bool) (ms : Members) (text : List ℕ) → AreMembersPlain ms → IsMembersText true is_first ms text → text ≡ members_text is_first ms
  members-text is_first no_members text plain is = is
  members-text is_first (member k d ms) text plain is =
      let (this, rest, whole, here, more, ordered) = is in
      whole
      ∙ ap (λ (t : List ℕ). before_member is_first ++ (key_text k ++ (codes " = " ++ (t ++ rest)))) (value-text d this plain.1 here)
      ∙ ap (λ (t : List ℕ). before_member is_first ++ (key_text k ++ (codes " = " ++ (value_text d ++ t)))) (members-text false ms rest plain.3 more)

line-text : (started : Bool) (key : Key) (what : Definition) (text : List ℕ) → IsDefinitionPlain what → IsLineText true started key what text → text ≡ line_text started key what
line-text started key (key_value d) text plain is =
    let (this, whole, here) = is in
    whole ∙ ap (λ (t : List ℕ). dotted_text key ++ (codes " = " ++ (t ++ codes "\n"))) (value-text d this plain here)
line-text started key std_table text plain is = is
line-text started key array_table text plain is = is

lines-text : (started : Bool) (es : List Expression) (text : List ℕ) → AreLinesPlain es → IsLinesText true started es text → text ≡ lines_text started es
lines-text started [] text plain is = is
lines-text started (e ∷ es) text plain is =
    let (this, rest, whole, here, more) = is in
    whole
    ∙ ap (λ (t : List ℕ). t ++ rest) (line-text started e.0 e.1 this plain.0.what here)
    ∙ ap (λ (t : List ℕ). line_text started e.0 e.1 ++ t) (lines-text true es rest plain.1 more)

pub document-text : (ms : Members) (text : List ℕ) → AreMembersPlain ms → IsDocumentText true ms text → text ≡ document_text ms
document-text ms text plain is = lines-text false (expressions ms) text (expressions-plain ms plain) is

-- ---- this text

mutual
  value-written : (d : Data) → IsPlain d → IsValueText true d (value_text d)
  value-written (string s) plain = refl
  value-written (integer (pos n)) plain = (refl, omega arith)
  value-written (integer (negsuc n)) plain = absurd plain
  value-written (float x) plain = absurd plain
  value-written (boolean b) plain = refl
  value-written (datetime dt) plain = absurd plain
  value-written (array ds) plain = (_, refl, items-written (breaks_lines true ds) true ds plain)
  value-written (table ms) plain = (_, refl, members-written true ms plain)

  items-written : (lines is_first : Bool) (ds : Items) → AreItemsPlain ds → IsItemsText true lines is_first ds (items_text lines is_first ds)
  items-written lines is_first no_items plain = refl
  items-written lines is_first (item d ds) plain = (value_text d, items_text lines false ds, refl, value-written d plain.0, items-written lines false ds plain.1)

  members-written : (is_first : Bool) (ms : Members) → AreMembersPlain ms → IsMembersText true is_first ms (members_text is_first ms)
  members-written is_first no_members plain = refl
  members-written is_first (member k d ms) plain = (value_text d, members_text false ms, refl, value-written d plain.1, members-written false ms plain.3, plain.2)

line-written : (started : Bool) (key : Key) (what : Definition) → IsDefinitionPlain what → IsLineText true started key what (line_text started key what)
line-written started key (key_value d) plain = (value_text d, refl, value-written d plain)
line-written started key std_table plain = refl
line-written started key array_table plain = refl

lines-written : (started : Bool) (es : List Expression) → AreLinesPlain es → IsLinesText true started es (lines_text started es)
lines-written started [] plain = refl
lines-written started (e ∷ es) plain =
    (line_text started e.0 e.1, lines_text true es, refl, line-written started e.0 e.1 plain.0.what, lines-written true es plain.1)

pub document-written : (ms : Members) → AreMembersPlain ms → IsDocumentText true ms (document_text ms)
document-written ms plain = lines-written false (expressions ms) (expressions-plain ms plain)
