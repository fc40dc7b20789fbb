-- The text of a document of plain data is ASCII.
use Rattle.std.proofs.Common.{◌≡◌, ℕ, suc, ◌/◌, ◌%◌, ◌^◌, ◌<◌, pos, negsuc, Bool, true, false, ◌==◌, List, [], ◌∷◌, ◌++◌, codes, nat_lt, refl, inl, inr, arith}
use Rattle.std.proofs.lemmas.Bool.{cases_Bool, and_parts, ltb-true}
use Rattle.std.proofs.lemmas.Bool.Decides.{nat_tests}
use Rattle.std.proofs.lemmas.Fmt.{IsAscii-decimal}
use Rattle.std.proofs.lemmas.Str.{IsAscii-append}
use Rattle.std.proofs.lemmas.Str.Ascii.{IsAscii-nil, IsAscii-cons}
use Rattle.std.specs.Fmt.{decimal, digit_glyph}
use Rattle.std.specs.List.{list_all}
use Rattle.std.specs.Str.{IsAscii}
use Rattle.toml_writer.specs.Text.{string_text, path_text, escaped, escape_text, escape_letter, needs_escape, quotes_after, encoded, encoding_of, Encoding, basic, literal, multi_basic, multi_literal, opening_newline, has}
use Rattle.toml.specs.Data.{Data, string, integer, float, boolean, datetime, array, table, Items, no_items, item, Members, no_members, member}
use Rattle.toml.specs.Tables.{Definition, key_value, std_table, array_table, Expression}
use Rattle.toml.specs.Text.{breaks_lines, before_item, after_item, array_end, before_member, table_end, expressions, gap}
use Rattle.aps_scenario.specs.DocumentText.{value_text, items_text, members_text, line_text, lines_text, document_text}
use Rattle.aps_scenario.proofs.PlainData.{IsAsciiText, IsPlain, AreItemsPlain, AreMembersPlain, AreKeysPlain, IsLinePlain, AreLinesPlain, expressions-plain}

abbrev pub is_ascii : List ℕ → Bool
is_ascii = list_all (λ b. nat_lt b 128)

from_test : (bs : List ℕ) → is_ascii bs ≡ true → IsAscii bs
from_test [] test = IsAscii-nil
from_test (b ∷ bs) test =
    let (here, more) = and_parts (nat_lt b 128) (is_ascii bs) test in
    IsAscii-cons b bs (ltb-true b 128 here) (from_test bs more)

-- what a test of a literal shows
pub tested : (bs : List ℕ) → is_ascii bs ≡ true → IsAsciiText bs
tested bs test = record { bytes = from_test bs test }

pub joined : {xs ys : List ℕ} → IsAsciiText xs → IsAsciiText ys → IsAsciiText (xs ++ ys)
joined {xs = xs} {ys = ys} front back = record { bytes = IsAscii-append xs ys front.bytes back.bytes }

pub led : {bs : List ℕ} (b : ℕ) → b < 128 → IsAsciiText bs → IsAsciiText (b ∷ bs)
led {bs = bs} b small rest = record { bytes = IsAscii-cons b bs small rest.bytes }

empty : IsAsciiText []
empty = tested [] refl

head : (b : ℕ) (bs : List ℕ) → IsAsciiText (b ∷ bs) → b < 128
head b bs text = text.bytes 0

tail : (b : ℕ) (bs : List ℕ) → IsAsciiText (b ∷ bs) → IsAsciiText bs
tail b bs text = record { bytes = λ i. text.bytes (suc i) }

pub decimal-ascii : (n : ℕ) → n < 2 ^ 64 → IsAsciiText (decimal n)
decimal-ascii n small = record { bytes = IsAscii-decimal n small }

-- ---- quotes and escapes

escape-ascii : (c : ℕ) → c < 128 → IsAsciiText (escape_text c)
escape-ascii c small =
    elim (cases_Bool (escape_letter c == 0)) [
      | inl code ↦
          let high : digit_glyph true (c / 16) < 128 = grind (arith, nat_tests) in
          let low : digit_glyph true (c % 16) < 128 = grind (arith, nat_tests) in
          rw code (joined (tested (codes "\\u00") refl) (led (digit_glyph true (c / 16)) high (led (digit_glyph true (c % 16)) low empty)))
      | inr letter ↦
          let here : escape_letter c < 128 = grind (arith, nat_tests) in
          rw letter (led 92 (omega arith) (led (escape_letter c) here empty))
    ]

escaped-ascii : (multi : Bool) (quotes : ℕ) (s : List ℕ) → IsAsciiText s → IsAsciiText (escaped multi quotes s)
unfolding escaped
escaped-ascii multi quotes [] ascii = empty
escaped-ascii multi quotes (c ∷ cs) ascii =
    let rest = escaped-ascii multi (quotes_after multi quotes c) cs (tail c cs ascii) in
    elim (cases_Bool (needs_escape multi quotes c)) [
      | inl needed ↦ rw needed (joined (escape-ascii c (head c cs ascii)) rest)
      | inr bare ↦ rw bare (led c (head c cs ascii) rest)
    ]

newline-ascii : (s : List ℕ) → IsAsciiText (opening_newline s)
newline-ascii s = elim (cases_Bool (has 10 s)) [ inl some ↦ rw some (tested (codes "\n") refl) | inr none ↦ rw none empty ]

encoded-ascii : (encoding : Encoding) (s : List ℕ) → IsAsciiText s → IsAsciiText (encoded encoding s)
encoded-ascii basic s ascii = led 34 (omega arith) (joined (escaped-ascii false 0 s ascii) (tested (codes "\"") refl))
encoded-ascii literal s ascii = led 39 (omega arith) (joined ascii (tested (codes "'") refl))
encoded-ascii multi_basic s ascii =
    let quotes = tested (codes "\"\"\"") refl in
    joined quotes (joined (newline-ascii s) (joined (escaped-ascii true 0 s ascii) quotes))
encoded-ascii multi_literal s ascii =
    let quotes = tested (codes "'''") refl in
    joined quotes (joined (newline-ascii s) (joined ascii quotes))

string-ascii : (s : List ℕ) → IsAsciiText s → IsAsciiText (string_text s)
unfolding string_text
string-ascii s ascii = encoded-ascii (encoding_of s) s ascii

path-ascii : (path : List (List ℕ)) → AreKeysPlain path → IsAsciiText (path_text path)
path-ascii [] keys = empty
path-ascii (k ∷ path) keys = joined keys.0 (led 46 (omega arith) (path-ascii path keys.1))

-- ---- values

before_item-ascii : (lines is_first : Bool) → IsAsciiText (before_item lines is_first)
before_item-ascii true is_first = tested (before_item true is_first) refl
before_item-ascii false true = tested (before_item false true) refl
before_item-ascii false false = tested (before_item false false) refl

after_item-ascii : (lines : Bool) → IsAsciiText (after_item lines)
after_item-ascii true = tested (after_item true) refl
after_item-ascii false = tested (after_item false) refl

array_end-ascii : (lines : Bool) → IsAsciiText (array_end lines)
array_end-ascii true = tested (array_end true) refl
array_end-ascii false = tested (array_end false) refl

before_member-ascii : (is_first : Bool) → IsAsciiText (before_member is_first)
before_member-ascii true = tested (before_member true) refl
before_member-ascii false = tested (before_member false) refl

table_end-ascii : (is_first : Bool) → IsAsciiText (table_end is_first)
table_end-ascii true = tested (table_end true) refl
table_end-ascii false = tested (table_end false) refl

mutual
  value-ascii : (d : Data) → IsPlain d → IsAsciiText (value_text d)
  value-ascii (string s) plain = string-ascii s plain
  value-ascii (integer (pos n)) plain = decimal-ascii n (omega arith)
  value-ascii (integer (negsuc n)) plain = absurd plain
  value-ascii (float x) plain = absurd plain
  value-ascii (boolean true) plain = tested (value_text (boolean true)) refl
  value-ascii (boolean false) plain = tested (value_text (boolean false)) refl
  value-ascii (datetime dt) plain = absurd plain
  value-ascii (array ds) plain = joined (tested (codes "[") refl) (items-ascii (breaks_lines true ds) true ds plain)
  value-ascii (table ms) plain = joined (tested (codes "{") refl) (members-ascii true ms plain)

  items-ascii : (lines is_first : Bool) (ds : Items) → AreItemsPlain ds → IsAsciiText (items_text lines is_first ds)
  items-ascii lines is_first no_items plain = array_end-ascii lines
  items-ascii lines is_first (item d ds) plain =
      joined (before_item-ascii lines is_first)
      (joined (value-ascii d plain.0)
      (joined (after_item-ascii lines) (items-ascii lines false ds plain.1)))

  members-ascii : (is_first : Bool) (ms : Members) → AreMembersPlain ms → IsAsciiText (members_text is_first ms)
  members-ascii is_first no_members plain = table_end-ascii is_first
  members-ascii is_first (member k d ms) plain =
      joined (before_member-ascii is_first)
      (joined plain.0
      (joined (tested (codes " = ") refl)
      (joined (value-ascii d plain.1) (members-ascii false ms plain.3))))

-- ---- lines

gap-ascii : (started : Bool) → IsAsciiText (gap started)
gap-ascii true = tested (gap true) refl
gap-ascii false = tested (gap false) refl

line-ascii : (started : Bool) (path : List (List ℕ)) (k : List ℕ) (what : Definition) → IsLinePlain ((path, k), what) → IsAsciiText (line_text started (path, k) what)
line-ascii started path k (key_value d) plain =
    joined (joined (path-ascii path plain.path) plain.key)
    (joined (tested (codes " = ") refl) (joined (value-ascii d plain.what) (tested (codes "\n") refl)))
line-ascii started path k std_table plain =
    joined (gap-ascii started)
    (joined (tested (codes "[") refl)
    (joined (joined (path-ascii path plain.path) plain.key) (tested (codes "]\n") refl)))
line-ascii started path k array_table plain =
    joined (gap-ascii started)
    (joined (tested (codes "[[") refl)
    (joined (joined (path-ascii path plain.path) plain.key) (tested (codes "]]\n") refl)))

lines-ascii : (started : Bool) (es : List Expression) → AreLinesPlain es → IsAsciiText (lines_text started es)
lines-ascii started [] plain = empty
lines-ascii started (((path, k), what) ∷ es) plain = joined (line-ascii started path k what plain.0) (lines-ascii true es plain.1)

pub document-ascii : (ms : Members) → AreMembersPlain ms → IsAsciiText (document_text ms)
document-ascii ms plain = lines-ascii false (expressions ms) (expressions-plain ms plain)
