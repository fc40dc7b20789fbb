-- The text of a document that has neither floats nor date-times. Nothing in it is free:
-- The members of a table stand in the byte order of their keys, and there is no comment and no blank but those named here.
-- First come the pairs of the top table that are no sections, each a line of the key, ` = ` and the value. Then each
-- section, a table or an array of tables that has some: for each table a header in a line of its own, with an empty line
-- before it unless it begins the text, and then its pairs and its sections in the same way. The header is `[key]`, or
-- `[[key]]` for an element of an array, and a table that has nothing but sections has none.
-- An array of two elements or more is a bracket, a line for each element, of four blanks, the element and a comma, and
-- the other bracket in a line of its own; a shorter array stands in one line. Each line ends with a line feed.
use Rattle.std.specs.Prelude.{ℕ, Bool, true, false, if◌then◌else◌, List, [], ◌∷◌, ◌++◌, codes}
use Rattle.std.specs.Fmt.{signed_decimal}
use Rattle.toml_writer.specs.Text.{string_text, key_text, dotted_text}
use Rattle.toml.specs.Data.{Data, string, integer, float, boolean, datetime, array, table, Items, no_items, item, Members, no_members, member}
use Rattle.toml.specs.Tables.{Definition, key_value, std_table, array_table, Expression}
use Rattle.toml.specs.Text.{breaks_lines, before_item, after_item, array_end, before_member, table_end, expressions, gap, header_open, header_close}

-- a key after the keys of the tables that it stands in
abbrev pub Key : Type 0
Key = List (List ℕ) × List ℕ

-- a value on the right of `=`; none is given for floats, whose text isn't determined, and for date-times
abbrev mutual
  pub value_text : Data → List ℕ
  value_text (string s) = string_text s
  value_text (integer z) = signed_decimal z
  value_text (float x) = []
  value_text (boolean b) = if b then codes "true" else codes "false"
  value_text (datetime dt) = []
  value_text (array ds) = codes "[" ++ items_text (breaks_lines true ds) true ds
  value_text (table ms) = codes "{" ++ members_text true ms

  -- the elements from one on, which is the first or isn't, each in a line of its own or not, and the bracket
  pub items_text : Bool → Bool → Items → List ℕ
  items_text lines is_first no_items = array_end lines
  items_text lines is_first (item d ds) = before_item lines is_first ++ (value_text d ++ (after_item lines ++ items_text lines false ds))

  -- the members of a table in one line, from one on, and the brace
  pub members_text : Bool → Members → List ℕ
  members_text is_first no_members = table_end is_first
  members_text is_first (member k d ms) = before_member is_first ++ (key_text k ++ (codes " = " ++ (value_text d ++ members_text false ms)))

-- a pair or a header, with lines before it or not
abbrev pub line_text : Bool → Key → Definition → List ℕ
line_text started key (key_value d) = dotted_text key ++ (codes " = " ++ (value_text d ++ codes "\n"))
line_text started key std_table = gap started ++ (header_open false ++ (dotted_text key ++ header_close false))
line_text started key array_table = gap started ++ (header_open true ++ (dotted_text key ++ header_close true))

abbrev pub lines_text : Bool → List Expression → List ℕ
lines_text started [] = []
lines_text started (e ∷ es) = line_text started e.0 e.1 ++ lines_text true es

-- the document with these members at the top
abbrev pub document_text : Members → List ℕ
document_text ms = lines_text false (expressions ms)
