-- Names in traces.
use lib.Chars.{codes}
use Rattle.std.specs.Prelude.{ℕ, List, [], slice_index_or}

abbrev pub channel_name : List (List ℕ) → ℕ → List ℕ
channel_name channels c = slice_index_or channels c []
