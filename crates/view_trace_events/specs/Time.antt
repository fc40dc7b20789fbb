-- Times in traces.
use lib.Chars.{codes}
use Rattle.std.specs.Prelude.{ℕ, ◌/◌, ◌%◌, ◌++◌, List}
use Rattle.std.specs.Fmt.{decimal}
use Rattle.aps_model.specs.Limits.{microsecond}

-- so many ns in microseconds, with exactly three decimals
abbrev pub us_text : ℕ → List ℕ
us_text ns = decimal (ns / microsecond) ++ (codes "." ++ (decimal (ns / 100 % 10) ++ (decimal (ns / 10 % 10) ++ decimal (ns % 10))))
