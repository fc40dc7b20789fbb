-- Numbers in texts.
use lib.Chars.{codes}
use Rattle.std.specs.Prelude.{ℕ, ◌*◌, ◌/◌, ◌%◌, ◌++◌, zero, suc, List, [], nat_eq, if◌then◌else◌}
use Rattle.std.specs.Fmt.{decimal}
use Rattle.aps_model.specs.Limits.{thousandths}

-- the number without so many of its last digits
abbrev pub without_digits : ℕ → ℕ → ℕ
without_digits n zero = n
without_digits n (suc count) = without_digits (n / 10) count

-- so many of its last digits
abbrev pub last_digits : ℕ → ℕ → List ℕ
last_digits n zero = []
last_digits n (suc count) = last_digits (n / 10) count ++ decimal (n % 10)

-- so many powers of ten are a whole: the wholes, and behind a point exactly so many digits
abbrev pub with_places : ℕ → ℕ → List ℕ
with_places n zero = decimal n
with_places n (suc places) = decimal (without_digits n (suc places)) ++ (codes "." ++ last_digits n (suc places))

-- the part of the whole in percent with one place, rounded down; a dash where there is no whole
abbrev pub percent_text : ℕ → ℕ → List ℕ
percent_text part whole = if nat_eq whole 0 then codes "- %" else with_places (part * thousandths / whole) 1 ++ codes " %"

-- with at most so many places, and no zero at the end of them
abbrev pub trimmed : ℕ → ℕ → List ℕ
trimmed n zero = with_places n 0
trimmed n (suc places) = if nat_eq (n % 10) 0 then trimmed (n / 10) places else with_places n (suc places)
