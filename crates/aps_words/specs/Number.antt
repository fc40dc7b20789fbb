-- Numbers as words.
use Rattle.std.specs.Prelude.{ℕ, ◌==◌, ◌&&◌, Bool, false, not, List, [], ◌∷◌, nat_le, nat_lt, length, Option, Some, None, if◌then◌else◌}
use Rattle.std.specs.Char.{is_ascii_digit}
use Rattle.std.specs.List.{list_all}
use Rattle.std.specs.Str.Parse.{digits_value}

-- the first digit is a zero (48) and another digit follows
abbrev pub has_leading_zero : List ℕ → Bool
has_leading_zero [] = false
has_leading_zero (c ∷ []) = false
has_leading_zero (c ∷ d ∷ more) = c == 48

-- decimal digits, without a sign, and without a leading zero unless it is `0`
abbrev pub is_numeral : List ℕ → Bool
is_numeral digits = list_all is_ascii_digit digits && not (has_leading_zero digits) && nat_lt 0 (length digits)

abbrev pub within : ℕ → ℕ → ℕ → Option ℕ
within low high n = if nat_le low n && nat_le n high then Some n else None

-- the number that the word is, where it is one in this range
abbrev pub number_in : ℕ → ℕ → List ℕ → Option ℕ
number_in low high word = if is_numeral word then within low high (digits_value 10 word) else None
