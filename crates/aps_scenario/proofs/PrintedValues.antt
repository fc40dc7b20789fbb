-- Values that have their ranges are read.
use Rattle.std.proofs.Common.{◌≡◌, ℕ, ◌≤◌, ◌%◌, true, false, List, length, Ok, refl, arith, nat_lt, le-leb}
use Rattle.std.proofs.lemmas.Bool.Decides.{nat_tests}
use Rattle.aps_model.specs.Limits.{longest_name}
use Rattle.aps_model.specs.Name.{IsName}
use Rattle.aps_scenario.specs.Row.{in_range, is_name}

pub no_rest : (n : ℕ) → n % 1 ≡ 0
no_rest n = omega arith

pub not_less : (a b : ℕ) → b ≤ a → nat_lt a b ≡ false
not_less a b h = grind (arith, nat_tests)

pub in_range-Ok : (low high n : ℕ) → low ≤ n → n ≤ high → in_range low high 1 n ≡ Ok n
in_range-Ok low high n above below = rw (le-leb low n above, le-leb n high below, no_rest n) refl

pub is_name-true : (text : List ℕ) → IsName text → is_name text ≡ true
is_name-true text name = rw (le-leb 1 (length text) name.some, le-leb (length text) longest_name name.few, name.bytes) refl
