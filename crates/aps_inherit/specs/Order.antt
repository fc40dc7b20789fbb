-- Numbers in an order, each at most once.
use Rattle.std.specs.Prelude.{◌≡◌, ℕ, List, [], ◌∷◌, Bool, true, false, ◌||◌, nat_eq, if◌then◌else◌, Option, Some, None}
use Rattle.std.specs.Bool.{⊤}

abbrev pub first_of : List ℕ → Option ℕ
first_of [] = None
first_of (x ∷ xs) = Some x

abbrev pub has : List ℕ → ℕ → Bool
has [] y = false
has (x ∷ xs) y = nat_eq x y || has xs y

-- the one that comes after y
abbrev pub after_in : List ℕ → ℕ → Option ℕ
after_in [] y = None
after_in (x ∷ xs) y = if nat_eq x y then first_of xs else after_in xs y

abbrev pub order_without : List ℕ → ℕ → List ℕ
order_without [] y = []
order_without (x ∷ xs) y = if nat_eq x y then xs else x ∷ order_without xs y

-- the list from y on
abbrev pub from_on : List ℕ → ℕ → List ℕ
from_on [] y = []
from_on (x ∷ xs) y = if nat_eq x y then x ∷ xs else from_on xs y

-- the list from a place on, or nothing past the end
abbrev pub rest_of : List ℕ → Option ℕ → List ℕ
rest_of xs None = []
rest_of xs (Some y) = from_on xs y

-- no number stands twice
abbrev pub AreApart : List ℕ → Type 0
AreApart [] = ⊤
AreApart (x ∷ xs) = (has xs x ≡ false) × AreApart xs

-- the list has this number, if there is one
abbrev pub IsThere : List ℕ → Option ℕ → Type 0
IsThere xs None = ⊤
IsThere xs (Some y) = has xs y ≡ true
