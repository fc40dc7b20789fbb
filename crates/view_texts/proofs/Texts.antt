-- Texts of lines, one after the other.
use Rattle.std.proofs.Common.{◌≡◌, ℕ, ◌+◌, ◌-◌, ◌<◌, ◌≤◌, List, ◌++◌, [], ◌∷◌, length, take, get_or, sym, ap, ◌∙◌, append_assoc, append-nil, arith}
use Rattle.std.specs.List.{flat_map, range_with_len}
use Rattle.std.proofs.lemmas.List.{flat_map_more, take_more}
use Rattle.aps_model.proofs.Ranges.{range_more}

-- one item more
pub line_more : {A B : Type 0} (f : A → List B) (start out longer : List B) (xs : List A) (i : ℕ) (x : A) → i < length xs → get_or xs i x ≡ x
    → out ≡ start ++ flat_map f (take i xs) → longer ≡ out ++ f x → longer ≡ start ++ flat_map f (take (i + 1) xs)
line_more {A} f start out longer xs i x less is so_far added =
    added ∙ ap (λ t. t ++ f x) so_far ∙ flat_map_more f start (take i xs) x
    ∙ ap (λ (ys : List A). start ++ flat_map f ys) (sym (take_more xs i x less ∙ ap (λ (y : A). take i xs ++ y ∷ []) is))

-- one tick more, from one on
pub tick_more : {B : Type 0} (f : ℕ → List B) (start out longer : List B) (first n j : ℕ) → j ≡ first + n → out ≡ start ++ flat_map f (range_with_len first n) → longer ≡ out ++ f j
    → longer ≡ start ++ flat_map f (range_with_len first (n + 1))
tick_more f start out longer first n j is so_far added =
    added ∙ ap (λ t. t ++ f j) so_far ∙ flat_map_more f start (range_with_len first n) j ∙ ap (λ r. start ++ flat_map f r) (sym (range_more first n j (sym is)))

-- no tick yet
pub no_tick : {B : Type 0} (f : ℕ → List B) (start : List B) (first j : ℕ) → j ≤ first → start ≡ start ++ flat_map f (range_with_len first (j - first))
no_tick f start first j before =
    let none : j - first ≡ 0 = omega (arith, before) in
    sym (ap (λ n. start ++ flat_map f (range_with_len first n)) none ∙ append-nil start)

-- a tick before the first
pub same_ticks : {B : Type 0} (f : ℕ → List B) (start out : List B) (first j : ℕ) → j < first → out ≡ start ++ flat_map f (range_with_len first (j - first))
    → out ≡ start ++ flat_map f (range_with_len first (j + 1 - first))
same_ticks f start out first j before so_far =
    let none : j - first ≡ j + 1 - first = omega (arith, before) in
    so_far ∙ ap (λ n. start ++ flat_map f (range_with_len first n)) none

-- and one from it on
pub next_tick : {B : Type 0} (f : ℕ → List B) (start out longer : List B) (first j : ℕ) → first ≤ j → out ≡ start ++ flat_map f (range_with_len first (j - first)) → longer ≡ out ++ f j
    → longer ≡ start ++ flat_map f (range_with_len first (j + 1 - first))
next_tick f start out longer first j from so_far added =
    let one : j - first + 1 ≡ j + 1 - first = omega (arith, from) in
    tick_more f start out longer first (j - first) j (omega (arith, from)) so_far added ∙ ap (λ n. start ++ flat_map f (range_with_len first n)) one

-- three pieces
pub three_pieces : (start t1 t2 t3 a b c : List ℕ) → t1 ≡ start ++ a → t2 ≡ t1 ++ b → t3 ≡ t2 ++ c → t3 ≡ start ++ ((a ++ b) ++ c)
three_pieces start t1 t2 t3 a b c e1 e2 e3 =
    e3 ∙ ap (λ t. t ++ c) e2 ∙ ap (λ t. (t ++ b) ++ c) e1
    ∙ append_assoc (start ++ a) b c ∙ append_assoc start a (b ++ c) ∙ ap (λ t. start ++ t) (sym (append_assoc a b c))
