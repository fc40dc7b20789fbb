-- Loops over numbers from 0 on.
use Rattle.std.proofs.Common.{◌≡◌, ℕ, zero, suc, ◌+◌, ◌<◌, List, [], ◌∷◌, ◌++◌, map, refl, sym, ap, ◌∙◌, Option, Some, None, arith}
use Rattle.std.specs.List.{cons_option, filter_map, fold, range_with_len}
use Rattle.std.proofs.lemmas.List.{append-nil, map-id}
use Rattle.std.proofs.lemmas.List.FromFn.{map-range_with_len_more}
use Rattle.std.proofs.lemmas.List.Sums.{fold-append}

pub range_more : (n : ℕ) → range_with_len 0 (n + 1) ≡ range_with_len 0 n ++ n ∷ []
range_more n =
    sym (map-id (range_with_len 0 (n + 1))) ∙ map-range_with_len_more (λ (x : ℕ). x) 0 n n (omega arith) ∙ ap (λ l. l ++ n ∷ []) (map-id (range_with_len 0 n))

pub fold_range : {A : Type 0} (g : A → ℕ → A) (z : A) (n : ℕ) → fold g z (range_with_len 0 (n + 1)) ≡ g (fold g z (range_with_len 0 n)) n
fold_range g z n = ap (λ l. fold g z l) (range_more n) ∙ fold-append g z (range_with_len 0 n) (n ∷ [])

cons_append : {A : Type 0} (o : Option A) (xs ys : List A) → cons_option o (xs ++ ys) ≡ cons_option o xs ++ ys
cons_append None xs ys = refl
cons_append (Some x) xs ys = refl

filter_append : {A : Type 0} (f : ℕ → Option A) (xs ys : List ℕ) → filter_map f (xs ++ ys) ≡ filter_map f xs ++ filter_map f ys
filter_append f [] ys = refl
filter_append f (x ∷ xs) ys = ap (λ l. cons_option (f x) l) (filter_append f xs ys) ∙ cons_append (f x) (filter_map f xs) (filter_map f ys)

filter_more : {A : Type 0} (f : ℕ → Option A) (n : ℕ) (o : Option A) → f n ≡ o → filter_map f (range_with_len 0 (n + 1)) ≡ filter_map f (range_with_len 0 n) ++ cons_option o []
filter_more f n o is =
    ap (λ l. filter_map f l) (range_more n) ∙ filter_append f (range_with_len 0 n) (n ∷ []) ∙ ap (λ p. filter_map f (range_with_len 0 n) ++ cons_option p []) is

pub some_more : {A : Type 0} (f : ℕ → Option A) (n : ℕ) (x : A) → f n ≡ Some x → filter_map f (range_with_len 0 (n + 1)) ≡ filter_map f (range_with_len 0 n) ++ x ∷ []
some_more f n x is = filter_more f n (Some x) is

pub none_more : {A : Type 0} (f : ℕ → Option A) (n : ℕ) → f n ≡ None → filter_map f (range_with_len 0 (n + 1)) ≡ filter_map f (range_with_len 0 n)
none_more f n is = filter_more f n None is ∙ append-nil (filter_map f (range_with_len 0 n))

map_range_from : {A : Type 0} (f g : ℕ → A) (a n : ℕ) → ((k : ℕ) → k < a + n → f k ≡ g k) → map f (range_with_len a n) ≡ map g (range_with_len a n)
map_range_from f g a zero same = refl
map_range_from f g a (suc n) same = rw (same a (omega arith), map_range_from f g (a + 1) n (λ k below. same k (omega arith))) refl

-- two functions that agree below a number
pub map_range : {A : Type 0} (f g : ℕ → A) (n : ℕ) → ((k : ℕ) → k < n → f k ≡ g k) → map f (range_with_len 0 n) ≡ map g (range_with_len 0 n)
map_range f g n same = map_range_from f g 0 n (λ k below. same k (omega arith))
