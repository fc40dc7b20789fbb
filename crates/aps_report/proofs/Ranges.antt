use Rattle.std.proofs.Common.{◌≡◌, ℕ, zero, suc, ◌+◌, List, ◌++◌, ◌<◌, map, refl, sym, ap, ◌∙◌, arith}
use Rattle.std.specs.List.{flat_map, range_with_len}
use Rattle.std.proofs.lemmas.List.{flat_map_more}
use Rattle.aps_model.proofs.Ranges.{range_more}

pub flat_map_range_more : {A : Type 0} (f : ℕ → List A) (start out longer : List A) (n : ℕ) → out ≡ start ++ flat_map f (range_with_len 0 n) → longer ≡ out ++ f n
    → longer ≡ start ++ flat_map f (range_with_len 0 (n + 1))
flat_map_range_more f start out longer n so_far added =
    added ∙ ap (λ t. t ++ f n) so_far ∙ flat_map_more f start (range_with_len 0 n) n ∙ ap (λ r. start ++ flat_map f r) (sym (range_more 0 n n (omega arith)))

-- two functions that agree below a number
flat_map_range_from : {A : Type 0} (f g : ℕ → List A) (a n : ℕ) → ((k : ℕ) → k < a + n → f k ≡ g k) → flat_map f (range_with_len a n) ≡ flat_map g (range_with_len a n)
flat_map_range_from f g a zero same = refl
flat_map_range_from f g a (suc n) same = rw (same a (omega arith), flat_map_range_from f g (a + 1) n (λ k below. same k (omega arith))) refl

pub flat_map_range : {A : Type 0} (f g : ℕ → List A) (n : ℕ) → ((k : ℕ) → k < n → f k ≡ g k) → flat_map f (range_with_len 0 n) ≡ flat_map g (range_with_len 0 n)
flat_map_range f g n same = flat_map_range_from f g 0 n (λ k below. same k (omega arith))

map_range_from : {A : Type 0} (f g : ℕ → A) (a n : ℕ) → ((k : ℕ) → k < a + n → f k ≡ g k) → map f (range_with_len a n) ≡ map g (range_with_len a n)
map_range_from f g a zero same = refl
map_range_from f g a (suc n) same = rw (same a (omega arith), map_range_from f g (a + 1) n (λ k below. same k (omega arith))) refl

pub map_range : {A : Type 0} (f g : ℕ → A) (n : ℕ) → ((k : ℕ) → k < n → f k ≡ g k) → map f (range_with_len 0 n) ≡ map g (range_with_len 0 n)
map_range f g n same = map_range_from f g 0 n (λ k below. same k (omega arith))
