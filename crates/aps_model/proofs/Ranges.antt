-- Ranges with one number more.
use Rattle.std.proofs.Common.{◌≡◌, ℕ, ◌+◌, [], ◌∷◌, ◌++◌, sym, ap, ◌∙◌}
use Rattle.std.specs.List.{fold, range_with_len}
use Rattle.std.proofs.lemmas.List.{map-id}
use Rattle.std.proofs.lemmas.List.FromFn.{map-range_with_len_more}
use Rattle.std.proofs.lemmas.List.Sums.{fold-append}

pub range_more : (a n k : ℕ) → a + n ≡ k → range_with_len a (n + 1) ≡ range_with_len a n ++ k ∷ []
range_more a n k is =
    sym (map-id (range_with_len a (n + 1))) ∙ map-range_with_len_more (λ j. j) a n k is ∙ ap (λ l. l ++ k ∷ []) (map-id (range_with_len a n))

-- and a fold over them
pub fold_more : {A : Type 0} (f : A → ℕ → A) (z : A) (a n k : ℕ) → a + n ≡ k → fold f z (range_with_len a (n + 1)) ≡ f (fold f z (range_with_len a n)) k
fold_more f z a n k is = ap (fold f z) (range_more a n k is) ∙ fold-append f z (range_with_len a n) (k ∷ [])
