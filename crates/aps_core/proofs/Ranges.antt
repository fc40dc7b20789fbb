-- A test of the numbers below one more.
use Rattle.std.proofs.Common.{◌≡◌, ℕ, ◌+◌, ◌<◌, [], ◌∷◌, ◌∙◌, sym, ap, subst, Bool, true, false, ◌&&◌, refl, arith}
use Rattle.std.specs.List.{range_with_len, list_all}
use Rattle.std.proofs.lemmas.List.Folds.{list_all-append, list_all_at}
use Rattle.std.proofs.lemmas.List.FromFn.{length-range_with_len, get_or-range_with_len}
use Rattle.aps_model.proofs.Ranges.{range_more}

pub all_range_more : (p : ℕ → Bool) (n : ℕ) → list_all p (range_with_len 0 (n + 1)) ≡ (list_all p (range_with_len 0 n) && p n)
all_range_more p n = ap (list_all p) (range_more 0 n n (omega arith)) ∙ (list_all-append p (range_with_len 0 n) (n ∷ [])) ∙ ap (λ b. list_all p (range_with_len 0 n) && b) (and_true (p n))
  where
    and_true : (b : Bool) → (b && true) ≡ b
    and_true true = refl
    and_true false = refl

-- and one of them that fails
pub all_range_at : (p : ℕ → Bool) (n i : ℕ) → i < n → p i ≡ false → list_all p (range_with_len 0 n) ≡ false
all_range_at p n i lt fails =
    let zero : 0 + i ≡ i = omega arith in
    list_all_at p (range_with_len 0 n) i 0 (subst (λ k. i < k) (sym (length-range_with_len 0 n)) lt) (ap p (get_or-range_with_len 0 n i 0 lt ∙ zero) ∙ fails)
