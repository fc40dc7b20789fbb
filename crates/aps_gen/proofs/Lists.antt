-- Lists in general.
use Rattle.std.proofs.Common.{◌≡◌, ℕ, zero, suc, ◌+◌, ◌*◌, ◌<◌, ◌≤◌, Bool, true, false, List, [], ◌∷◌, length, get_or, take, map, inl, inr, ap, sym, subst, ◌∙◌, arith, add-one, All}
use Rattle.std.specs.List.{sum_by, list_all, range_with_len}
use Rattle.std.proofs.lemmas.Bool.{cases_Bool}
use Rattle.std.proofs.lemmas.List.{take_all}
use Rattle.std.proofs.lemmas.List.Elements.{All-append, All-nil, All-from_recursion}
use Rattle.std.proofs.lemmas.List.Folds.{list_all_at}
use Rattle.std.proofs.lemmas.List.Sums.{sum-map, sum_by_more, sum_by-cons}
use Rattle.std.proofs.lemmas.List.FromFn.{get_or-range_with_len, length-range_with_len, sum_by-map-range_with_len_more}

-- a test that passes at each number below n
pub below : (p : ℕ → Bool) (n k : ℕ) → list_all p (range_with_len 0 n) ≡ true → k < n → p k ≡ true
below p n k all within =
    elim (cases_Bool (p k)) [
      | inl passes ↦ passes
      | inr fails ↦
          let here : get_or (range_with_len 0 n) k 0 ≡ k = get_or-range_with_len 0 n k 0 within ∙ plus_none k in
          let none : list_all p (range_with_len 0 n) ≡ false =
          list_all_at p (range_with_len 0 n) k 0 (rw (length-range_with_len 0 n) within) (rw here fails) in
          absurd (cc)
    ]
  where
    plus_none : (n : ℕ) → 0 + n ≡ n
    plus_none n = omega arith

-- what holds of each number from a on holds of a list made from them
pub All-map_range : {X : Type 0} (P : X → Type 0) (f : ℕ → X) (n a : ℕ) → ((i : ℕ) → a ≤ i → i < a + n → P (f i)) → All P (map f (range_with_len a n))
All-map_range P f zero a each = All-nil P
All-map_range P f (suc n) a each =
    All-append P (f a ∷ []) (map f (range_with_len (a + 1) n)) (All-from_recursion P (f a ∷ []) (each a (omega arith) (omega arith), tt))
    (All-map_range P f n (a + 1) (λ i from to. each i (omega arith) (omega arith)))

-- equal terms
pub sum_by-equal : {X : Type 0} (g : X → ℕ) (f : ℕ → X) (b n a : ℕ) → ((i : ℕ) → g (f i) ≡ b) → sum_by g (map f (range_with_len a n)) ≡ n * b
sum_by-equal g f b zero a same = omega arith
sum_by-equal g f b (suc n) a same =
    let rest : sum_by g (map f (range_with_len (a + 1) n)) ≡ n * b = sum_by-equal g f b n (a + 1) same in
    let here : g (f a) ≡ b = same a in
    sum_by-cons g (f a) (map f (range_with_len (a + 1) n)) ∙ rw (here, rest) (omega arith)

-- a sum over the places is within the sum over the list, where each term is
module _ {X : Type 0} (h : ℕ → ℕ) (f : X → ℕ) (d : X) (xs : List X) (term : (i : ℕ) → h i ≤ f (get_or xs i d)) where
  Within : ℕ → Type 0
  Within k = sum_by h (range_with_len 0 k) ≤ sum_by f (take k xs)

  up_to : (k : ℕ) → k ≤ length xs → Within k
  unfolding Within
  up_to zero within = omega arith
  up_to (suc k) within =
      let before : sum_by h (range_with_len 0 k) ≤ sum_by f (take k xs) = up_to k (omega arith) in
      let more : sum_by h (range_with_len 0 (k + 1)) ≡ sum_by h (range_with_len 0 k) + h k =
      sym (sum-map h (range_with_len 0 (k + 1))) ∙ sum_by-map-range_with_len_more (λ x. x) h 0 k k (omega arith) ∙ ap (λ n. n + h k) (sum-map h (range_with_len 0 k)) in
      let taken : sum_by f (take (k + 1) xs) ≡ sum_by f (take k xs) + f (get_or xs k d) = sum_by_more f xs k d (omega arith) in
      let here : h k ≤ f (get_or xs k d) = term k in
      let next : sum_by h (range_with_len 0 (k + 1)) ≤ sum_by f (take (k + 1) xs) = omega arith in
      subst Within (add-one k) next

  pub sum_by-places-le : sum_by h (range_with_len 0 (length xs)) ≤ sum_by f xs
  unfolding Within
  sum_by-places-le =
      let all : take (length xs) xs ≡ xs = take_all (length xs) xs (omega arith) in
      subst (λ (ys : List X). sum_by h (range_with_len 0 (length xs)) ≤ sum_by f ys) all (up_to (length xs) (omega arith))
