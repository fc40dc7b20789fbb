-- Lists in general.
use Rattle.std.proofs.Common.{◌≡◌, ◌≢◌, ℕ, zero, suc, ◌+◌, ◌<◌, List, [], ◌∷◌, map, refl, ap, sym, subst, ◌∙◌, arith, add-one, inl, inr, Bool, ◌||◌}
use Rattle.std.proofs.lemmas.Bool.{cases_order}
use Rattle.std.specs.List.{sum_by, list_any, range_with_len}
use Rattle.std.proofs.lemmas.List.Sums.{sum-map}
use Rattle.std.proofs.lemmas.List.FromFn.{sum_by-map-range_with_len_more}

pub list_any-map : {X Y : Type 0} (p : Y → Bool) (f : X → Y) (xs : List X) → list_any p (map f xs) ≡ list_any (λ x. p (f x)) xs
list_any-map p f [] = refl
list_any-map p f (x ∷ xs) = ap (λ b. p (f x) || b) (list_any-map p f xs)

-- ---- sums over places

pub places_more : (h : ℕ → ℕ) (k : ℕ) → sum_by h (range_with_len 0 (k + 1)) ≡ sum_by h (range_with_len 0 k) + h k
places_more h k =
    sym (sum-map h (range_with_len 0 (k + 1))) ∙ sum_by-map-range_with_len_more (λ x. x) h 0 k k (omega arith) ∙ ap (λ n. n + h k) (sum-map h (range_with_len 0 k))

pub places_zero : (h : ℕ → ℕ) (n : ℕ) → ((p : ℕ) → p < n → h p ≡ 0) → sum_by h (range_with_len 0 n) ≡ 0
places_zero h zero none = refl
places_zero h (suc n) none =
    let before : sum_by h (range_with_len 0 n) ≡ 0 = places_zero h n (λ p below. none p (omega arith)) in
    let here : h n ≡ 0 = none n (omega arith) in
    let more : sum_by h (range_with_len 0 (n + 1)) ≡ sum_by h (range_with_len 0 n) + h n = places_more h n in
    let next : sum_by h (range_with_len 0 (n + 1)) ≡ 0 = omega arith in
    subst (λ m. sum_by h (range_with_len 0 m) ≡ 0) (add-one n) next

pub places_same : (h g : ℕ → ℕ) (n : ℕ) → ((p : ℕ) → p < n → h p ≡ g p) → sum_by h (range_with_len 0 n) ≡ sum_by g (range_with_len 0 n)
places_same h g zero same = refl
places_same h g (suc n) same =
    let before : sum_by h (range_with_len 0 n) ≡ sum_by g (range_with_len 0 n) = places_same h g n (λ p below. same p (omega arith)) in
    let here : h n ≡ g n = same n (omega arith) in
    let more : sum_by h (range_with_len 0 (n + 1)) ≡ sum_by h (range_with_len 0 n) + h n = places_more h n in
    let more_too : sum_by g (range_with_len 0 (n + 1)) ≡ sum_by g (range_with_len 0 n) + g n = places_more g n in
    let next : sum_by h (range_with_len 0 (n + 1)) ≡ sum_by g (range_with_len 0 (n + 1)) = omega arith in
    subst (λ m. sum_by h (range_with_len 0 m) ≡ sum_by g (range_with_len 0 m)) (add-one n) next

-- two sums differ by what their terms differ by at the one place where they do
pub places_less : (h g : ℕ → ℕ) (q b n : ℕ) → q < n → ((p : ℕ) → p < n → p ≢ q → h p ≡ g p) → h q + b ≡ g q
    → sum_by h (range_with_len 0 n) + b ≡ sum_by g (range_with_len 0 n)
places_less h g q b zero within same less = absurd (omega arith)
places_less h g q b (suc n) within same less =
    let more : sum_by h (range_with_len 0 (n + 1)) ≡ sum_by h (range_with_len 0 n) + h n = places_more h n in
    let more_too : sum_by g (range_with_len 0 (n + 1)) ≡ sum_by g (range_with_len 0 n) + g n = places_more g n in
    let next : sum_by h (range_with_len 0 (n + 1)) + b ≡ sum_by g (range_with_len 0 (n + 1)) =
    elim (cases_order q n) [
      | inl here ↦
          let before : sum_by h (range_with_len 0 n) ≡ sum_by g (range_with_len 0 n) = places_same h g n (λ p below. same p (omega arith) (λ e. omega arith)) in
          let at_end : h n + b ≡ g n = rw (← here) less in
          omega arith
      | inr (inl earlier) ↦
          let before : sum_by h (range_with_len 0 n) + b ≡ sum_by g (range_with_len 0 n) =
          places_less h g q b n earlier (λ p below other. same p (omega arith) other) less in
          let at_end : h n ≡ g n = same n (omega arith) (λ e. omega arith) in
          omega arith
      | inr (inr later) ↦ absurd (omega arith)
    ] in
    subst (λ m. sum_by h (range_with_len 0 m) + b ≡ sum_by g (range_with_len 0 m)) (add-one n) next
