-- Names in a rising order of their places are distinct.
use Rattle.std.proofs.Common.{◌≡◌, ℕ, suc, ◌<◌, ◌≤◌, false, List, [], ◌∷◌, ◌++◌, inl, inr, ap, arith}
use Rattle.std.specs.List.{IsDistinct, AllByRecursion}
use Rattle.std.specs.Str.{bytes_eq}
use Rattle.std.proofs.lemmas.Bool.{cases_Bool}
use Rattle.std.proofs.lemmas.Slice.Eq.{bytes_eq-Decides}

-- each item has a place from low on, after the one before it and before high
abbrev pub Rising : (List ℕ → ℕ) → ℕ → ℕ → List (List ℕ) → Type 0
Rising place low high [] = low ≤ high
Rising place low high (x ∷ xs) = (low ≤ place x) × Rising place (suc (place x)) high xs

pub Rising-lower : (place : List ℕ → ℕ) (lower low high : ℕ) (xs : List (List ℕ)) → lower ≤ low → Rising place low high xs → Rising place lower high xs
Rising-lower place lower low high [] under rising = omega arith
Rising-lower place lower low high (x ∷ xs) under rising = let first = rising.0 in (omega arith, rising.1)

pub Rising-append : (place : List ℕ → ℕ) (low middle high : ℕ) (xs ys : List (List ℕ)) → Rising place low middle xs → Rising place middle high ys
    → Rising place low high (xs ++ ys)
Rising-append place low middle high [] ys first second = Rising-lower place low middle high ys first second
Rising-append place low middle high (x ∷ xs) ys first second = (first.0, Rising-append place (suc (place x)) middle high xs ys first.1 second)

-- an item of a lower place is none of these
others : (place : List ℕ → ℕ) (k : List ℕ) (low high : ℕ) (xs : List (List ℕ)) → place k < low → Rising place low high xs → AllByRecursion (λ y. bytes_eq k y ≡ false) xs
others place k low high [] under rising = tt
others place k low high (x ∷ xs) under rising =
    let from : low ≤ place x = rising.0 in
    let other : bytes_eq k x ≡ false = elim (cases_Bool (bytes_eq k x)) [
      | inl same ↦ let here : place k ≡ place x = ap place ((bytes_eq-Decides k x).0 same) in absurd (omega arith)
      | inr differs ↦ differs
    ] in
    (other, others place k (suc (place x)) high xs (omega arith) rising.1)

pub IsDistinct-from_Rising : (place : List ℕ → ℕ) (low high : ℕ) (xs : List (List ℕ)) → Rising place low high xs → IsDistinct bytes_eq xs
unfolding IsDistinct
IsDistinct-from_Rising place low high [] rising = tt
IsDistinct-from_Rising place low high (x ∷ xs) rising =
    (others place x (suc (place x)) high xs (omega arith) rising.1, IsDistinct-from_Rising place (suc (place x)) high xs rising.1)
