-- A place of a row that holds something stands within the row.
use Rattle.std.proofs.Common.{◌≡◌, ◌⊎◌, inl, inr, ℕ, ◌<◌, ◌≤◌, List, length, get_or, sym, ◌∙◌, Option, Some, None, arith}
use Rattle.std.proofs.Math.ListN.{get_or-eq_default}

pub taken_within : {A : Type 0} (row : List (Option A)) (x : ℕ) (a : A) → get_or row x None ≡ Some a → x < length row
taken_within row x a is = by (below_or_not x (length row))
  where
    below_or_not : (x n : ℕ) → (x < n) ⊎ (n ≤ x)
    below_or_not x n = search arith

    by : (x < length row) ⊎ (length row ≤ x) → x < length row
    by (inl below) = below
    by (inr past) =
        let never : None ≡ Some a = sym (get_or-eq_default row None past) ∙ is in
        absurd cc
