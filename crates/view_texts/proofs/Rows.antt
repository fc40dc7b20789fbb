-- A text of rows with their numbers, one after the other.
use Rattle.std.proofs.Common.{◌≡◌, ℕ, ◌+◌, ◌<◌, ◌≤◌, List, [], ◌∷◌, ◌++◌, length, take, get_or, refl, sym, ap, ◌∙◌, arith}
use Rattle.std.specs.List.{flat_map, enumerate_from}
use Rattle.std.proofs.lemmas.List.{take_more, take_all, flat_map_more}
use Rattle.std.proofs.lemmas.List.FromFn.{length-enumerate_from, get_or-enumerate_from}

plain : (i : ℕ) → 0 + i ≡ i
plain i = omega arith

-- a text to which the lines of the first elements were added, with the line of one more
pub row_more : {X : Type 0} (f : ℕ × X → List ℕ) (start out longer : List ℕ) (xs : List X) (i : ℕ) (x : X)
    → i < length xs → x ≡ get_or xs i x
    → out ≡ start ++ flat_map f (take i (enumerate_from 0 xs)) → longer ≡ out ++ f (i, x)
    → longer ≡ start ++ flat_map f (take (i + 1) (enumerate_from 0 xs))
row_more f start out longer xs i x inside is so_far added =
    let rows = enumerate_from 0 xs in
    let here : take (i + 1) rows ≡ take i rows ++ (i, x) ∷ [] =
    take_more rows i (i, x) (rw (length-enumerate_from 0 xs) inside) ∙ ap (λ r. take i rows ++ r ∷ []) (get_or-enumerate_from 0 xs i (i, x) inside ∙ rw (plain i, ← is) refl) in
    added ∙ ap (λ t. t ++ f (i, x)) so_far ∙ flat_map_more f start (take i rows) (i, x) ∙ ap (λ r. start ++ flat_map f r) (sym here)

-- and with all of them
pub rows_all : {X : Type 0} (f : ℕ × X → List ℕ) (start out : List ℕ) (xs : List X) (i : ℕ) → length xs ≤ i
    → out ≡ start ++ flat_map f (take i (enumerate_from 0 xs)) → out ≡ start ++ flat_map f (enumerate_from 0 xs)
rows_all f start out xs i past so_far =
    so_far ∙ ap (λ r. start ++ flat_map f r) (take_all i (enumerate_from 0 xs) (rw (length-enumerate_from 0 xs) past))
