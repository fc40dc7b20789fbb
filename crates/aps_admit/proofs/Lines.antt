-- A text that grows by a line for each element of a list.
use Rattle.std.proofs.Common.{◌≡◌, ℕ, ◌+◌, ◌<◌, List, [], ◌∷◌, ◌++◌, length, take, get_or, sym, ap, ◌∙◌}
use Rattle.std.specs.List.{flat_map}
use Rattle.std.proofs.lemmas.List.{take_more, flat_map_more}

-- a text to which the lines of the first elements were added, with the line of one more
pub lines_more : {X : Type 0} (f : X → List ℕ) (start out longer : List ℕ) (xs : List X) (i : ℕ) (x : X)
    → i < length xs → x ≡ get_or xs i x
    → out ≡ start ++ flat_map f (take i xs) → longer ≡ out ++ f x → longer ≡ start ++ flat_map f (take (i + 1) xs)
lines_more f start out longer xs i x inside is so_far added =
    let here : take (i + 1) xs ≡ take i xs ++ x ∷ [] = take_more xs i x inside ∙ ap (λ r. take i xs ++ r ∷ []) (sym is) in
    added ∙ ap (λ t. t ++ f x) so_far ∙ flat_map_more f start (take i xs) x ∙ ap (λ r. start ++ flat_map f r) (sym here)
