-- What a read of a list gives, at a default of the definitions.
use Rattle.std.proofs.Common.{◌≡◌, ℕ, ◌<◌, List, length, slice_index_or, ap, ◌∙◌}
use Rattle.std.proofs.lemmas.List.{get_or_default}

-- the place may be given by an equal number
pub read_at : {X : Type 0} (xs : List X) (k x : ℕ) (t d : X) → x < length xs → k ≡ x → t ≡ slice_index_or xs k t → t ≡ slice_index_or xs x d
read_at xs k x t d inside place is = is ∙ ap (λ i. slice_index_or xs i t) place ∙ get_or_default xs x t d inside
