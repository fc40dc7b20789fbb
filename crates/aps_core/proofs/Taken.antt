-- The rows that a history takes over, one by one.
use Rattle.std.proofs.Common.{◌≡◌, ℕ, suc, ◌+◌, ◌<◌, ◌≤◌, List, [], ◌∷◌, ◌++◌, length, take, drop, get_or, sym, ◌∙◌, ap, cond, append_assoc, drop-cons, length-drop, slice_set, arith, inl, inr}
use Rattle.std.proofs.Math.Seq.{set-append_seam}
use Rattle.std.proofs.lemmas.Bool.{cases_lt}
use Rattle.std.proofs.lemmas.List.{append-nil, drop_all, length-append, length-take-le, take_more}
use Rattle.aps_model.specs.declared.partition.PartitionRow.{PartitionRow}
use Rattle.aps_model.specs.Partition.{rows_with}
use Rattle.laws_runs.proofs.WaitFacts.{test_eq, test_ne}

-- the next row of these in place of the old one, or after the last
pub rows_more : (old rows : List PartitionRow) (p : ℕ) (d : PartitionRow) → p < length rows → rows_with (take p rows ++ drop p old) p (get_or rows p d) ≡ take (p + 1) rows ++ drop (p + 1) old
rows_more old rows p d lt =
    elim (cases_lt p (length old)) [
      | inl within ↦ in_place within
      | inr past ↦ at_end past
    ]
  where
    row : PartitionRow
    row = get_or rows p d

    front : List PartitionRow
    front = take p rows

    front_length : length front ≡ p
    front_length = length-take-le p rows (omega (arith, lt))

    one : take (p + 1) rows ≡ front ++ row ∷ []
    one = take_more rows p d lt

    in_place : p < length old → rows_with (front ++ drop p old) p row ≡ take (p + 1) rows ++ drop (p + 1) old
    in_place within =
        let rest = drop (suc p) old in
        let split : drop p old ≡ get_or old p d ∷ rest = drop-cons old p d within in
        let longer = length-append front (drop p old) in
        let left = length-drop p old in
        ap (λ t. cond t ((front ++ drop p old) ++ row ∷ []) (slice_set (front ++ drop p old) p row)) (test_ne p (length (front ++ drop p old)) (λ e. omega (arith, e, longer, left, front_length, within)))
        ∙ ap (λ l. slice_set (front ++ l) p row) split
        ∙ ap (λ n. slice_set (front ++ get_or old p d ∷ rest) n row) (sym front_length)
        ∙ set-append_seam front (get_or old p d) rest row
        ∙ sym (append_assoc front (row ∷ []) rest)
        ∙ ap (λ l. l ++ rest) (sym one)
        ∙ ap (λ n. take (p + 1) rows ++ drop n old) next
      where
        next : suc p ≡ p + 1
        next = omega arith

    at_end : length old ≤ p → rows_with (front ++ drop p old) p row ≡ take (p + 1) rows ++ drop (p + 1) old
    at_end past =
        let none : drop p old ≡ [] = drop_all p old past in
        let whole : front ++ drop p old ≡ front = ap (λ l. front ++ l) none ∙ append-nil front in
        ap (λ l. rows_with l p row) whole
        ∙ ap (λ t. cond t (front ++ row ∷ []) (slice_set front p row)) (test_eq p (length front) (sym front_length))
        ∙ sym one
        ∙ sym (append-nil (take (p + 1) rows))
        ∙ ap (λ l. take (p + 1) rows ++ l) (sym (drop_all (p + 1) old (omega (arith, past))))
