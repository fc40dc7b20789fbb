-- A text that is told bit by bit.
use Rattle.std.proofs.Common.{◌≡◌, ℕ, ◌+◌, ◌<◌, ◌≤◌, List, [], ◌++◌, Option, length, take, get_or, refl, sym, ap, subst, ◌∙◌, append_assoc, append-nil, arith}
use Rattle.std.proofs.KnownBytes.{Appends-nil, Appends-trans}
use Rattle.std.specs.Io.KnownBytes.{Appends}
use Rattle.std.specs.List.{flat_map, enumerate_from, range_with_len}
use Rattle.view_texts.proofs.Rows.{row_more, rows_all}
use Rattle.view_texts.proofs.Texts.{line_more, tick_more}
use Rattle.view_texts.specs.Piece.{IsTold}

pub told_none : (o : Option (List ℕ)) (a : List ℕ) → IsTold o o a a []
told_none o a = record { piece = []; written = Appends-nil o; rest = append-nil a }

-- two texts, one after the other
pub told_both : (o m n : Option (List ℕ)) (a b c t u : List ℕ) → IsTold o m a b t → IsTold m n b c u → IsTold o n a c (t ++ u)
told_both o m n a b c t u first second = record {
  piece = first.piece ++ second.piece;
  written = Appends-trans o m n first.piece second.piece first.written second.written;
  rest = sym (append_assoc a t u) ∙ ap (λ l. l ++ u) first.rest ∙ append_assoc first.piece b u ∙ ap (λ l. first.piece ++ l) second.rest
      ∙ sym (append_assoc first.piece second.piece c);
}

-- a text that was put behind what waits
pub told_put : (o : Option (List ℕ)) (a longer t : List ℕ) → longer ≡ a ++ t → IsTold o o a longer t
told_put o a longer t put = record { piece = []; written = Appends-nil o; rest = sym put }

-- and some of what waits was written then
pub told_item : (o n : Option (List ℕ)) (a longer c t : List ℕ) → longer ≡ a ++ t → IsTold o n longer c [] → IsTold o n a c t
told_item o n a longer c t put room =
    subst (IsTold o n a c) (append-nil t) (told_both o o n a longer c t [] (told_put o a longer t put) room)

-- an equal text
pub told_same : (o n : Option (List ℕ)) (a c t u : List ℕ) → t ≡ u → IsTold o n a c t → IsTold o n a c u
told_same o n a c t u same told = subst (IsTold o n a c) same told

-- all that waits was written
pub told_all : (o m n : Option (List ℕ)) (a b t : List ℕ) → a ≡ [] → IsTold o m a b t → Appends m n b → Appends o n t
told_all o m n a b t none told out =
    subst (Appends o n) (sym told.rest ∙ ap (λ l. l ++ t) none) (Appends-trans o m n told.piece b told.written out)

-- the texts of items: one more
pub told_line : {A : Type 0} (f : A → List ℕ) (o m n : Option (List ℕ)) (a b c : List ℕ) (xs : List A) (i : ℕ) (x : A) → i < length xs → get_or xs i x ≡ x
    → IsTold o m a b (flat_map f (take i xs)) → IsTold m n b c (f x) → IsTold o n a c (flat_map f (take (i + 1) xs))
told_line f o m n a b c xs i x less is so_far more =
    subst (IsTold o n a c) (line_more f [] (flat_map f (take i xs)) (flat_map f (take i xs) ++ f x) xs i x less is refl refl)
    (told_both o m n a b c _ _ so_far more)

-- of numbered items
pub told_row : {A : Type 0} (f : ℕ × A → List ℕ) (o m n : Option (List ℕ)) (a b c : List ℕ) (xs : List A) (i : ℕ) (x : A) → i < length xs → x ≡ get_or xs i x
    → IsTold o m a b (flat_map f (take i (enumerate_from 0 xs))) → IsTold m n b c (f (i, x)) → IsTold o n a c (flat_map f (take (i + 1) (enumerate_from 0 xs)))
told_row f o m n a b c xs i x less is so_far more =
    let rows = take i (enumerate_from 0 xs) in
    subst (IsTold o n a c) (row_more f [] (flat_map f rows) (flat_map f rows ++ f (i, x)) xs i x less is refl refl)
    (told_both o m n a b c _ _ so_far more)

-- of ticks
pub told_tick : (f : ℕ → List ℕ) (o m n : Option (List ℕ)) (a b c : List ℕ) (j : ℕ)
    → IsTold o m a b (flat_map f (range_with_len 0 j)) → IsTold m n b c (f j) → IsTold o n a c (flat_map f (range_with_len 0 (j + 1)))
told_tick f o m n a b c j so_far more =
    let all = flat_map f (range_with_len 0 j) in
    subst (IsTold o n a c) (tick_more f [] all (all ++ f j) 0 j j (omega arith) refl refl)
    (told_both o m n a b c _ _ so_far more)

pub told_rows : {A : Type 0} (f : ℕ × A → List ℕ) (o n : Option (List ℕ)) (a b : List ℕ) (xs : List A) (i : ℕ) → length xs ≤ i
    → IsTold o n a b (flat_map f (take i (enumerate_from 0 xs))) → IsTold o n a b (flat_map f (enumerate_from 0 xs))
told_rows f o n a b xs i past so_far = subst (IsTold o n a b) (rows_all f [] (flat_map f (take i (enumerate_from 0 xs))) xs i past refl) so_far
