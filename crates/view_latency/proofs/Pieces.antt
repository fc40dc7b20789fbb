-- Texts made of pieces, one after the other.
use Rattle.std.proofs.Common.{◌≡◌, ℕ, zero, suc, ◌+◌, ◌<◌, List, ◌++◌, sym, refl, ap, ◌∙◌, append_assoc, arith}
use Rattle.std.specs.List.{flat_map, range_with_len}
use Rattle.std.proofs.lemmas.List.{flat_map_more}
use Rattle.aps_model.proofs.Ranges.{range_more}

pub two_pieces : (start t1 t2 a b : List ℕ) → t1 ≡ start ++ a → t2 ≡ t1 ++ b → t2 ≡ start ++ (a ++ b)
two_pieces start t1 t2 a b e1 e2 = e2 ∙ ap (λ t. t ++ b) e1 ∙ append_assoc start a b

pub three_pieces : (start t1 t2 t3 a b c : List ℕ) → t1 ≡ start ++ a → t2 ≡ t1 ++ b → t3 ≡ t2 ++ c → t3 ≡ start ++ (a ++ (b ++ c))
three_pieces start t1 t2 t3 a b c e1 e2 e3 = two_pieces start t1 t3 a (b ++ c) e1 (two_pieces t1 t2 t3 b c e2 e3)

pub four_pieces : (start t1 t2 t3 t4 a b c d : List ℕ) → t1 ≡ start ++ a → t2 ≡ t1 ++ b → t3 ≡ t2 ++ c → t4 ≡ t3 ++ d → t4 ≡ start ++ (a ++ (b ++ (c ++ d)))
four_pieces start t1 t2 t3 t4 a b c d e1 e2 e3 e4 = two_pieces start t1 t4 a (b ++ (c ++ d)) e1 (three_pieces t1 t2 t3 t4 b c d e2 e3 e4)

-- the piece of one number more, from 0 on
pub number_more : (f : ℕ → List ℕ) (start out longer : List ℕ) (n : ℕ) → out ≡ start ++ flat_map f (range_with_len 0 n) → longer ≡ out ++ f n
    → longer ≡ start ++ flat_map f (range_with_len 0 (n + 1))
number_more f start out longer n so_far added =
    added ∙ ap (λ t. t ++ f n) so_far ∙ flat_map_more f start (range_with_len 0 n) n ∙ ap (λ r. start ++ flat_map f r) (sym (range_more 0 n n (omega arith)))

pieces_from : (f g : ℕ → List ℕ) (a n : ℕ) → ((k : ℕ) → k < a + n → f k ≡ g k) → flat_map f (range_with_len a n) ≡ flat_map g (range_with_len a n)
pieces_from f g a zero same = refl
pieces_from f g a (suc n) same = rw (same a (omega arith), pieces_from f g (a + 1) n (λ k below. same k (omega arith))) refl

-- pieces that are the same for each number below one
pub pieces_same : (f g : ℕ → List ℕ) (n : ℕ) → ((k : ℕ) → k < n → f k ≡ g k) → flat_map f (range_with_len 0 n) ≡ flat_map g (range_with_len 0 n)
pieces_same f g n same = pieces_from f g 0 n (λ k below. same k (omega arith))
