-- Words as `write!` puts them: each with what follows it.
use Rattle.std.proofs.Common.{◌≡◌, ℕ, List, [], ◌∷◌, ◌++◌, refl, sym, ap, subst, ◌∙◌, append_assoc, Result, Ok, Err, OnOk, is_ok, if◌then◌else◌}
use Rattle.std.specs.List.{join_with_byte}

-- words with spaces between them, and this behind them
abbrev pub nested : List (List ℕ) → List ℕ → List ℕ
nested [] tail = tail
nested (w ∷ []) tail = w ++ tail
nested (w ∷ v ∷ words) tail = w ++ 32 ∷ nested (v ∷ words) tail

nested_joined : (words : List (List ℕ)) (tail : List ℕ) → nested words tail ≡ join_with_byte 32 words ++ tail
nested_joined [] tail = refl
nested_joined (w ∷ []) tail = refl
nested_joined (w ∷ v ∷ words) tail =
    ap (λ (l : List ℕ). w ++ 32 ∷ l) (nested_joined (v ∷ words) tail) ∙ sym (append_assoc w (32 ∷ join_with_byte 32 (v ∷ words)) tail)

-- what was added is these words, and others that are the same
pub written : {T E : Type 0} (r : Result T E) (text start : List ℕ) (words words' : List (List ℕ)) (tail : List ℕ) → words ≡ words'
    → OnOk r (text ≡ start ++ nested words tail) → OnOk r (text ≡ start ++ (join_with_byte 32 words' ++ tail))
written r text start words words' tail same is =
    subst (λ (l : List ℕ). OnOk r (text ≡ start ++ l)) (nested_joined words tail ∙ ap (λ (l : List (List ℕ)). join_with_byte 32 l ++ tail) same) is

-- what was added by an operation that says what is left after an error too
pub pushed : {T E : Type 0} (r : Result T E) (text more less : List ℕ) → text ≡ (if is_ok r then more else less) → OnOk r (text ≡ more)
pushed (Ok v) text more less is = is
pushed (Err e) text more less is = tt

-- a piece added behind another
pub added_more : (t0 t1 t2 a b : List ℕ) → t1 ≡ t0 ++ a → t2 ≡ t1 ++ b → t2 ≡ t0 ++ (a ++ b)
added_more t0 t1 t2 a b first second = second ∙ ap (λ (l : List ℕ). l ++ b) first ∙ append_assoc t0 a b

-- the last piece
pub added_last : (t0 t1 a b : List ℕ) → t1 ≡ t0 ++ a → t1 ++ b ≡ t0 ++ (a ++ b)
added_last t0 t1 a b first = ap (λ (l : List ℕ). l ++ b) first ∙ append_assoc t0 a b
