-- The text of a time tells the time.
use lib.Chars.{codes}
use Rattle.std.proofs.Common.{◌≡◌, ℕ, ◌+◌, ◌/◌, ◌%◌, ◌<◌, ◌^◌, List, [], ◌∷◌, ◌++◌, length, take, drop, get_or, refl, sym, ap, ◌∙◌, arith, length-append}
use Rattle.std.specs.Fmt.{decimal}
use Rattle.std.proofs.Math.Seq.{drop-append_seam, take-append_seam}
use Rattle.std.proofs.lemmas.Fmt.{decimal_digit, decimal_injective}
use Rattle.aps_model.specs.Limits.{microsecond}
use Rattle.view_trace_events.specs.Time.{us_text}

-- where two texts have equal ends
same_length : (s t u v : List ℕ) → length t ≡ length v → s ++ t ≡ u ++ v → length s ≡ length u
same_length s t u v ends same =
    let all : length s + length t ≡ length u + length v = sym (length-append s t) ∙ ap (λ (l : List ℕ). length l) same ∙ length-append u v in
    omega (arith, all, ends)

same_front : (s t u v : List ℕ) → length t ≡ length v → s ++ t ≡ u ++ v → s ≡ u
same_front s t u v ends same =
    sym (take-append_seam s t) ∙ ap (λ (l : List ℕ). take (length s) l) same ∙ ap (λ n. take n (u ++ v)) (same_length s t u v ends same) ∙ take-append_seam u v

same_end : (s t u v : List ℕ) → length t ≡ length v → s ++ t ≡ u ++ v → t ≡ v
same_end s t u v ends same =
    sym (drop-append_seam s t) ∙ ap (λ (l : List ℕ). drop (length s) l) same ∙ ap (λ n. drop n (u ++ v)) (same_length s t u v ends same) ∙ drop-append_seam u v

-- the point, and three digits
abbrev places : ℕ → ℕ → ℕ → List ℕ
places x y z = codes "." ++ (decimal x ++ (decimal y ++ decimal z))

places_are : (x y z : ℕ) → x < 10 → y < 10 → z < 10 → places x y z ≡ 46 ∷ (48 + x) ∷ (48 + y) ∷ (48 + z) ∷ []
places_are x y z few_x few_y few_z = rw (decimal_digit x few_x, decimal_digit y few_y, decimal_digit z few_z) refl

beyond : (x u : ℕ) → 48 + x ≡ 48 + u → x ≡ u
beyond x u same = omega (arith, same)

whole_and_places : (a b x y z u v w : ℕ) → a < 2 ^ 64 → b < 2 ^ 64 → x < 10 → y < 10 → z < 10 → u < 10 → v < 10 → w < 10
    → decimal a ++ places x y z ≡ decimal b ++ places u v w → (a ≡ b) × (x ≡ u) × (y ≡ v) × (z ≡ w)
whole_and_places a b x y z u v w fits_a fits_b fx fy fz fu fv fw same =
    let left = places_are x y z fx fy fz in
    let right = places_are u v w fu fv fw in
    let ends : length (places x y z) ≡ length (places u v w) = ap (λ (l : List ℕ). length l) left ∙ sym (ap (λ (l : List ℕ). length l) right) in
    let digits : 46 ∷ (48 + x) ∷ (48 + y) ∷ (48 + z) ∷ [] ≡ 46 ∷ (48 + u) ∷ (48 + v) ∷ (48 + w) ∷ [] = sym left ∙ same_end _ _ _ _ ends same ∙ right in
    let one : 48 + x ≡ 48 + u = ap (λ (l : List ℕ). get_or l 1 0) digits in
    let two : 48 + y ≡ 48 + v = ap (λ (l : List ℕ). get_or l 2 0) digits in
    let three : 48 + z ≡ 48 + w = ap (λ (l : List ℕ). get_or l 3 0) digits in
    (decimal_injective a b fits_a fits_b (same_front _ _ _ _ ends same), beyond x u one, beyond y v two, beyond z w three)

by_digits : (a b : ℕ) → a / microsecond ≡ b / microsecond → a / 100 % 10 ≡ b / 100 % 10 → a / 10 % 10 ≡ b / 10 % 10 → a % 10 ≡ b % 10 → a ≡ b
by_digits a b whole x y z = omega (arith, whole, x, y, z)

pub us_injective : (a b : ℕ) → a < 2 ^ 64 → b < 2 ^ 64 → us_text a ≡ us_text b → a ≡ b
us_injective a b fits_a fits_b same =
    let all = whole_and_places (a / microsecond) (b / microsecond) (a / 100 % 10) (a / 10 % 10) (a % 10) (b / 100 % 10) (b / 10 % 10) (b % 10)
    (omega (arith, fits_a)) (omega (arith, fits_b)) (omega arith) (omega arith) (omega arith) (omega arith) (omega arith) (omega arith) same in
    by_digits a b all.0 all.1 all.2 all.3
